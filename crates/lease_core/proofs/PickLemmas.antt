-- What is known of picked ports.
use Rattle.std.proofs.Common.{◌≡◌, ℕ, zero, suc, ◌+◌, ◌-◌, ◌≤◌, Bool, true, false, Option, Some, None, refl, ap, sym, subst, arith, inl, inr}
use Rattle.std.specs.Prelude.{◌⊎◌, ◌&&◌, ◌==◌, not}
use Rattle.std.specs.List.{range_with_len}
use Rattle.std.specs.Option.{option_map, option_or}
use Rattle.std.proofs.lemmas.Bool.{cond_both, and_parts}
use Rattle.pcp_base.specs.declared.leases.Protocol.{Protocol}
use Rattle.pcp_base.specs.declared.leases.Endpoint.{Endpoint}
use Rattle.pcp_base.specs.States.{State}
use Rattle.pcp_base.proofs.Members.{find-some}
use Rattle.external_pool.specs.declared.asks.Picked.{Picked}
use Rattle.lease_store.specs.declared.terms.Terms.{Terms}
use Rattle.lease_store.specs.Picks.{first_vacant, goes_back, is_vacant_run, longest_run, pick, run_of}

-- the longest run, as far as it is known
pub record IsRun (terms : Terms) (s : State) (m : ℕ) (protocol : Protocol) (parity : Option ℕ)
    (room : ℕ) (run : Picked) : Type 0 where
  pub some : 1 ≤ run.count
  pub within : run.count ≤ room
  pub vacant : is_vacant_run terms s m protocol parity run.count run.start ≡ true

more : {terms : Terms} {s : State} {m : ℕ} {protocol : Protocol} {parity : Option ℕ} {n : ℕ} {run : Picked} →
    IsRun terms s m protocol parity n run → IsRun terms s m protocol parity (suc n) run
more r = record { some = r.some; within = let h = r.within in omega arith; vacant = r.vacant }

either : (found : Option ℕ) (rest : Option Picked) (n : ℕ) (run : Picked) →
    option_or (option_map (run_of n) found) rest ≡ Some run →
    ((start : ℕ) × (found ≡ Some start) × (run_of n start ≡ run)) ⊎ (rest ≡ Some run)
either None rest n run h = inr h
either (Some start) rest n run h = inl (start, refl, cc)

pub longest-run : (terms : Terms) (s : State) (m : ℕ) (protocol : Protocol) (parity : Option ℕ) (n : ℕ)
    (run : Picked) → longest_run terms s m protocol parity n ≡ Some run →
    IsRun terms s m protocol parity n run
longest-run terms s m protocol parity zero run h = absurd cc
longest-run terms s m protocol parity (suc n) run h =
    elim (either (first_vacant terms s m protocol parity (suc n)) (longest_run terms s m protocol parity n) (suc n) run h) [
      | inl found ↦ subst (IsRun terms s m protocol parity (suc n)) found.2 (record {
        some = omega arith;
        within = omega arith;
        vacant = (find-some (is_vacant_run terms s m protocol parity (suc n)) (range_with_len terms.external.low (terms.external.high + 1 - terms.external.low)) found.0 found.1).1;
      })
      | inr rest ↦ more (longest-run terms s m protocol parity n run rest)
    ]

not_true : (b : Bool) → not b ≡ true → b ≡ false
not_true true h = absurd cc
not_true false h = refl

-- picked ports are those suggested, all of which go back, or the longest run
pub data IsPicked (terms : Terms) (s : State) (m : ℕ) (e : Endpoint) (suggested : ℕ) (parity : Option ℕ)
    (room : ℕ) (run : Picked) : Type 0 where
  back : (suggested == 0) ≡ false → goes_back terms s m e parity suggested room ≡ true
      → run_of room suggested ≡ run → IsPicked terms s m e suggested parity room run
  vacant : IsRun terms s m e.protocol parity room run → IsPicked terms s m e suggested parity room run

pub pick-picked : (terms : Terms) (s : State) (m : ℕ) (e : Endpoint) (suggested : ℕ) (parity : Option ℕ)
    (room : ℕ) (run : Picked) → pick terms s m e suggested parity room ≡ Some run →
    IsPicked terms s m e suggested parity room run
unfolding pick
pick-picked terms s m e suggested parity room run =
    cond_both (not (suggested == 0) && goes_back terms s m e parity suggested room) (Some (run_of room suggested))
    (longest_run terms s m e.protocol parity room)
    (λ choice. choice ≡ Some run → IsPicked terms s m e suggested parity room run)
    (λ goes same. let both = and_parts (not (suggested == 0)) (goes_back terms s m e parity suggested room) goes in
    back (not_true (suggested == 0) both.0) both.1 cc)
    (λ _ found. vacant (longest-run terms s m e.protocol parity room run found))

pub pick-within : (terms : Terms) (s : State) (m : ℕ) (e : Endpoint) (suggested : ℕ) (parity : Option ℕ)
    (room : ℕ) (run : Picked) → pick terms s m e suggested parity room ≡ Some run → run.count ≤ room
pick-within terms s m e suggested parity room run h =
    elim (pick-picked terms s m e suggested parity room run h) [
      | back suggests goes same ↦ (let e : run.count ≡ room = ap (λ (r : Picked). r.count) (sym same) in omega arith)
      | vacant r ↦ r.within
    ]
