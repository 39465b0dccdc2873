-- Runs of ports, one port less.
use Rattle.std.proofs.Common.{◌≡◌, ℕ, suc, ◌+◌, ◌∙◌, Bool, true, false, Option, Some, None, option_map, sym, ap, refl, subst}
use Rattle.std.specs.List.{list_all, range_with_len}
use Rattle.std.specs.Option.{option_or}
use Rattle.pcp_base.specs.declared.leases.Protocol.{Protocol}
use Rattle.pcp_base.specs.States.{State}
use Rattle.external_pool.specs.declared.asks.Picked.{Picked}
use Rattle.lease_store.specs.declared.terms.Terms.{Terms}
use Rattle.lease_store.specs.Picks.{first_vacant, run_of, longest_run}

pub all_later : (test : ℕ → Bool) (a n k : ℕ) → n ≡ suc k → test a ≡ true → list_all test (range_with_len a n) ≡ list_all test (range_with_len (a + 1) k)
all_later test a n k e passes = rw (e, passes) refl

pub one_fails : (test : ℕ → Bool) (a n k : ℕ) → n ≡ suc k → test a ≡ false → false ≡ list_all test (range_with_len a n)
one_fails test a n k e fails = rw (e, fails) refl

module _ (terms : Terms) (s : State) (m : ℕ) (protocol : Protocol) (parity : Option ℕ) where
  abbrev run : ℕ → Option Picked
  run n = option_map (run_of n) (first_vacant terms s m protocol parity n)

  -- no run is so long, so the longest is shorter
  pub shorter : (n k : ℕ) → n ≡ suc k → run n ≡ None → longest_run terms s m protocol parity n ≡ longest_run terms s m protocol parity k
  shorter n k e none =
      let none_here : run (suc k) ≡ None = subst (λ (x : ℕ). run x ≡ None) e none in
      ap (longest_run terms s m protocol parity) e ∙ ap (λ (o : Option Picked). option_or o (longest_run terms s m protocol parity k)) none_here

  -- a run is so long
  pub longest : (n k : ℕ) (found : Picked) → n ≡ suc k → run n ≡ Some found → Some found ≡ longest_run terms s m protocol parity n
  longest n k found e some =
      let some_here : run (suc k) ≡ Some found = subst (λ (x : ℕ). run x ≡ Some found) e some in
      sym (ap (λ (o : Option Picked). option_or o (longest_run terms s m protocol parity k)) some_here) ∙ ap (longest_run terms s m protocol parity) (sym e)
