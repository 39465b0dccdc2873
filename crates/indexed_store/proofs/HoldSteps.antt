-- What it takes to hold ports.
use Rattle.std.specs.Prelude.{min, ◌≢◌}
use Rattle.std.proofs.Common.{◌≡◌, ◌⊎◌, ℕ, zero, suc, ◌+◌, ◌-◌, ◌*◌, ◌<◌, ◌≤◌, ◌&&◌, ◌==◌, nat_lt, Bool, true, false, cond, List, Contains, Option, Some, None, IfSome, is_some, refl, sym, ap, ◌∙◌, inl, inr, arith}
use Rattle.std.specs.List.{list_any}
use Rattle.std.proofs.lemmas.Bool.{and_parts, and_from, eqb-true, ltb-true, ltb-false}
use Rattle.std.proofs.lemmas.Nat.{mul-le}
use Rattle.pcp_base.specs.declared.leases.Endpoint.{Endpoint}
use Rattle.pcp_base.specs.declared.leases.End.{End}
use Rattle.pcp_base.specs.declared.leases.PeerLease.{PeerLease}
use Rattle.pcp_base.specs.declared.leases.Protocol.{Protocol}
use Rattle.pcp_base.specs.declared.records.Change.{Change}
use Rattle.pcp_base.specs.declared.records.Change.TheVariants.{Start, Map, Peer, DropMap, DropPeer, Lose, Mark, Rest, Renumber}
use Rattle.pcp_base.specs.declared.records.Record.{Record}
use Rattle.pcp_base.specs.Tables.{Table, live, same_endpoint}
use Rattle.pcp_base.specs.Owners.{is_port, peer_owner}
use Rattle.pcp_base.specs.Ends.{end_at}
use Rattle.pcp_base.proofs.Members.{IsIn, IsIn-from_Contains, Contains-from_IsIn, any-some, some-any}
use Rattle.pcp_base.proofs.Same.{same_endpoint-Decides, same_protocol-Decides}
use Rattle.pcp_base.proofs.StageLaws.{unlike}
use Rattle.peer_table.specs.PeerLists.{IsNextOwned}
use Rattle.port_spans.specs.declared.runs.Run.{Run}
use Rattle.port_spans.specs.Runs.{run_at}
use Rattle.port_spans.specs.Along.{spot, spot_of}
use Rattle.leased_ports.specs.declared.steps.TheConstants.{PUT_STEPS, TAKEN_STEPS}
use Rattle.leased_ports.specs.Among.{starts_at, starts_among, runs_among}
use Rattle.leased_ports.specs.Leased.{Leased}
use Rattle.leased_ports.specs.Steps.{IsOwnRun}
use Rattle.leased_ports.proofs.CountLemmas.{one, one_le}
use Rattle.indexed_store.specs.declared.owning.OwnerRun.{OwnerRun}
use Rattle.indexed_store.specs.Runs.{IsOwnerRun, behind, has_port, owner_along, touched_run, up_to}
use Rattle.indexed_store.specs.Looks.{change_steps, hold_steps, is_own, is_parted, most_levels, piece_steps, puts_peer, ports_steps, run_steps, touched_steps}
use Rattle.indexed_store.proofs.RunLemmas.{along_none, in_place}

-- ---- runs among ports

starts-most : (runs : List (Run End)) (at n : ℕ) → starts_among runs at n ≤ n
unfolding starts_among
starts-most runs at zero = omega arith
starts-most runs at (suc n) =
    let rest = starts-most runs (at + 1) n in
    let here : one (starts_at at (run_at runs at)) ≤ 1 = one_le (starts_at at (run_at runs at)) true (λ h. refl) in
    omega (arith, rest, here)

-- there are no more of them than ports
among-most : (runs : List (Run End)) (at n : ℕ) → runs_among runs at n ≤ n
among-most runs at zero = omega arith
among-most runs at (suc n) =
    let rest = starts-most runs (at + 1) n in
    let here : one (is_some (run_at runs at)) ≤ 1 = one_le (is_some (run_at runs at)) true (λ h. refl) in
    omega (arith, rest, here)

-- what a port takes of several that are held one by one
abbrev pub each : ℕ
each = 18 * most_levels + PUT_STEPS + TAKEN_STEPS

module _ (v : Leased) (r : OwnerRun) where
  run-most : run_steps v r ≤ PUT_STEPS + TAKEN_STEPS * r.count
  run-most = step (is_own r (run_at v.runs (spot r.first.protocol r.first.external)))
    where
      step : (b : Bool) → PUT_STEPS + cond {A = ℕ} b 0 (TAKEN_STEPS * runs_among v.runs (spot r.first.protocol r.first.external) r.count) ≤ PUT_STEPS + TAKEN_STEPS * r.count
      step true = omega arith
      step false = let few = among-most v.runs (spot r.first.protocol r.first.external) r.count in omega (arith, few)

  -- in one piece not more than one by one
  run-within : 1 ≤ r.count → 18 * most_levels + run_steps v r ≤ r.count * each
  run-within some =
      let most = run-most in
      let looks : 1 * most_levels ≤ r.count * most_levels = mul-le 1 most_levels r.count most_levels some (omega arith) in
      omega (arith, most, looks, some)

  -- ports that are given their last ends, by what that takes where they are a run already, and where they aren't
  pub given-within : (until : ℕ) → IsOwnerRun r → (before after : ℕ) → ((x : Run End) → IsOwnRun v.runs (end_at until r.first) r.count x → after ≤ before + PUT_STEPS)
      → after ≤ before + PUT_STEPS + TAKEN_STEPS * runs_among v.runs (spot_of (end_at until r.first)) r.count → after ≤ before + run_steps v r
  given-within until formed before after own all = step (run_at v.runs (spot r.first.protocol r.first.external)) refl (is_own r (run_at v.runs (spot r.first.protocol r.first.external))) refl
    where
      same_spot : spot r.first.protocol r.first.external ≡ spot_of (end_at until r.first)
      same_spot = ap (λ (p : Protocol). spot p r.first.external) formed.protocol

      step : (o : Option (Run End)) → run_at v.runs (spot r.first.protocol r.first.external) ≡ o → (b : Bool) → is_own r o ≡ b
          → after ≤ before + (PUT_STEPS + cond {A = ℕ} b 0 (TAKEN_STEPS * runs_among v.runs (spot r.first.protocol r.first.external) r.count))
      step o is false e = let same = ap (λ (k : ℕ). runs_among v.runs k r.count) same_spot in omega (arith, all, same)
      step None is true e = absurd (let never : false ≡ true = e in cc)
      step (Some x) is true e =
          let k = and_parts (x.first == spot r.first.protocol r.first.external && x.count == r.count) (x.value.external == r.first.external && same_endpoint x.value.endpoint r.first.endpoint) e in
          let place = and_parts (x.first == spot r.first.protocol r.first.external) (x.count == r.count) k.0 in
          let value = and_parts (x.value.external == r.first.external) (same_endpoint x.value.endpoint r.first.endpoint) k.1 in
          let first : x.first ≡ spot r.first.protocol r.first.external = eqb-true _ _ place.0 in
          let endpoint : x.value.endpoint ≡ r.first.endpoint = (same_endpoint-Decides x.value.endpoint r.first.endpoint).0 value.1 in
          let external : x.value.external ≡ r.first.external = eqb-true _ _ value.0 in
          let paid = own x (record {
            there = ap (run_at v.runs) first ∙ is;
            at_first = first ∙ same_spot;
            count = eqb-true _ _ place.1;
            same =
                ap (λ (p : Endpoint). record { endpoint = p; external = x.value.external; end = x.value.end }) endpoint
                ∙ ap (λ (n : ℕ). record { endpoint = r.first.endpoint; external = n; end = x.value.end }) external;
          }) in
          omega (arith, paid)

-- ---- how far a piece goes

module _ (peers : List PeerLease) (r : OwnerRun) (next : ℕ) (owned : IsNextOwned r.first.protocol r.first.external peers (Some next)) (unparted : is_parted peers r ≡ false) where
  -- of several ports PEER leases own none
  one-owned : next < r.first.external + r.count → r.count ≤ 1
  one-owned less = step (nat_lt 1 r.count) refl
    where
      step : (b : Bool) → nat_lt 1 r.count ≡ b → r.count ≤ 1
      step false e = let few = ltb-false 1 r.count e in omega (arith, few)
      step true e =
          let l = any-some (λ l. is_port r.first.protocol next (peer_owner l)) peers owned.owned in
          let k = and_parts _ _ l.2 in
          let from : r.first.external ≤ next = owned.from in
          let same : r.first.protocol ≡ l.0.endpoint.protocol = sym ((same_protocol-Decides l.0.endpoint.protocol r.first.protocol).0 k.0) in
          let external : l.0.external ≡ next = eqb-true l.0.external next k.1 in
          let has : has_port l.0.endpoint.protocol l.0.external r ≡ true =
          in_place l.0.endpoint.protocol l.0.external r (next - r.first.external) (omega (arith, from, less)) same (omega (arith, from, external)) in
          absurd (unlike (is_parted peers r) (and_from (nat_lt 1 r.count) (list_any (λ l. has_port l.endpoint.protocol l.external r) peers) e (some-any (λ l. has_port l.endpoint.protocol l.external r) peers l.0 l.1 has)) unparted)

  pub whole-one : next ≡ r.first.external → 1 ≤ r.count → 1 ≡ r.count
  whole-one first some = let few = one-owned (omega (arith, first, some)) in omega (arith, few, some)

  pub whole-up : next ≢ r.first.external → min r.count (next - r.first.external) ≡ r.count
  whole-up other = step (nat_lt next (r.first.external + r.count)) refl
    where
      from : r.first.external ≤ next
      from = owned.from

      step : (b : Bool) → nat_lt next (r.first.external + r.count) ≡ b → min r.count (next - r.first.external) ≡ r.count
      step true e = let few = one-owned (ltb-true next (r.first.external + r.count) e) in omega (arith, few, from, other)
      step false e = let far = ltb-false next (r.first.external + r.count) e in omega (arith, far, from, other)

-- ---- what pieces take

-- in pieces not more than one by one
piece-most : (v : Leased) (peers : List PeerLease) (r : OwnerRun) → 1 ≤ r.count → piece_steps v peers r ≤ r.count * each
piece-most v peers r some = step (is_parted peers r)
  where
    step : (b : Bool) → cond {A = ℕ} b (r.count * each) (18 * most_levels + run_steps v r) ≤ r.count * each
    step true = omega arith
    step false = run-within v r some

module _ (v : Leased) (r : OwnerRun) (n before after : ℕ) (some : 1 ≤ n) (spent : after ≤ before + (18 * most_levels + run_steps v (up_to n r))) where
  -- the first n ports in one piece
  pub piece-each : after ≤ before + n * each
  piece-each = let within = run-within v (up_to n r) some in omega (arith, spent, within)

  pub piece-within : (peers : List PeerLease) → n ≤ r.count → (is_parted peers r ≡ false → n ≡ r.count) → after ≤ before + piece_steps v peers r
  piece-within peers few whole = step (is_parted peers r) refl
    where
      step : (b : Bool) → is_parted peers r ≡ b → after ≤ before + cond {A = ℕ} b (r.count * each) (18 * most_levels + run_steps v r)
      step true e = let one = piece-each in let all = mul-le n each r.count each few (omega arith) in omega (arith, one, all)
      step false e = let same = ap (λ (k : ℕ). run_steps v (up_to k r)) (whole e) in omega (arith, spent, same)

-- ---- a run piece by piece

-- what its first ports took: those of one that PEER leases part, and of another, where no piece or
-- the one that it has was given
abbrev pub IsPaid : Bool → Leased → Leased → OwnerRun → (done before after : ℕ) → Type 0
IsPaid true v ports r done before after = after ≤ before + done * each
IsPaid false v ports r done before after =
    ((done ≡ 0) × (ports ≡ v) × (after ≤ before)) ⊎ ((done ≡ r.count) × (after ≤ before + (18 * most_levels + run_steps v r)))

pub paid-none : (b : Bool) (v : Leased) (r : OwnerRun) (before : ℕ) → IsPaid b v v r 0 before before
paid-none true v r before = omega arith
paid-none false v r before = inl (refl, refl, omega arith)

behind-none : (r : OwnerRun) → behind 0 r ≡ r
behind-none r =
    let count : r.count - 0 ≡ r.count = omega arith in
    ap (λ (n : ℕ). record { first = owner_along 0 r.first; count = n }) count ∙ ap (λ o. record { first = o; count = r.count }) (along_none r.first)

-- ports that are left, one by one
rest-within : (done left count cost before mid after spent : ℕ) → done + left ≡ count → mid ≤ before + done * cost → after ≤ mid + spent → spent ≤ left * cost → after ≤ before + count * cost
rest-within done left count cost before mid after spent all paid last within =
    let total : (done + left) * cost ≡ count * cost = ap (λ (n : ℕ). n * cost) all in
    omega (arith, total, paid, last, within)

module _ (peers : List PeerLease) (v ports : Leased) (r : OwnerRun) (done before mid : ℕ) where
  -- the first piece of a run that isn't parted
  first-spent : done ≡ 0 → ports ≡ v → is_parted peers r ≡ false → piece_steps ports peers (behind done r) ≡ 18 * most_levels + run_steps v r
  first-spent none same e =
      ap (λ (k : ℕ). piece_steps ports peers (behind k r)) none
      ∙ ap (piece_steps ports peers) (behind-none r)
      ∙ ap (λ (w : Leased). piece_steps w peers r) same
      ∙ ap (λ (b : Bool). cond {A = ℕ} b (r.count * each) (18 * most_levels + run_steps v r)) e

  module _ (less : done < r.count) (after : ℕ) (all : after ≤ mid + piece_steps ports peers (behind done r)) where
    pub paid-more : (b : Bool) → is_parted peers r ≡ b → IsPaid b v ports r done before mid → (n : ℕ) (new : Leased) → (is_parted peers (behind done r) ≡ false → n ≡ r.count - done)
        → after ≤ mid + n * each → IsPaid b v new r (done + n) before after
    paid-more true e paid n new whole one = omega (arith, paid, one)
    paid-more false e (inl p) n new whole one =
        let start : behind done r ≡ r = ap (λ (k : ℕ). behind k r) p.0 ∙ behind-none r in
        let last : n ≡ r.count - done = whole (ap (is_parted peers) start ∙ e) in
        let spent = first-spent p.0 p.1 e in
        inr (omega (arith, last, less), omega (arith, all, spent, p.2))
    paid-more false e (inr p) n new whole one = absurd (omega (arith, p.0, less))

    -- where memory is wanting for the next one
    pub paid-refused : IsPaid (is_parted peers r) v ports r done before mid → after ≤ before + piece_steps v peers r
    paid-refused = step (is_parted peers r) refl
      where
        step : (b : Bool) → is_parted peers r ≡ b → IsPaid b v ports r done before mid → after ≤ before + cond {A = ℕ} b (r.count * each) (18 * most_levels + run_steps v r)
        step true e paid =
            rest-within done (r.count - done) r.count each before mid after (piece_steps ports peers (behind done r)) (omega (arith, less)) paid all
            (piece-most ports peers (behind done r) (omega (arith, less)))
        step false e (inl p) = let spent = first-spent p.0 p.1 e in omega (arith, all, spent, p.2)
        step false e (inr p) = absurd (omega (arith, p.0, less))

  pub paid-whole : done ≡ r.count → 1 ≤ r.count → IsPaid (is_parted peers r) v ports r done before mid → mid ≤ before + piece_steps v peers r
  paid-whole whole some = step (is_parted peers r)
    where
      step : (b : Bool) → IsPaid b v ports r done before mid → mid ≤ before + cond {A = ℕ} b (r.count * each) (18 * most_levels + run_steps v r)
      step true paid = let total : done * each ≡ r.count * each = ap (λ (n : ℕ). n * each) whole in omega (arith, paid, total)
      step false (inl p) = absurd (omega (arith, p.0, whole, some))
      step false (inr p) = p.1

-- ---- what a record touches

-- by the runs of ports alone
pub touched-same : (peers : List PeerLease) (touched o : Option OwnerRun) (before reached rested : Leased) → touched ≡ o → IfSome o (λ run. rested ≡ reached) → reached.runs ≡ before.runs
    → touched_steps rested peers touched ≡ touched_steps before peers touched
touched-same peers touched o before reached rested is stay runs = ap (touched_steps rested peers) is ∙ step o stay ∙ sym (ap (touched_steps before peers) is)
  where
    step : (o : Option OwnerRun) → IfSome o (λ run. rested ≡ reached) → touched_steps rested peers o ≡ touched_steps before peers o
    step None h = refl
    step (Some r) h = ap (λ (x : List (Run End)). hold_steps (record before { runs = x }) peers r) (ap (λ (w : Leased). w.runs) h ∙ runs)

module _ (v : Leased) (old new : List PeerLease) where
  -- beside fewer PEER leases not more
  beside-fewer : ((l : PeerLease) → Contains new l → Contains old l) → (o : Option OwnerRun) → touched_steps v new o ≤ touched_steps v old o
  beside-fewer from None = omega arith
  beside-fewer from (Some r) = step (is_parted new r) (is_parted old r) refl refl
    where
      step : (a b : Bool) → is_parted new r ≡ a → is_parted old r ≡ b
          → 4 * most_levels + cond {A = ℕ} a (r.count * each) (18 * most_levels + run_steps v r) ≤ 4 * most_levels + cond {A = ℕ} b (r.count * each) (18 * most_levels + run_steps v r)
      step true true h k = omega arith
      step false false h k = omega arith
      step false true h k =
          let several = ltb-true 1 r.count (and_parts (nat_lt 1 r.count) (list_any (λ l. has_port l.endpoint.protocol l.external r) old) k).0 in
          let within = run-within v r (omega (arith, several)) in
          omega (arith, within)
      step true false h k =
          let p = and_parts (nat_lt 1 r.count) (list_any (λ l. has_port l.endpoint.protocol l.external r) new) h in
          let l = any-some (λ l. has_port l.endpoint.protocol l.external r) new p.1 in
          let there = IsIn-from_Contains old l.0 (from l.0 (Contains-from_IsIn new l.0 l.1)) in
          absurd (unlike (is_parted old r) (and_from (nat_lt 1 r.count) (list_any (λ l. has_port l.endpoint.protocol l.external r) old) p.0 (some-any (λ l. has_port l.endpoint.protocol l.external r) old l.0 there l.2)) k)

  touched-fewer : (change : Change) (t : Table) → (puts_peer change ≡ false → (l : PeerLease) → Contains new l → Contains old l)
      → touched_steps v new (touched_run change t) ≤ touched_steps v old (touched_run change t)
  touched-fewer (Peer l) t from = omega arith
  touched-fewer (Map l) t from = beside-fewer (from refl) (touched_run (Map l) t)
  touched-fewer (DropMap e) t from = beside-fewer (from refl) (touched_run (DropMap e) t)
  touched-fewer (DropPeer e remote port) t from = beside-fewer (from refl) (touched_run (DropPeer e remote port) t)
  touched-fewer Start t from = omega arith
  touched-fewer Lose t from = omega arith
  touched-fewer Mark t from = omega arith
  touched-fewer (Rest e port end) t from = omega arith
  touched-fewer (Renumber a) t from = omega arith

-- a record that doesn't forget all, but for the leases that ended
pub moved-within : (leases t : Table) (ports : Leased) (r : Record) (touched : Option OwnerRun) → touched ≡ touched_run r.change (live leases r.moment)
    → (puts_peer r.change ≡ false → (l : PeerLease) → Contains t.peers l → Contains leases.peers l) → (before changed moved : ℕ) → changed ≤ before + change_steps r.moment r.change leases
    → moved ≤ changed + (ports_steps + (PUT_STEPS + TAKEN_STEPS) + touched_steps ports t.peers touched)
    → moved ≤ before + (ports_steps + change_steps r.moment r.change leases + (PUT_STEPS + TAKEN_STEPS) + touched_steps ports leases.peers (touched_run r.change (live leases r.moment)))
moved-within leases t ports r touched is from before changed moved first second =
    let same = ap (touched_steps ports t.peers) is in
    let fewer = touched-fewer ports leases.peers t.peers r.change (live leases r.moment) from in
    omega (arith, first, second, same, fewer)
