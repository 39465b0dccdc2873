-- Of the keys of an endpoint one at most has a remote.
use Rattle.std.proofs.Common.{◌≡◌, ℕ, ◌+◌, ◌≤◌, ◌&&◌, Bool, true, false, List, [], ◌∷◌, count_by, refl, sym, ap, ◌∙◌, arith}
use Rattle.std.specs.List.{AllByRecursion}
use Rattle.std.specs.declared.ops.Bound.TheVariants.{Included, Excluded}
use Rattle.std.specs.BTreeMap.{values}
use Rattle.std.specs.BTreeMap.Range.{range_contains, entries_between}
use Rattle.std.proofs.lemmas.Bool.{and_parts, and_from}
use Rattle.pcp_base.specs.declared.leases.PeerLease.{PeerLease}
use Rattle.pcp_base.specs.Tables.{EachTwo, is_peer_of, names}
use Rattle.ordered_index.specs.declared.numbered.Numbered.{Numbered}
use Rattle.ordered_index.proofs.Endings.{count-values}
use Rattle.ordered_index.proofs.Entries.{false_by, same_tests}
use Rattle.ordered_index.proofs.EntryLaws.{tally, count-cons}
use Rattle.ordered_index.proofs.Keeping.{each_weaker}
use Rattle.peer_table.specs.PeerLists.{AreFellows}
use Rattle.peer_table.specs.Kept.{PeerKey, Opening, key_cmp, key_of_lease, AreKeptPeers, IsBound, has_remote}
use Rattle.peer_table.proofs.Fellows.{clash, key_parts, remote_parts}
use Rattle.peer_table.proofs.PeerKeeping.{peer_tells}
use Rattle.peer_table.proofs.PortUses.{count_same, count_filtered, within_names}

module _ {X : Type 0} (passes : X → Bool) where
  none_beside : (x : X) (xs : List X) → passes x ≡ true → AllByRecursion (λ y. passes x ≡ true → passes y ≡ true → ⊥) xs → count_by passes xs ≡ 0
  none_beside x [] t h = refl
  none_beside x (y ∷ ys) t h =
      let all = count-cons passes y ys in
      let first : tally (passes y) ≡ 0 = ap tally (false_by (passes y) (h.0 t)) in
      let rest = none_beside x ys t h.1 in
      omega (arith, all, first, rest)

  one_step : (x : X) (xs : List X) (b : Bool) → passes x ≡ b → AllByRecursion (λ y. passes x ≡ true → passes y ≡ true → ⊥) xs → count_by passes xs ≤ 1 →
      count_by passes (x ∷ xs) ≡ tally b + count_by passes xs → count_by passes (x ∷ xs) ≤ 1
  one_step x xs true e h rest all =
      let none = none_beside x xs e h in let is : count_by passes (x ∷ xs) ≡ 1 + count_by passes xs = all in omega (arith, none, is)
  one_step x xs false e h rest all = let is : count_by passes (x ∷ xs) ≡ 0 + count_by passes xs = all in omega (arith, rest, is)

  -- where no two pass, one at most does
  one_counted : (xs : List X) → EachTwo (λ a b. passes a ≡ true → passes b ≡ true → ⊥) xs → count_by passes xs ≤ 1
  one_counted [] h = let none : count_by passes [] ≡ 0 = refl in omega (arith, none)
  one_counted (x ∷ xs) h = one_step x xs (passes x) refl h.0 (one_counted xs h.1) (count-cons passes x xs)

module _ (l : PeerLease) (it : Numbered PeerLease PeerKey Opening) (h : AreKeptPeers it) where
  abbrev has_key : PeerLease → Bool
  has_key = is_peer_of l.endpoint l.remote l.remote_port

  abbrev remote_of : PeerLease → Bool
  remote_of x = has_remote l.remote l.remote_port (key_of_lease x)

  apart : (a b : PeerLease) → AreFellows a b → has_key a ≡ true → has_key b ≡ true → ⊥
  apart a b fellows s t =
      let tells = peer_tells l.endpoint l.remote l.remote_port in
      clash (is_peer_of b.endpoint b.remote b.remote_port a) ((peer_tells b.endpoint b.remote b.remote_port).from a (tells.to a s ∙ sym (tells.to b t))) fellows.keys

  module _ (lo hi : PeerKey) (low : IsBound l.endpoint 0 lo) (high : IsBound l.endpoint 2 hi) where
    abbrev within : PeerKey → Bool
    within k = range_contains key_cmp (Included lo) (Excluded hi) k

    keyed : (x : PeerLease) → (within (key_of_lease x) && remote_of x) ≡ has_key x
    keyed x =
        ap (λ t. t && remote_of x) (within_names it h l.endpoint lo hi low high x)
        ∙ same_tests (names x l.endpoint && remote_of x) (has_key x)
        (λ t. let p = and_parts _ _ t in key_parts l x p.0 p.1)
        (λ t. and_from _ _ (and_parts _ _ (and_parts _ _ t).0).0 (remote_parts l x t))

    pub one_remote : count_by (λ (e : PeerKey × ℕ). has_remote l.remote l.remote_port e.0) (entries_between key_cmp (Included lo) (Excluded hi) it.keys.entries) ≤ 1
    one_remote =
        let test : PeerKey × ℕ → Bool = λ e. has_remote l.remote l.remote_port e.0 in
        let there = count_filtered test (λ (e : PeerKey × ℕ). within e.0) it.keys.entries in
        let keys = h.kept.keys (λ (e : PeerKey × ℕ). within e.0 && test e) in
        let same = count_same (λ (x : ℕ × PeerLease). within (key_of_lease x.1) && remote_of x.1) (λ (x : ℕ × PeerLease). has_key x.1) it.leases.entries (λ x i. keyed x.1) in
        let listed = count-values has_key it.leases.entries in
        let one = one_counted has_key (values it.leases) (each_weaker AreFellows (λ a b. has_key a ≡ true → has_key b ≡ true → ⊥) apart (values it.leases) h.sound.fellows) in
        omega (arith, there, keys, same, listed, one)
