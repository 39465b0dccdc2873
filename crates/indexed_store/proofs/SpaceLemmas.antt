-- Whether one more lease may be live.
use Rattle.std.proofs.Common.{◌≡◌, ℕ, ◌+◌, ◌<◌, ◌≤◌, Bool, true, false, nat_lt, not, List, length, filter, refl, sym, ap, ◌∙◌, arith}
use Rattle.std.specs.List.{AllByRecursion, list_any}
use Rattle.std.proofs.lemmas.List.Sums.{length-filter, count_by-le-length}
use Rattle.std.proofs.lemmas.List.Filters.{length-filter_both}
use Rattle.std.proofs.lemmas.Bool.{lt-ltb, le-ltb}
use Rattle.pcp_base.specs.declared.leases.TheConstants.{MOST_LEASES}
use Rattle.pcp_base.specs.Tables.{Table, live}
use Rattle.mapping_table.specs.MapLists.{is_live_map}
use Rattle.peer_table.specs.PeerLists.{is_ended_peer, is_live_peer}
use Rattle.lease_store.specs.Lookups.{lease_count}
use Rattle.pcp_base.proofs.Members.{any-none, any-some, All-weaker, filter-all}
use Rattle.ordered_index.proofs.EntryLaws.{count-some}

module _ {X : Type 0} (p : X → Bool) where
  -- not more pass than there are
  pub few-pass : (xs : List X) → length (filter p xs) ≤ length xs
  few-pass xs = let is = length-filter p xs in let few = count_by-le-length p xs in omega (arith, is, few)

  -- fewer pass where one fails
  pub fewer-pass : (xs : List X) → list_any (λ x. not (p x)) xs ≡ true → length (filter p xs) < length xs
  fewer-pass xs h =
      let one = any-some (λ x. not (p x)) xs h in
      let some = count-some (λ x. not (p x)) xs one.0 one.1 one.2 in
      let is = length-filter (λ x. not (p x)) xs in
      let both = length-filter_both p (λ x. not (p x)) (λ x. refl) xs in
      omega (arith, some, is, both)

  passing : (b : Bool) → not b ≡ false → b ≡ true
  passing true h = refl
  passing false h = absurd (let never : true ≡ false = h in cc)

  -- all pass where none fails
  pub all-pass : (xs : List X) → list_any (λ x. not (p x)) xs ≡ false → length (filter p xs) ≡ length xs
  all-pass xs h = ap length (filter-all p xs (All-weaker (λ x. not (p x) ≡ false) (λ x. p x ≡ true) (λ x k. passing (p x) k) xs (any-none (λ x. not (p x)) xs h)))

module _ (t : Table) (m : ℕ) (few : length t.maps + length t.peers ≤ MOST_LEASES) where
  maps-few : length (live t m).maps ≤ length t.maps
  maps-few = few-pass (is_live_map m) t.maps

  peers-few : length (live t m).peers ≤ length t.peers
  peers-few = few-pass (is_live_peer m) t.peers

  pub space-few : length t.maps + length t.peers < MOST_LEASES → true ≡ nat_lt (lease_count t m) MOST_LEASES
  space-few h = let a = maps-few in let b = peers-few in sym (lt-ltb (lease_count t m) MOST_LEASES (omega (arith, h, a, b)))

  pub space-map : list_any (λ l. not (is_live_map m l)) t.maps ≡ true → true ≡ nat_lt (lease_count t m) MOST_LEASES
  space-map h = let a = fewer-pass (is_live_map m) t.maps h in let b = peers-few in sym (lt-ltb (lease_count t m) MOST_LEASES (omega (arith, few, a, b)))

  pub space-peer : MOST_LEASES ≤ length t.maps + length t.peers → list_any (λ l. not (is_live_map m l)) t.maps ≡ false
      → (b : Bool) → list_any (is_ended_peer m) t.peers ≡ b → b ≡ nat_lt (lease_count t m) MOST_LEASES
  space-peer full none true h = let a = maps-few in let b = fewer-pass (is_live_peer m) t.peers h in sym (lt-ltb (lease_count t m) MOST_LEASES (omega (arith, few, a, b)))
  space-peer full none false h =
      let a = all-pass (is_live_map m) t.maps none in let b = all-pass (is_live_peer m) t.peers h in
      sym (le-ltb (lease_count t m) MOST_LEASES (omega (arith, full, a, b)))
