-- The external addresses of a house at rest, and sums over them.
use Rattle.std.proofs.Common.{◌≡◌, ◌∙◌, ℕ, zero, suc, ◌<◌, ◌≤◌, max, List, [], ◌∷◌, length, map, Option, Some, None, refl, sym, ap, subst, arith}
use Rattle.std.specs.Prelude.{slice_get}
use Rattle.std.specs.Option.{option_map_or}
use Rattle.std.proofs.lemmas.List.{length-map}
use Rattle.lease_store.specs.LeaseTerms.{terms_of}
use Rattle.lease_store.specs.Lookups.{lease_count}
use Rattle.lease_store.specs.OwnerOrder.{owners_in_order}
use Rattle.shard_book.specs.Books.{BookView, IsBook}
use Rattle.lease_histories.specs.PlainHouses.{PlainHouse, PlainShard, at_last, leases_in, owners_in}
use Rattle.lease_house.specs.SoloHouses.{HouseView, plain_house, plain_shard}
use Rattle.house_lines.specs.HouseWays.{All-at, get-map}
use Rattle.house_lines.specs.Rests.{IsAtRest}
use Rattle.house_lines.proofs.KindLemmas.{IsSoundShard}
use Rattle.house_lines.proofs.StateLemmas.{get-unmap}
use Rattle.house_lines.proofs.SumLemmas.{few-leases, few-owners}

within-get : {X : Type 0} (xs : List X) (i : ℕ) → i < length xs → (x : X) × (slice_get xs i ≡ Some x)
within-get [] i h = absurd (omega (arith, h))
within-get (y ∷ xs) zero h = (y, refl)
within-get (y ∷ xs) (suc i) h = within-get xs i (omega (arith, h))

module _ {D : Type 0} (tells : Type 0) (seen : D → List ℕ) (may_leave : D → List ℕ → Type 0) (house : HouseView D) (rests : IsAtRest tells seen may_leave house) where
  count-same : length house.books ≡ length house.config.externals
  count-same = sym (length-map house.books (λ b. b.terms)) ∙ ap length rests.is.terms ∙ length-map house.config.externals (λ x. terms_of x house.config)

  pub shard-count : length (plain_house house).shards ≡ length house.config.externals
  shard-count = length-map house.books plain_shard ∙ count-same

  book-at : (place : ℕ) → place < length house.config.externals → (b : BookView D) × (slice_get house.books place ≡ Some b)
  book-at place h = let same = count-same in within-get house.books place (omega (arith, same, h))

  book-is : (place : ℕ) (b : BookView D) → slice_get house.books place ≡ Some b → IsBook tells seen may_leave b
  book-is place b there = All-at (IsBook tells seen may_leave) house.books place b rests.is.books there

  pub shards-sound : (place : ℕ) (shard : PlainShard) → slice_get (plain_house house).shards place ≡ Some shard → IsSoundShard shard
  shards-sound place shard there =
      let b = get-unmap plain_shard house.books place shard there in
      let is = book-is place b.0 b.1 in
      subst IsSoundShard b.2 (record { formed = is.reached.sound.table.maps; later = is.later })

  -- ---- how many leases and owned ports an external address has

  pub leases-few : (place m : ℕ) → place < length house.config.externals → leases_in (plain_house house) place m ≤ 32768
  leases-few place m within =
      let b = book-at place within in
      let there = get-map plain_shard house.books place b.0 b.1 in
      let e : leases_in (plain_house house) place m ≡ lease_count b.0.state.table (max m b.0.state.last) =
      ap (λ s. option_map_or (λ (s : PlainShard). lease_count s.state.table (at_last m s)) s 0) there in
      let few = few-leases b.0.state.table (max m b.0.state.last) (book-is place b.0 b.1).reached.sound.table in
      omega (arith, e, few)

  pub owners-few : (place m : ℕ) → place < length house.config.externals → length (owners_in (plain_house house) place m) ≤ 134217728
  owners-few place m within =
      let b = book-at place within in
      let there = get-map plain_shard house.books place b.0 b.1 in
      let e : length (owners_in (plain_house house) place m) ≡ length (owners_in_order b.0.state.table (max m b.0.state.last)) =
      ap (λ s. length (option_map_or (λ (s : PlainShard). owners_in_order s.state.table (at_last m s)) s [])) there in
      let few = few-owners b.0.state.table (max m b.0.state.last) (book-is place b.0 b.1).reached.sound.table in
      omega (arith, e, few)

pub owners-length : (house : PlainHouse) (place m : ℕ) →
    length (owners_in house place m) ≡ option_map_or (λ (s : PlainShard). length (owners_in_order s.state.table (at_last m s))) (slice_get house.shards place) 0
owners-length house place m = go (slice_get house.shards place)
  where
    go : (s : Option PlainShard) → length (option_map_or (λ (s : PlainShard). owners_in_order s.state.table (at_last m s)) s [])
        ≡ option_map_or (λ (s : PlainShard). length (owners_in_order s.state.table (at_last m s))) s 0
    go None = refl
    go (Some s) = refl
