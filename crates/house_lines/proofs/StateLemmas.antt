-- What a call does to the state of the external address that it is for, in the plain house.
use Rattle.std.proofs.Common.{◌≡◌, ◌∙◌, ℕ, zero, suc, max, List, [], ◌∷◌, map, Option, Some, None, refl, sym, ap, subst}
use Rattle.std.specs.Prelude.{slice_get, slice_set}
use Rattle.pcp_base.specs.declared.datagrams.Datagram.{Datagram}
use Rattle.pcp_base.specs.declared.datagrams.Entry.{Entry}
use Rattle.pcp_base.specs.declared.records.Record.{Record}
use Rattle.pcp_base.specs.Apply.{apply_all}
use Rattle.pcp_base.specs.States.{State}
use Rattle.lease_store.specs.declared.terms.Terms.{Terms}
use Rattle.lease_store.specs.LeaseTerms.{terms_of}
use Rattle.lease_core.specs.Decide.{decide}
use Rattle.shard_book.specs.Batches.{kept_before}
use Rattle.shard_book.specs.Books.{BookView}
use Rattle.lease_histories.specs.Routes.{route_of}
use Rattle.lease_histories.specs.Entries.{Request, request_of}
use Rattle.lease_histories.specs.PlainHouses.{PlainHouse, PlainShard, add_entry, entry_by, lose_after, loss_entry, loss_of, packet_after, packet_entry, raised, shard_after, with_kept}
use Rattle.lease_house.specs.SoloCalls.{loss_records, packet_records, request_records}
use Rattle.lease_house.specs.SoloHouses.{HouseView, IsHouse, plain_house, plain_shard}
use Rattle.house_lines.specs.HouseWays.{get-map}

-- ---- lists by their places

pub get-set-same : {X : Type 0} (xs : List X) (i : ℕ) (x y : X) → slice_get xs i ≡ Some x → slice_get (slice_set xs i y) i ≡ Some y
get-set-same [] i x y h = absurd cc
get-set-same (z ∷ zs) zero x y h = refl
get-set-same (z ∷ zs) (suc i) x y h = get-set-same zs i x y h

pub set-same : {X : Type 0} (xs : List X) (i : ℕ) (x : X) → slice_get xs i ≡ Some x → slice_set xs i x ≡ xs
set-same [] i x h = absurd cc
set-same (z ∷ zs) zero x h = let same : z ≡ x = cc in ap (λ w. w ∷ zs) (sym same)
set-same (z ∷ zs) (suc i) x h = ap (λ ws. z ∷ ws) (set-same zs i x h)

pub get-unmap : {X Y : Type 0} (f : X → Y) (xs : List X) (i : ℕ) (y : Y) → slice_get (map f xs) i ≡ Some y → (x : X) × (slice_get xs i ≡ Some x) × (f x ≡ y)
get-unmap f [] i y h = absurd cc
get-unmap f (z ∷ zs) zero y h = let same : f z ≡ y = cc in (z, refl, same)
get-unmap f (z ∷ zs) (suc i) y h = get-unmap f zs i y h

-- ---- an entry more

with-kept-all : (s : State) (k : Option Record) → with_kept s k ≡ apply_all s (kept_before k [])
with-kept-all s None = refl
with-kept-all s (Some r) = refl

-- what an entry keeps
abbrev entry_records : Option Entry → List Record
entry_records None = []
entry_records (Some e) = kept_before e.kept []

-- the external address has this state
pub record HasStateAt (house : PlainHouse) (place : ℕ) (s : State) : Type 0 where
  pub shard : PlainShard
  pub there : slice_get house.shards place ≡ Some shard
  pub same : shard.state ≡ s

add-state : (house : PlainHouse) (place : ℕ) (shard : PlainShard) (e : Option Entry) → slice_get house.shards place ≡ Some shard →
    HasStateAt (add_entry house place e) place (apply_all shard.state (entry_records e))
add-state house place shard None there = rw there (record { shard = shard; there = there; same = refl })
add-state house place shard (Some e) there = rw there (record {
  shard = shard_after shard e;
  there = get-set-same house.shards place shard (shard_after shard e) there;
  same = with-kept-all shard.state e.kept;
})

module _ {D : Type 0} (tells : Type 0) (seen : D → List ℕ) (may_leave : D → List ℕ → Type 0) (house : HouseView D) (is : IsHouse tells seen may_leave house) where
  -- the terms of a book are those of its external address
  terms-at : (place : ℕ) (b : BookView D) → slice_get house.books place ≡ Some b → terms_of b.terms.external house.config ≡ b.terms
  terms-at place b there =
      let told : slice_get (map (λ x. terms_of x house.config) house.config.externals) place ≡ Some b.terms =
      subst (λ ts. slice_get ts place ≡ Some b.terms) is.terms (get-map (λ b. b.terms) house.books place b there) in
      let x = get-unmap (λ x. terms_of x house.config) house.config.externals place b.terms told in
      let external : x.0 ≡ b.terms.external = ap (λ (t : Terms). t.external) x.2 in
      subst (λ y. terms_of y house.config ≡ b.terms) external x.2

  packet-records : (now place : ℕ) (from : Datagram) (b : BookView D) → slice_get house.books place ≡ Some b → (request : Option Request) →
      entry_records (entry_by (plain_house house) now from (Some (plain_shard b)) request) ≡ request_records now request b
  packet-records now place from b there None = refl
  packet-records now place from b there (Some request) =
      ap (λ (t : Terms). kept_before (decide t b.state (max now b.last) request.ask).kept []) (terms-at place b there)

  -- a datagram
  pub packet-state : (now : ℕ) (from : Datagram) (b : BookView D) → slice_get house.books (route_of house.config from) ≡ Some b →
      HasStateAt (packet_after (plain_house house) now from) (route_of house.config from) (apply_all b.state (packet_records house now from b))
  packet-state now from b there =
      let place = route_of house.config from in
      let shard = plain_shard b in
      let plain_there = get-map plain_shard house.books place b there in
      let entry = packet_entry (plain_house house) now from in
      let entry_is : entry ≡ entry_by (plain_house house) now from (Some shard) (request_of house.config from) =
      ap (λ s. entry_by (plain_house house) now from s (request_of house.config from)) plain_there in
      let records_are : entry_records entry ≡ packet_records house now from b = ap entry_records entry_is ∙ packet-records now place from b there (request_of house.config from) in
      subst (λ rs. HasStateAt (packet_after (plain_house house) now from) place (apply_all b.state rs)) records_are
      (add-state (plain_house house) place shard entry plain_there)

-- a loss
pub lose-state : {D : Type 0} (house : HouseView D) (place now : ℕ) (b : BookView D) → slice_get house.books place ≡ Some b →
    HasStateAt (lose_after (plain_house house) place now) place (apply_all b.state (loss_records now b))
lose-state house place now b there =
    let shard = plain_shard b in
    let plain_there = get-map plain_shard house.books place b there in
    let entry = loss_entry (plain_house house) place now in
    let entry_is : entry ≡ Some (loss_of (plain_house house) (raised now shard)) = rw plain_there refl in
    let records_are : entry_records entry ≡ loss_records now b = ap entry_records entry_is in
    subst (λ rs. HasStateAt (lose_after (plain_house house) place now) place (apply_all b.state rs)) records_are
    (add-state (plain_house house) place shard entry plain_there)
