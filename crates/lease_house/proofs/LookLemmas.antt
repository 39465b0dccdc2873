-- What is looked up in a settled book.
use Rattle.std.specs.Prelude.{is_some, max}
use Rattle.std.specs.List.{slice_get}
use Rattle.std.specs.Option.{option_and_then, option_map, option_map_or}
use Rattle.std.proofs.Common.{◌≡◌, ◌∙◌, ℕ, ◌<◌, List, length, get_or, Option, None, Some, refl, ap, sym, subst, arith}
use Rattle.pcp_base.specs.declared.configs.Config.{Config}
use Rattle.pcp_base.specs.declared.leases.Endpoint.{Endpoint}
use Rattle.pcp_base.specs.States.{State}
use Rattle.lease_disk.specs.declared.disks.DiskPair.{DiskPair}
use Rattle.lease_store.specs.Lookups.{covering}
use Rattle.shard_book.specs.Books.{BookView}
use Rattle.lease_histories.specs.PlainHouses.{PlainShard, at_last}
use Rattle.lease_house.specs.SoloHouses.{HouseView, IsHouse, plain_house, plain_shard}
use Rattle.lease_house.proofs.BookLemmas.{book-count, house-of}
use Rattle.lease_house.proofs.ListLemmas.{get-map}
use Rattle.std.proofs.lemmas.Option.{slice_get_read}

-- the book that was read is there
pub book-there : {D : Type 0} (tells : Type 0) (seen : D → List ℕ) (may_leave : D → List ℕ → Type 0) (h : HouseView D) (config : Config) (books : List (BookView D))
    (spare : List (DiskPair D)) (place : ℕ) (b : BookView D) → house-of config books spare ≡ h → IsHouse tells seen may_leave (house-of config books spare) →
    place < length h.config.externals → b ≡ get_or books place b → slice_get h.books place ≡ Some b
book-there {D} tells seen may_leave h config books spare place b same is within read =
    let long = book-count tells seen may_leave (house-of config books spare) is in
    let configured = ap (λ (v : HouseView D). length v.config.externals) same in
    let inside : place < length books = omega (arith, long, configured, within) in
    subst (λ (v : HouseView D). slice_get v.books place ≡ Some b) same (slice_get_read books (length books) place b refl inside read)

pub state-there : {D : Type 0} (h : HouseView D) (place : ℕ) (b : BookView D) (s : State) → slice_get h.books place ≡ Some b → s ≡ b.state →
    option_map (λ (x : PlainShard). x.state) (slice_get (plain_house h).shards place) ≡ Some s
state-there {D} h place b s there same =
    ap (λ (o : Option PlainShard). option_map (λ (x : PlainShard). x.state) o) (get-map plain_shard h.books place b there) ∙ ap (λ (x : State). Some x) (sym same)

pub last-there : {D : Type 0} (h : HouseView D) (place n : ℕ) (b : BookView D) → slice_get h.books place ≡ Some b → n ≡ b.last →
    n ≡ option_map_or (λ (x : PlainShard). x.last) (slice_get (plain_house h).shards place) 0
last-there {D} h place n b there same =
    same ∙ sym (ap (λ (o : Option PlainShard). option_map_or (λ (x : PlainShard). x.last) o 0) (get-map plain_shard h.books place b there))

pub looked : {B : Type 0} (f : State → ℕ → B) (d : B) (found : Option PlainShard) (s : State) (m n : ℕ) → option_map (λ (x : PlainShard). x.state) found ≡ Some s →
    n ≡ max m s.last → option_map_or (λ (x : PlainShard). f x.state (at_last m x)) found d ≡ f s n
looked f d None s m n h is = absurd cc
looked f d (Some x) s m n h is =
    let same : x.state ≡ s = cc in
    ap (λ (t : State). f t (max m t.last)) same ∙ ap (λ (k : ℕ). f s k) (sym is)

pub covered-there : (e : Endpoint) (found : Option PlainShard) (s : State) (m n : ℕ) → option_map (λ (x : PlainShard). x.state) found ≡ Some s → n ≡ max m s.last →
    is_some (option_and_then (λ (x : PlainShard). covering x.state.table (at_last m x) e) found) ≡ is_some (covering s.table n e)
covered-there e None s m n h is = absurd cc
covered-there e (Some x) s m n h is =
    let same : x.state ≡ s = cc in
    ap (λ (t : State). is_some (covering t.table (max m t.last) e)) same ∙ ap (λ (k : ℕ). is_some (covering s.table k e)) (sym is)
