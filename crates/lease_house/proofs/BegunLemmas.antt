-- What opened books are.
use Rattle.std.proofs.Common.{◌≡◌, ℕ, suc, zero, List, [], ◌∷◌, Some, None, length, map, drop, refl, subst, ap, ◌∙◌, arith, true}
use Rattle.std.specs.List.{AllByRecursion, slice_get}
use Rattle.pcp_base.specs.declared.configs.Config.{Config}
use Rattle.pcp_base.specs.declared.configs.External.{External}
use Rattle.pcp_base.specs.Configs.{IsConfig}
use Rattle.pcp_base.specs.Reached.{IsReached}
use Rattle.pcp_base.specs.States.{State}
use Rattle.lease_disk.specs.declared.disks.DiskPair.{DiskPair}
use Rattle.lease_store.specs.declared.terms.Terms.{Terms}
use Rattle.shard_book.specs.Books.{BookView, IsBook}
use Rattle.lease_histories.specs.PlainHouses.{PlainHouse, PlainShard, shards_begun}
use Rattle.lease_house.specs.OpeningLaws.{OpenedHousesBegin, openings_of}
use Rattle.lease_house.specs.SoloHouses.{plain_shard}
use Rattle.lease_house.specs.SoloOpenings.{OpensAll, OpensOne}

pub all-at : {X : Type 0} (P : X → Type 0) (xs : List X) (i : ℕ) (x : X) → AllByRecursion P xs → slice_get xs i ≡ Some x → P x
all-at P [] i x all is = cc
all-at P (y ∷ ys) zero x all is = let same : y ≡ x = cc in subst P same all.0
all-at P (y ∷ ys) (suc i) x all is = all-at P ys i x all.1 is

all-states : {D : Type 0} (P : State → Type 0) (books : List (BookView D)) → AllByRecursion (λ b. P b.state) books → AllByRecursion P (map (λ b. b.state) books)
all-states P [] all = tt
all-states P (b ∷ bs) all = (all.0, all-states P bs all.1)

length-states : {D : Type 0} (books : List (BookView D)) → length (map (λ b. b.state) books) ≡ length books
length-states [] = refl
length-states (b ∷ bs) = let e = length-states bs in omega arith

module _ {D : Type 0} (tells : Type 0) (seen : D → List ℕ) (moment : D → ℕ) (left_since : D → ℕ → List ℕ → Type 0) (may_leave : D → List ℕ → Type 0) (faults : D → ℕ) (config : Config) (m : ℕ) where
  books-reached : (books : List (BookView D)) → AllByRecursion (IsBook tells seen may_leave) books → AllByRecursion (λ b. IsReached b.state) books
  books-reached [] all = tt
  books-reached (b ∷ bs) all = (all.0.reached, books-reached bs all.1)

  books-started : (books : List (BookView D)) → AllByRecursion (IsBook tells seen may_leave) books → AllByRecursion (λ b. b.state.started ≡ true) books
  books-started [] all = tt
  books-started (b ∷ bs) all = (all.0.started, books-started bs all.1)

  plain_one : (x : External) (pair : DiskPair D) (book : BookView D) → OpensOne tells seen moment left_since may_leave faults config m x pair book
      → plain_shard book ≡ record { external = x; state = book.state; last = book.state.last }
  plain_one x pair book one =
      ap (λ (y : External). let s : PlainShard = record { external = y; state = book.state; last = book.last } in s) (ap (λ (t : Terms). t.external) one.opened.on_terms)
      ∙ ap (λ (n : ℕ). let s : PlainShard = record { external = x; state = book.state; last = n } in s) one.opened.last

  opened-plain : (xs : List External) (pairs : List (DiskPair D)) (books : List (BookView D)) (spare : List (DiskPair D)) → OpensAll tells seen moment left_since may_leave faults config m xs pairs books spare
      → map plain_shard books ≡ shards_begun xs (map (λ b. b.state) books)
  opened-plain [] pairs [] spare all = refl
  opened-plain [] pairs (b ∷ bs) spare all = absurd all
  opened-plain (x ∷ xs) [] bs spare all = absurd all
  opened-plain (x ∷ xs) (pair ∷ pairs) [] spare all = absurd all
  opened-plain (x ∷ xs) (pair ∷ pairs) (b ∷ bs) spare all =
      ap (λ (s : PlainShard). s ∷ map plain_shard bs) (plain_one x pair b all.0)
      ∙ ap (λ (ss : List PlainShard). (record { external = x; state = b.state; last = b.state.last }) ∷ ss) (opened-plain xs pairs bs spare all.1)

  opened-count : (xs : List External) (pairs : List (DiskPair D)) (books : List (BookView D)) (spare : List (DiskPair D)) → OpensAll tells seen moment left_since may_leave faults config m xs pairs books spare
      → length books ≡ length xs
  opened-count [] pairs [] spare all = refl
  opened-count [] pairs (b ∷ bs) spare all = absurd all
  opened-count (x ∷ xs) [] bs spare all = absurd all
  opened-count (x ∷ xs) (pair ∷ pairs) [] spare all = absurd all
  opened-count (x ∷ xs) (pair ∷ pairs) (b ∷ bs) spare all = let e = opened-count xs pairs bs spare all.1 in omega arith

  opened-settled : (xs : List External) (pairs : List (DiskPair D)) (books : List (BookView D)) (spare : List (DiskPair D)) → OpensAll tells seen moment left_since may_leave faults config m xs pairs books spare
      → AllByRecursion (λ b. b.fault ≡ None) books
  opened-settled [] pairs [] spare all = tt
  opened-settled [] pairs (b ∷ bs) spare all = absurd all
  opened-settled (x ∷ xs) [] bs spare all = absurd all
  opened-settled (x ∷ xs) (pair ∷ pairs) [] spare all = absurd all
  opened-settled (x ∷ xs) (pair ∷ pairs) (b ∷ bs) spare all = (all.0.opened.settled, opened-settled xs pairs bs spare all.1)

  opened-spare : (xs : List External) (pairs : List (DiskPair D)) (books : List (BookView D)) (spare : List (DiskPair D)) → OpensAll tells seen moment left_since may_leave faults config m xs pairs books spare
      → spare ≡ drop (length xs) pairs
  opened-spare [] pairs [] spare all = all
  opened-spare [] pairs (b ∷ bs) spare all = absurd all
  opened-spare (x ∷ xs) [] bs spare all = absurd all
  opened-spare (x ∷ xs) (pair ∷ pairs) [] spare all = absurd all
  opened-spare (x ∷ xs) (pair ∷ pairs) (b ∷ bs) spare all = opened-spare xs pairs bs spare all.1

  opened-at : (xs : List External) (pairs : List (DiskPair D)) (books : List (BookView D)) (spare : List (DiskPair D)) → OpensAll tells seen moment left_since may_leave faults config m xs pairs books spare
      → (place : ℕ) (x : External) (pair : DiskPair D) (book : BookView D) → slice_get xs place ≡ Some x → slice_get pairs place ≡ Some pair → slice_get books place ≡ Some book
      → OpensOne tells seen moment left_since may_leave faults config m x pair book
  opened-at [] pairs bs spare all place x pair book x_is pair_is book_is = cc
  opened-at (x ∷ xs) [] bs spare all place y pair book x_is pair_is book_is = absurd all
  opened-at (x ∷ xs) (p ∷ ps) [] spare all place y pair book x_is pair_is book_is = absurd all
  opened-at (x ∷ xs) (p ∷ ps) (b ∷ bs) spare all zero y pair book x_is pair_is book_is =
      let same_x : x ≡ y = cc in
      let same_pair : p ≡ pair = cc in
      let same_book : b ≡ book = cc in
      subst (λ (z : External). OpensOne tells seen moment left_since may_leave faults config m z pair book) same_x
      (subst (λ (z : DiskPair D). OpensOne tells seen moment left_since may_leave faults config m x z book) same_pair
      (subst (λ (z : BookView D). OpensOne tells seen moment left_since may_leave faults config m x p z) same_book all.0))
  opened-at (x ∷ xs) (p ∷ ps) (b ∷ bs) spare all (suc place) y pair book x_is pair_is book_is = opened-at xs ps bs spare all.1 place y pair book x_is pair_is book_is

pub opened_houses_begin : {D : Type 0} (tells : Type 0) (seen : D → List ℕ) (moment : D → ℕ) (left_since : D → ℕ → List ℕ → Type 0) (may_leave : D → List ℕ → Type 0) (faults : D → ℕ)
    → OpenedHousesBegin D tells seen moment left_since may_leave faults
opened_houses_begin tells seen moment left_since may_leave faults config m disks house config_is stands all =
    let allowed : IsConfig config = subst IsConfig config_is stands.config in
    let reached : AllByRecursion IsReached (openings_of house) = all-states IsReached house.books (books-reached tells seen moment left_since may_leave faults config m house.books stands.books) in
    let started : AllByRecursion (λ s. s.started ≡ true) (openings_of house) = all-states (λ s. s.started ≡ true) house.books (books-started tells seen moment left_since may_leave faults config m house.books stands.books) in
    record {
      plain = ap (λ (c : Config). let h : PlainHouse = record { config = c; shards = map plain_shard house.books } in h) config_is
          ∙ ap (λ (ss : List PlainShard). let h : PlainHouse = record { config = config; shards = ss } in h) (opened-plain tells seen moment left_since may_leave faults config m config.externals disks house.books house.spare all);
      openings = record {
        config_is = allowed;
        count = length-states house.books ∙ opened-count tells seen moment left_since may_leave faults config m config.externals disks house.books house.spare all;
        reached = reached;
        started = started;
      };
      each = λ place x opening x_is opening_is. record {
        config = allowed;
        there = x_is;
        reached = all-at IsReached (openings_of house) place opening reached opening_is;
        started = all-at (λ s. s.started ≡ true) (openings_of house) place opening started opening_is;
      };
      settled = opened-settled tells seen moment left_since may_leave faults config m config.externals disks house.books house.spare all;
      opened = λ place x pair book x_is pair_is book_is. opened-at tells seen moment left_since may_leave faults config m config.externals disks house.books house.spare all place x pair book x_is pair_is book_is;
      spare = opened-spare tells seen moment left_since may_leave faults config m config.externals disks house.books house.spare all;
    }
