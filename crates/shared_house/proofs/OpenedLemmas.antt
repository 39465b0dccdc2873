-- Books that were just opened for a house.
use Rattle.std.specs.List.{AllByRecursion, slice_get}
use Rattle.std.proofs.Common.{◌≡◌, ◌∙◌, ℕ, suc, ◌+◌, List, [], ◌∷◌, length, Some, None, refl, ap}
use Rattle.std.proofs.Common.{sym, arith}
use Rattle.pcp_base.specs.declared.configs.Config.{Config}
use Rattle.pcp_base.specs.declared.configs.External.{External}
use Rattle.pcp_base.specs.Configs.{IsConfig}
use Rattle.lease_disk.specs.declared.disks.DiskPair.{DiskPair}
use Rattle.lease_store.specs.declared.terms.Terms.{Terms}
use Rattle.lease_store.specs.LeaseTerms.{terms_of}
use Rattle.shard_book.specs.Books.{BookView, IsBook}
use Rattle.lease_house.specs.SoloOpenings.{OpensAll, OpensOne}
use Rattle.shared_house.specs.Turned.{AllMayBegin}
use Rattle.turned_shards.specs.Turnings.{MayBegin}

module _ {D : Type 0} (tells : Type 0) (seen : D → List ℕ) (moment : D → ℕ)
    (left_since : D → ℕ → List ℕ → Type 0) (may_leave : D → List ℕ → Type 0) (faults : D → ℕ)
    (config : Config) (m : ℕ) where
  may-one : (k : ℕ) (x : External) (pair : DiskPair D) (b : BookView D) → IsConfig config →
      slice_get config.externals k ≡ Some x →
      OpensOne tells seen moment left_since may_leave faults config m x pair b →
      IsBook tells seen may_leave b → MayBegin tells seen may_leave config k b
  may-one k x pair b allowed there one is =
      let external : b.terms.external ≡ x = ap (λ (t : Terms). t.external) one.opened.on_terms in
      record {
        is = is;
        config_is = allowed;
        there = there ∙ ap (λ (y : External). Some y) (sym external);
        terms = one.opened.on_terms ∙ ap (λ (y : External). terms_of y config) (sym external);
        last = one.opened.last;
        settled = one.opened.settled;
      }

  may-all : (k : ℕ) (xs : List External) (pairs : List (DiskPair D)) (books : List (BookView D))
      (spare : List (DiskPair D)) → IsConfig config →
      ((i n : ℕ) (x : External) → n ≡ k + i → slice_get xs i ≡ Some x →
      slice_get config.externals n ≡ Some x) →
      OpensAll tells seen moment left_since may_leave faults config m xs pairs books spare →
      AllByRecursion (IsBook tells seen may_leave) books →
      AllMayBegin tells seen may_leave config k books
  may-all k [] pairs [] spare allowed there all are = tt
  may-all k [] pairs (b ∷ bs) spare allowed there all are = absurd all
  may-all k (x ∷ xs) [] bs spare allowed there all are = absurd all
  may-all k (x ∷ xs) (p ∷ ps) [] spare allowed there all are = absurd all
  may-all k (x ∷ xs) (p ∷ ps) (b ∷ bs) spare allowed there all are = (
    may-one k x p b allowed (there 0 k x (omega arith) refl) all.0 are.0,
    may-all (k + 1) xs ps bs spare allowed (λ i n y at h. there (suc i) n y (omega (arith, at)) h)
        all.1 are.1,
  )

  pub may-begin : (pairs : List (DiskPair D)) (books : List (BookView D))
      (spare : List (DiskPair D)) → IsConfig config →
      OpensAll tells seen moment left_since may_leave faults config m config.externals pairs books
      spare →
      AllByRecursion (IsBook tells seen may_leave) books →
      AllMayBegin tells seen may_leave config 0 books
  may-begin pairs books spare allowed all are =
      may-all 0 config.externals pairs books spare allowed
      (λ i n x at h. ap (slice_get config.externals)
      (let same : n ≡ i = omega (arith, at) in same) ∙ h) all are

  opened-count : (xs : List External) (pairs : List (DiskPair D)) (books : List (BookView D))
      (spare : List (DiskPair D)) →
      OpensAll tells seen moment left_since may_leave faults config m xs pairs books spare →
      length books ≡ length xs
  opened-count [] pairs [] spare all = refl
  opened-count [] pairs (b ∷ bs) spare all = absurd all
  opened-count (x ∷ xs) [] bs spare all = absurd all
  opened-count (x ∷ xs) (p ∷ ps) [] spare all = absurd all
  opened-count (x ∷ xs) (p ∷ ps) (b ∷ bs) spare all =
      ap (λ (n : ℕ). suc n) (opened-count xs ps bs spare all.1)

  pub counted : (pairs : List (DiskPair D)) (books : List (BookView D))
      (spare : List (DiskPair D)) →
      OpensAll tells seen moment left_since may_leave faults config m config.externals pairs books
      spare → length books ≡ length config.externals
  counted pairs books spare all = opened-count config.externals pairs books spare all

module _ {D : Type 0} (tells : Type 0) (seen : D → List ℕ) (may_leave : D → List ℕ → Type 0)
    (config : Config) where
  pub all-settled : (k : ℕ) (books : List (BookView D)) →
      AllMayBegin tells seen may_leave config k books →
      AllByRecursion (λ (b : BookView D). b.fault ≡ None) books
  all-settled k [] all = tt
  all-settled k (b ∷ bs) all = (all.0.settled, all-settled (k + 1) bs all.1)

  pub all-books : (k : ℕ) (books : List (BookView D)) →
      AllMayBegin tells seen may_leave config k books →
      AllByRecursion (IsBook tells seen may_leave) books
  all-books k [] all = tt
  all-books k (b ∷ bs) all = (all.0.is, all-books (k + 1) bs all.1)
