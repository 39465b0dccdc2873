-- Pairs that are handed back after a fault.
use Rattle.std.proofs.Common.{◌≡◌, ◌≤◌, ◌<◌, ◌+◌, ℕ, suc, zero, List, [], ◌∷◌, Some, inr, length, drop, refl, subst, sym, ap, ◌∙◌, arith}
use Rattle.std.specs.List.{slice_get}
use Rattle.pcp_base.specs.declared.configs.External.{External}
use Rattle.lease_disk.specs.declared.disks.DiskPair.{DiskPair}
use Rattle.lease_disk.proofs.PairLemmas.{pair_started}
use Rattle.journal_sides.specs.declared.errors.JournalFault.{JournalFault}
use Rattle.journal_sides.specs.declared.errors.JournalFault.TheVariants as Journals
use Rattle.lease_house.specs.declared.faults.HouseFault.{HouseFault}
use Rattle.lease_house.specs.declared.faults.HouseFault.TheVariants.{Disk, Memory}
use Rattle.lease_house.specs.SoloCalls.{fault_at}
use Rattle.lease_house.specs.OpeningLaws.{PairsAreHandedBack}
use Rattle.lease_house.specs.SoloOpenings.{HandsBackAll, HandsBackOne, IsOfPlace}

-- ---- the fault of a place

-- no place below this one is named
abbrev pub IsFrom : ℕ → HouseFault → Type 0
IsFrom place fault = (j : ℕ) → fault ≡ Disk j → place ≤ j

-- no place from this one on is named
abbrev pub IsBelow : ℕ → HouseFault → Type 0
IsBelow place fault = (j : ℕ) → fault ≡ Disk j → j < place

pub fault_is_there : (place : ℕ) (cause : JournalFault) (j : ℕ) → fault_at place cause ≡ Disk j → place ≡ j
fault_is_there place Journals.Disk j e = cc
fault_is_there place Journals.Memory j e = cc

pub fault_has_cause : (place : ℕ) (cause : JournalFault) (j : ℕ) → fault_at place cause ≡ Disk j → cause ≡ Journals.Disk
fault_has_cause place Journals.Disk j e = refl
fault_has_cause place Journals.Memory j e = cc

pub of_place : (place count : ℕ) (cause : JournalFault) (fault : HouseFault) → fault ≡ fault_at place cause → place < count → IsOfPlace count fault
of_place place count cause fault is below = λ j e. let same : place ≡ j = fault_is_there place cause j (sym is ∙ e) in omega arith

pub memory_of_place : (count : ℕ) → IsOfPlace count Memory
memory_of_place count = λ j e. cc

-- ---- pairs that had no call

module _ {D : Type 0} (tells : Type 0) (seen : D → List ℕ) (moment : D → ℕ) (left_since : D → ℕ → List ℕ → Type 0) (may_leave : D → List ℕ → Type 0) (faults : D → ℕ) where
  untouched_one : (m : ℕ) (x : External) (pair : DiskPair D) (fails : Type 0) → (fails → ⊥) → HandsBackOne tells seen moment left_since may_leave faults m x pair pair fails
  untouched_one m x pair fails none = record {
    moments = λ told. inr (pair_started moment left_since may_leave pair (λ x y. may_leave pair.a x × may_leave pair.b y) (λ x y left_a left_b. (left_a, left_b)));
    cause = record { later_a = omega arith; later_b = omega arith; risen = λ fails. absurd (none fails) };
  }

  pub untouched : (m place : ℕ) (fault : HouseFault) (xs : List External) (pairs : List (DiskPair D)) → length xs ≤ length pairs → IsBelow place fault
      → HandsBackAll tells seen moment left_since may_leave faults m place fault xs pairs pairs
  untouched m place fault [] pairs enough below = refl
  untouched m place fault (x ∷ xs) [] enough below = absurd (omega arith)
  untouched m place fault (x ∷ xs) (pair ∷ pairs) enough below = (
    untouched_one m x pair (fault ≡ Disk place) (λ e. let less : place < place = below place e in omega arith),
    untouched m (place + 1) fault xs pairs (omega arith) (λ j e. let less : j < place = below j e in omega arith),
  )

  pub memory_touches_none : (m : ℕ) (xs : List External) (pairs : List (DiskPair D)) → length xs ≤ length pairs → HandsBackAll tells seen moment left_since may_leave faults m 0 Memory xs pairs pairs
  memory_touches_none m xs pairs enough = untouched m 0 Memory xs pairs enough (λ j e. cc)

  -- the pair of the place that failed
  pub refused_one : (m : ℕ) (x : External) (old new : DiskPair D) (place : ℕ) (cause : JournalFault) → HandsBackOne tells seen moment left_since may_leave faults m x old new (cause ≡ Journals.Disk)
      → HandsBackOne tells seen moment left_since may_leave faults m x old new (fault_at place cause ≡ Disk place)
  refused_one m x old new place cause hands = record {
    moments = hands.moments;
    cause = record { later_a = hands.cause.later_a; later_b = hands.cause.later_b; risen = λ e. hands.cause.risen (fault_has_cause place cause place e) };
  }

-- ---- place by place

module _ {D : Type 0} (tells : Type 0) (seen : D → List ℕ) (moment : D → ℕ) (left_since : D → ℕ → List ℕ → Type 0) (may_leave : D → List ℕ → Type 0) (faults : D → ℕ) (m : ℕ) (fault : HouseFault) where
  hands-count : (place : ℕ) (xs : List External) (old new : List (DiskPair D)) → HandsBackAll tells seen moment left_since may_leave faults m place fault xs old new → length new ≡ length old
  hands-count place [] old new all = ap length all
  hands-count place (x ∷ xs) [] new all = absurd all
  hands-count place (x ∷ xs) (p ∷ ps) [] all = absurd all
  hands-count place (x ∷ xs) (p ∷ ps) (q ∷ qs) all = let e = hands-count (place + 1) xs ps qs all.1 in omega arith

  hands-spare : (place : ℕ) (xs : List External) (old new : List (DiskPair D)) → HandsBackAll tells seen moment left_since may_leave faults m place fault xs old new → drop (length xs) new ≡ drop (length xs) old
  hands-spare place [] old new all = all
  hands-spare place (x ∷ xs) [] new all = absurd all
  hands-spare place (x ∷ xs) (p ∷ ps) [] all = absurd all
  hands-spare place (x ∷ xs) (p ∷ ps) (q ∷ qs) all = hands-spare (place + 1) xs ps qs all.1

  hands-at : (place : ℕ) (xs : List External) (old new : List (DiskPair D)) → HandsBackAll tells seen moment left_since may_leave faults m place fault xs old new
      → (i : ℕ) (x : External) (p q : DiskPair D) → slice_get xs i ≡ Some x → slice_get old i ≡ Some p → slice_get new i ≡ Some q → (n : ℕ) → place + i ≡ n
      → HandsBackOne tells seen moment left_since may_leave faults m x p q (fault ≡ Disk n)
  hands-at place [] old new all i x p q x_is p_is q_is n is = cc
  hands-at place (y ∷ xs) [] new all i x p q x_is p_is q_is n is = absurd all
  hands-at place (y ∷ xs) (r ∷ ps) [] all i x p q x_is p_is q_is n is = absurd all
  hands-at place (y ∷ xs) (r ∷ ps) (s ∷ qs) all zero x p q x_is p_is q_is n is =
      let same_x : y ≡ x = cc in
      let same_p : r ≡ p = cc in
      let same_q : s ≡ q = cc in
      let same_place : place ≡ n = omega arith in
      subst (λ (k : ℕ). HandsBackOne tells seen moment left_since may_leave faults m x p q (fault ≡ Disk k)) same_place
      (subst (λ (z : External). HandsBackOne tells seen moment left_since may_leave faults m z p q (fault ≡ Disk place)) same_x
      (subst (λ (z : DiskPair D). HandsBackOne tells seen moment left_since may_leave faults m y z q (fault ≡ Disk place)) same_p
      (subst (λ (z : DiskPair D). HandsBackOne tells seen moment left_since may_leave faults m y r z (fault ≡ Disk place)) same_q all.0)))
  hands-at place (y ∷ xs) (r ∷ ps) (s ∷ qs) all (suc i) x p q x_is p_is q_is n is = hands-at (place + 1) xs ps qs all.1 i x p q x_is p_is q_is n (omega arith)

pub pairs_are_handed_back : {D : Type 0} (tells : Type 0) (seen : D → List ℕ) (moment : D → ℕ) (left_since : D → ℕ → List ℕ → Type 0) (may_leave : D → List ℕ → Type 0) (faults : D → ℕ)
    → PairsAreHandedBack D tells seen moment left_since may_leave faults
pairs_are_handed_back tells seen moment left_since may_leave faults m fault xs old new all = record {
  count = hands-count tells seen moment left_since may_leave faults m fault 0 xs old new all;
  each = λ place x p q x_is p_is q_is. hands-at tells seen moment left_since may_leave faults m fault 0 xs old new all place x p q x_is p_is q_is place (omega arith);
  spare = hands-spare tells seen moment left_since may_leave faults m fault 0 xs old new all;
}
