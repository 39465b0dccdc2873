-- Pairs that come back in order, and their counts of faults.
use Rattle.std.proofs.Common.{◌≡◌, ◌⊎◌, ℕ, zero, suc, ◌≤◌, List, [], ◌∷◌, ◌++◌, Some, refl, subst, inl, inr, arith}
use Rattle.std.specs.List.{AllZip, slice_get}
use Rattle.lease_disk.specs.declared.disks.DiskPair.{DiskPair}
use Rattle.lease_disk.specs.Pairs.{PairHasCause}
use Rattle.pcp_io.specs.Faults.{HasRisen}
use Rattle.journal_dump.specs.Dumps.{HasPairFault}
use Rattle.pcp_server.specs.Outsides.{HaveNotFallen}

-- ---- lists

pub zip_same : {X : Type 0} (R : X → X → Type 0) → ((x : X) → R x x) → (xs : List X) → AllZip R xs xs
zip_same R same [] = tt
zip_same R same (x ∷ xs) = (same x, zip_same R same xs)

pub zip_over : {X : Type 0} (R : X → X → Type 0) → ((x y z : X) → R x y → R y z → R x z) → (xs ys zs : List X) →
    AllZip R xs ys → AllZip R ys zs → AllZip R xs zs
zip_over R over [] [] [] a b = tt
zip_over R over [] [] (z ∷ zs) a b = absurd b
zip_over R over [] (y ∷ ys) zs a b = absurd a
zip_over R over (x ∷ xs) [] zs a b = absurd a
zip_over R over (x ∷ xs) (y ∷ ys) [] a b = absurd b
zip_over R over (x ∷ xs) (y ∷ ys) (z ∷ zs) a b = (over x y z a.0 b.0, zip_over R over xs ys zs a.1 b.1)

pub zip_join : {X : Type 0} (R : X → X → Type 0) (xs ys us vs : List X) → AllZip R xs ys → AllZip R us vs → AllZip R (xs ++ us) (ys ++ vs)
zip_join R [] [] us vs a b = b
zip_join R [] (y ∷ ys) us vs a b = absurd a
zip_join R (x ∷ xs) [] us vs a b = absurd a
zip_join R (x ∷ xs) (y ∷ ys) us vs a b = (a.0, zip_join R xs ys us vs a.1 b)

pub zip_weaker : {X : Type 0} (R S : X → X → Type 0) → ((x y : X) → R x y → S x y) → (xs ys : List X) → AllZip R xs ys → AllZip S xs ys
zip_weaker R S so [] [] a = tt
zip_weaker R S so [] (y ∷ ys) a = absurd a
zip_weaker R S so (x ∷ xs) [] a = absurd a
zip_weaker R S so (x ∷ xs) (y ∷ ys) a = (so x y a.0, zip_weaker R S so xs ys a.1)

-- what stands in front of an item
pub zip_at : {X : Type 0} (R : X → X → Type 0) (xs ys : List X) (i : ℕ) (y : X) → AllZip R xs ys → slice_get ys i ≡ Some y →
    (x : X) × (slice_get xs i ≡ Some x) × R x y
zip_at R [] [] i y a h = absurd cc
zip_at R [] (z ∷ ys) i y a h = absurd a
zip_at R (x ∷ xs) [] i y a h = absurd a
zip_at R (x ∷ xs) (z ∷ ys) zero y a h = let same : z ≡ y = cc in (x, refl, subst (R x) same a.0)
zip_at R (x ∷ xs) (z ∷ ys) (suc i) y a h = zip_at R xs ys i y a.1 h

pub get_left : {X : Type 0} (xs us : List X) (i : ℕ) (x : X) → slice_get xs i ≡ Some x → slice_get (xs ++ us) i ≡ Some x
get_left [] us i x h = absurd cc
get_left (y ∷ xs) us zero x h = h
get_left (y ∷ xs) us (suc i) x h = get_left xs us i x h

-- ---- counts

pub cause_same : {D : Type 0} (faults : D → ℕ) (p : DiskPair D) → PairHasCause faults p p ⊥
cause_same faults p = record { later_a = omega arith; later_b = omega arith; risen = λ e. absurd e }

pub cause_only : {D : Type 0} (faults : D → ℕ) (p q : DiskPair D) (fails : Type 0) → PairHasCause faults p q fails → PairHasCause faults p q ⊥
cause_only faults p q fails c = record { later_a = c.later_a; later_b = c.later_b; risen = λ e. absurd e }

pub cause_over : {D : Type 0} (faults : D → ℕ) (p q r : DiskPair D) → PairHasCause faults p q ⊥ → PairHasCause faults q r ⊥ → PairHasCause faults p r ⊥
cause_over faults p q r c d = record {
  later_a = (let a = c.later_a in let b = d.later_a in omega (arith, a, b));
  later_b = (let a = c.later_b in let b = d.later_b in omega (arith, a, b));
  risen = λ e. absurd e;
}

pub none_fell : {D : Type 0} (faults : D → ℕ) (xs : List (DiskPair D)) → HaveNotFallen faults xs xs
none_fell faults xs = zip_same (λ p q. PairHasCause faults p q ⊥) (cause_same faults) xs

pub none_fell-over : {D : Type 0} (faults : D → ℕ) (xs ys zs : List (DiskPair D)) → HaveNotFallen faults xs ys → HaveNotFallen faults ys zs → HaveNotFallen faults xs zs
none_fell-over faults xs ys zs a b = zip_over (λ p q. PairHasCause faults p q ⊥) (cause_over faults) xs ys zs a b

pub none_fell-join : {D : Type 0} (faults : D → ℕ) (xs ys us vs : List (DiskPair D)) → HaveNotFallen faults xs ys → HaveNotFallen faults us vs → HaveNotFallen faults (xs ++ us) (ys ++ vs)
none_fell-join faults xs ys us vs a b = zip_join (λ p q. PairHasCause faults p q ⊥) xs ys us vs a b

risen-earlier : (before mid now : ℕ) → before ≤ mid → HasRisen mid now → HasRisen before now
risen-earlier before mid now h (inl less) = inl (omega (arith, h, less))
risen-earlier before mid now h (inr most) = inr most

-- a fault that was counted in the later part was counted in all
pub fault-over : {D : Type 0} (faults : D → ℕ) (xs ys zs : List (DiskPair D)) (place : ℕ) → HaveNotFallen faults xs ys → HasPairFault faults ys zs place → HasPairFault faults xs zs place
fault-over faults xs ys zs place later fault =
    let (x, is, cause) = zip_at (λ p q. PairHasCause faults p q ⊥) xs ys place fault.before later fault.was in
    record {
      before = x;
      after = fault.after;
      was = is;
      is = fault.is;
      risen = sides cause fault.risen;
    }
  where
    sides : {D : Type 0} {faults : D → ℕ} {p q r : DiskPair D} → PairHasCause faults p q ⊥ → HasRisen (faults q.a) (faults r.a) ⊎ HasRisen (faults q.b) (faults r.b) →
        HasRisen (faults p.a) (faults r.a) ⊎ HasRisen (faults p.b) (faults r.b)
    sides {faults = faults} {p = p} {q = q} {r = r} cause (inl a) = inl (risen-earlier (faults p.a) (faults q.a) (faults r.a) cause.later_a a)
    sides {faults = faults} {p = p} {q = q} {r = r} cause (inr b) = inr (risen-earlier (faults p.b) (faults q.b) (faults r.b) cause.later_b b)

-- more pairs behind
pub fault-join : {D : Type 0} (faults : D → ℕ) (xs ys us vs : List (DiskPair D)) (place : ℕ) → HasPairFault faults xs ys place → HasPairFault faults (xs ++ us) (ys ++ vs) place
fault-join faults xs ys us vs place fault = record {
  before = fault.before;
  after = fault.after;
  was = get_left xs us place fault.before fault.was;
  is = get_left ys vs place fault.after fault.is;
  risen = fault.risen;
}
