-- Lists of well formed records, in parts.
use Rattle.std.proofs.Common.{◌≡◌, ℕ, zero, suc, ◌<◌, Bool, true, false, cond, List, [], ◌∷◌, ◌++◌, length, map, filter, get_or, sym, subst, arith}
use Rattle.std.specs.List.{AllByRecursion}
use Rattle.pcp_base.specs.declared.records.Record.{Record}
use Rattle.pcp_base.specs.Records.{IsWellFormedRecord}

pub formed_front : (front back : List Record) → AllByRecursion IsWellFormedRecord (front ++ back) → AllByRecursion IsWellFormedRecord front
formed_front [] back all = tt
formed_front (r ∷ front) back all = (all.0, formed_front front back all.1)

pub formed_back : (front back : List Record) → AllByRecursion IsWellFormedRecord (front ++ back) → AllByRecursion IsWellFormedRecord back
formed_back [] back all = all
formed_back (r ∷ front) back all = formed_back front back all.1

pub formed_both : (front back : List Record) → AllByRecursion IsWellFormedRecord front → AllByRecursion IsWellFormedRecord back → AllByRecursion IsWellFormedRecord (front ++ back)
formed_both [] back one two = two
formed_both (r ∷ front) back one two = (one.0, formed_both front back one.1 two)

module _ {A : Type 0} (told : A → Record) where
  -- the record of an item of a list whose records are
  pub formed_item : (xs : List A) (i : ℕ) (x : A) → AllByRecursion IsWellFormedRecord (map told xs) → i < length xs → x ≡ get_or xs i x → IsWellFormedRecord (told x)
  formed_item [] i x all less is = absurd (omega (arith, less))
  formed_item (y ∷ xs) zero x all less is = subst (λ (z : A). IsWellFormedRecord (told z)) (sym is) all.0
  formed_item (y ∷ xs) (suc i) x all less is = formed_item xs i x all.1 (omega (arith, less)) is

  pub told_front : (front back : List A) → AllByRecursion IsWellFormedRecord (map told (front ++ back)) → AllByRecursion IsWellFormedRecord (map told front)
  told_front [] back all = tt
  told_front (x ∷ front) back all = (all.0, told_front front back all.1)

  pub told_back : (front back : List A) → AllByRecursion IsWellFormedRecord (map told (front ++ back)) → AllByRecursion IsWellFormedRecord (map told back)
  told_back [] back all = all
  told_back (x ∷ front) back all = told_back front back all.1

  module _ (passes : A → Bool) where
    -- the record of the first item, if it passes
    pub formed_first : (x : A) (xs : List A) → passes x ≡ true → AllByRecursion IsWellFormedRecord (map told (filter passes (x ∷ xs))) → IsWellFormedRecord (told x)
    formed_first x xs is all = (subst (λ (b : Bool). AllByRecursion IsWellFormedRecord (map told (cond b (x ∷ filter passes xs) (filter passes xs)))) is all).0

    -- those of the others
    pub formed_rest : (x : A) (xs : List A) → AllByRecursion IsWellFormedRecord (map told (filter passes (x ∷ xs))) → AllByRecursion IsWellFormedRecord (map told (filter passes xs))
    formed_rest x xs all = by (passes x) all
      where
        by : (b : Bool) → AllByRecursion IsWellFormedRecord (map told (cond b (x ∷ filter passes xs) (filter passes xs))) → AllByRecursion IsWellFormedRecord (map told (filter passes xs))
        by true all = all.1
        by false all = all
