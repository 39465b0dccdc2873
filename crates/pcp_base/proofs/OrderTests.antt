-- The order of numbers by its two tests.
use Rattle.std.proofs.Common.{◌≡◌, Bool, true, false, cond, refl, sym}
use Rattle.std.specs.Ordering.{is_eq}
use Rattle.std.specs.declared.cmp.Ordering.TheVariants.{Less, Equal, Greater}

-- the two tests of numbers are one
pub by_tests : (less same : Bool) → (less ≡ true → same ≡ false) → is_eq (cond less Less (cond same Equal Greater)) ≡ same
by_tests true true h = sym (h refl)
by_tests true false h = refl
by_tests false true h = refl
by_tests false false h = refl
