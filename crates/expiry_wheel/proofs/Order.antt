-- The order in which pairs fall due: it is one, and `sooner` takes the lesser.
use Rattle.std.proofs.Common.{◌≡◌, Bool, true, false, cond, Option, None, Some, refl, arith, ◌⊎◌, inl, inr}
use Rattle.std.proofs.lemmas.Grind.{common_steps}
use Rattle.expiry_wheel.specs.declared.pair.Pair.{Pair}
use Rattle.expiry_wheel.specs.Order.{IsNoLater, is_sooner, sooner}

pub IsNoLater-refl : (a : Option Pair) → IsNoLater a a
IsNoLater-refl None = tt
IsNoLater-refl (Some p) = (omega arith, λ _. omega arith)

pub IsNoLater-trans : (a b c : Option Pair) → IsNoLater a b → IsNoLater b c → IsNoLater a c
IsNoLater-trans a b None h k = tt
IsNoLater-trans a None (Some r) h k = absurd k
IsNoLater-trans None (Some q) (Some r) h k = absurd h
IsNoLater-trans (Some p) (Some q) (Some r) h k = grind arith

-- what the test says
by_test : (p q : Pair) (b : Bool) → is_sooner q p ≡ b → IsNoLater (cond b (Some q) (Some p)) (Some p) × IsNoLater (cond b (Some q) (Some p)) (Some q)
by_test p q true e = grind (arith, common_steps)
by_test p q false e = grind (arith, common_steps)

pub IsNoLater-sooner : (a b : Option Pair) → IsNoLater (sooner a b) a × IsNoLater (sooner a b) b
IsNoLater-sooner None b = (tt, IsNoLater-refl b)
IsNoLater-sooner (Some p) None = (IsNoLater-refl (Some p), tt)
IsNoLater-sooner (Some p) (Some q) = by_test p q _ refl

pub sooner-one : (a b : Option Pair) → (sooner a b ≡ a) ⊎ (sooner a b ≡ b)
sooner-one None b = inr refl
sooner-one (Some p) None = inl refl
sooner-one (Some p) (Some q) = elim (is_sooner q p) as (λ v. (cond v (Some q) (Some p) ≡ Some p) ⊎ (cond v (Some q) (Some p) ≡ Some q)) [ true ↦ inr refl | false ↦ inl refl ]
