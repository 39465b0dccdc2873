-- A house of which nothing is in doubt (our own).
use Rattle.std.specs.Prelude.{◌≡◌, ℕ, List, None}
use Rattle.std.specs.List.{AllByRecursion}
use Rattle.lease_house.specs.SoloHouses.{HouseView, IsHouse}

-- no call on an external address was refused since it was settled
pub record IsAtRest {D : Type 0} (tells : Type 0) (seen : D → List ℕ)
    (may_leave : D → List ℕ → Type 0) (house : HouseView D) : Type 0 where
  pub is : IsHouse tells seen may_leave house
  pub settled : AllByRecursion (λ b. b.fault ≡ None) house.books
