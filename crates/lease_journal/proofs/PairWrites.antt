-- A durable change of one side of a pair.
use Rattle.std.proofs.Common.{◌≡◌, ℕ, List, refl, sym, subst}
use Rattle.lease_disk.specs.declared.disks.DiskPair.{DiskPair}
use Rattle.lease_disk.specs.Moments.{LeavesOnly}
use Rattle.lease_disk.specs.Pairs.{PairLeavesOnly}
use Rattle.lease_disk.proofs.CallLemmas.{weaker}
use Rattle.lease_disk.proofs.PairLemmas.{on_a, on_b}
use Rattle.journal_sides.specs.declared.sides.Side.{Side}
use Rattle.journal_sides.specs.declared.sides.Side.TheVariants.{A, B}
use Rattle.journal_sides.specs.Writes.{AreDurable, ChangesSide}

module _ {D : Type 0} (seen : D → List ℕ) (may_leave : D → List ℕ → Type 0) (moment : D → ℕ) (left_since : D → ℕ → List ℕ → Type 0) (step : List ℕ → List ℕ → Type 0) (same : (octets : List ℕ) → step octets octets) (pair : DiskPair D) (durable : AreDurable seen may_leave pair) where
  pub side_a : (side : Side) (new : D) → side ≡ A → LeavesOnly moment left_since pair.a new (step (seen pair.a)) → PairLeavesOnly moment left_since may_leave pair (record { a = new; b = pair.b }) (ChangesSide side step (seen pair.a) (seen pair.b))
  side_a side new is run =
      subst (λ (s : Side). PairLeavesOnly moment left_since may_leave pair (record { a = new; b = pair.b }) (ChangesSide s step (seen pair.a) (seen pair.b))) (sym is)
      (on_a moment left_since may_leave pair (record { a = new; b = pair.b }) (ChangesSide A step (seen pair.a) (seen pair.b))
      (λ x y left_a left_b. record { changed = subst (step (seen pair.a)) (sym (durable.a x left_a)) (same (seen pair.a)); unchanged = durable.b y left_b })
      refl
      (weaker moment left_since pair.a new (step (seen pair.a)) (λ x. (y : List ℕ) → may_leave pair.b y → ChangesSide A step (seen pair.a) (seen pair.b) x y) run (λ x has y left_b. record { changed = has; unchanged = durable.b y left_b })))

  pub side_b : (side : Side) (new : D) → side ≡ B → LeavesOnly moment left_since pair.b new (step (seen pair.b)) → PairLeavesOnly moment left_since may_leave pair (record { a = pair.a; b = new }) (ChangesSide side step (seen pair.a) (seen pair.b))
  side_b side new is run =
      subst (λ (s : Side). PairLeavesOnly moment left_since may_leave pair (record { a = pair.a; b = new }) (ChangesSide s step (seen pair.a) (seen pair.b))) (sym is)
      (on_b moment left_since may_leave pair (record { a = pair.a; b = new }) (ChangesSide B step (seen pair.a) (seen pair.b))
      (λ x y left_a left_b. record { changed = subst (step (seen pair.b)) (sym (durable.b y left_b)) (same (seen pair.b)); unchanged = durable.a x left_a })
      refl
      (weaker moment left_since pair.b new (step (seen pair.b)) (λ y. (x : List ℕ) → may_leave pair.a x → ChangesSide B step (seen pair.a) (seen pair.b) x y) run (λ y has x left_a. record { changed = has; unchanged = durable.a x left_a })))
