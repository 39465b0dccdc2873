-- What is left of two sides of which one isn't in the grammar, while each open one is shut.
use Rattle.std.proofs.Common.{◌≡◌, inl, inr, ⊎_elim, ℕ, ◌≤◌, List, refl, sym, subst, arith}
use Rattle.std.specs.Prelude.{◌⊎◌}
use Rattle.pcp_io.specs.Faults.{HasRisen}
use Rattle.lease_disk.specs.declared.disks.DiskPair.{DiskPair}
use Rattle.lease_disk.specs.Pairs.{PairHasCause}
use Rattle.journal_sides.specs.declared.sides.Side.TheVariants.{A, B}
use Rattle.journal_sides.specs.declared.walks.Judged.{Judged}
use Rattle.journal_sides.specs.declared.walks.Judged.TheVariants.{Closed, Bad, Good}
use Rattle.journal_sides.specs.declared.walks.Standing.{Standing}
use Rattle.lease_journal.specs.Beginnings.{MayShut}
use Rattle.journal_sides.specs.Journals.{IsBlank, IsDamaged}
use Rattle.journal_sides.specs.Judging.{IsSideJudged}
use Rattle.journal_sides.specs.Sides.{IsClosedSide, IsBadSide}
use Rattle.journal_sides.specs.Verdicts.{AreBroken}
use Rattle.journal_sides.specs.Writes.{ChangesSide}

abbrev pub IsShutting : List ℕ → List ℕ → Type 0
IsShutting x y = IsDamaged x y ⊎ IsBlank x y

-- where side b is in the grammar side a isn't
pub bad_beside : (a b : List ℕ) (ja jb : Judged) (standing : Standing) → AreBroken a b ja jb → jb ≡ Good standing → IsBadSide 0 a
bad_beside a b ja jb standing broken is = bad broken.damaged
  where
    bad : IsDamaged a b → IsBadSide 0 a
    bad (inl bad_a) = bad_a
    bad (inr bad_b) = let good = subst (IsSideJudged 1 b) is broken.side_b in absurd (bad_b.1 standing.format standing.generation good.1.batches good.1.side)

pub first_b : (a b : List ℕ) → IsBadSide 0 a → (x y : List ℕ) → ChangesSide B MayShut a b x y → IsShutting x y
first_b a b bad x y ch = inl (inl (subst (IsBadSide 0) (sym ch.unchanged) bad))

pub then_a : (c d : List ℕ) → IsBadSide 0 c → IsClosedSide d → (x y : List ℕ) → ChangesSide A MayShut c d x y → IsShutting x y
then_a c d bad closed x y ch = shut ch.changed
  where
    still : IsClosedSide y
    still = subst IsClosedSide (sym ch.unchanged) closed

    shut : MayShut c x → IsShutting x y
    shut (inl same) = inl (inl (subst (IsBadSide 0) (sym same) bad))
    shut (inr is) = inr (is, still)

-- where side b isn't in the grammar it is closed or bad
pub bad_or_closed : (a b : List ℕ) (ja jb : Judged) → AreBroken a b ja jb → ((standing : Standing) → jb ≡ Good standing → ⊥) → IsBadSide 1 b ⊎ (IsClosedSide b × IsBadSide 0 a)
bad_or_closed a b ja Closed broken none = inr (broken.side_b, bad broken.damaged)
  where
    bad : IsDamaged a b → IsBadSide 0 a
    bad (inl bad_a) = bad_a
    bad (inr bad_b) = absurd (bad_b.0 broken.side_b)
bad_or_closed a b ja Bad broken none = inl broken.side_b
bad_or_closed a b ja (Good standing) broken none = absurd (none standing refl)

pub first_a : (a b : List ℕ) → IsBadSide 1 b ⊎ (IsClosedSide b × IsBadSide 0 a) → (x y : List ℕ) → ChangesSide A MayShut a b x y → IsShutting x y
first_a a b (inl bad) x y ch = inl (inr (subst (IsBadSide 1) (sym ch.unchanged) bad))
first_a a b (inr (closed, bad)) x y ch = then_a a b bad closed x y ch

pub then_b : (c d : List ℕ) → IsClosedSide c → IsBadSide 1 d ⊎ IsClosedSide d → (x y : List ℕ) → ChangesSide B MayShut c d x y → IsShutting x y
then_b c d closed either x y ch = shut either ch.changed
  where
    still : IsClosedSide x
    still = subst IsClosedSide (sym ch.unchanged) closed

    shut : IsBadSide 1 d ⊎ IsClosedSide d → MayShut d y → IsShutting x y
    shut (inl bad) (inl same) = inl (inr (subst (IsBadSide 1) (sym same) bad))
    shut (inr is) (inl same) = inr (still, subst IsClosedSide (sym same) is)
    shut (inl bad) (inr is) = inr (still, is)
    shut (inr was) (inr is) = inr (still, is)

pub either_side : (a b d : List ℕ) → d ≡ b → IsBadSide 1 b ⊎ (IsClosedSide b × IsBadSide 0 a) → IsBadSide 1 d ⊎ IsClosedSide d
either_side a b d same (inl bad) = inl (subst (IsBadSide 1) (sym same) bad)
either_side a b d same (inr is) = inr (subst IsClosedSide (sym same) is.0)

risen_since : (old mid new : ℕ) → old ≤ mid → HasRisen mid new → HasRisen old new
risen_since old mid new later (inl less) = inl (omega (arith, later, less))
risen_since old mid new later (inr full) = inr full

-- the cause of a fault of the last of two calls
pub cause_on : {D : Type 0} (faults : D → ℕ) (old mid new : DiskPair D) (P Q : Type 0) → PairHasCause faults old mid P → PairHasCause faults mid new Q → PairHasCause faults old new Q
cause_on faults old mid new P Q one two = record {
  later_a = omega (arith, one.later_a, two.later_a);
  later_b = omega (arith, one.later_b, two.later_b);
  risen = λ fails. ⊎_elim (λ (a : HasRisen (faults mid.a) (faults new.a)). inl (risen_since (faults old.a) (faults mid.a) (faults new.a) one.later_a a)) (λ (b : HasRisen (faults mid.b) (faults new.b)). inr (risen_since (faults old.b) (faults mid.b) (faults new.b) one.later_b b)) (two.risen fails);
}
