-- What both sides are, by what each is.
use Rattle.std.proofs.Common.{◌≡◌, inl, inr, ℕ, ◌%◌, ◌<◌, ◌≤◌, List, refl, arith}
use Rattle.pcp_base.specs.States.{State}
use Rattle.journal_sides.specs.declared.sides.Side.TheVariants.{A, B}
use Rattle.journal_sides.specs.declared.walks.Standing.{Standing}
use Rattle.journal_sides.specs.Judging.{IsSideJudged, IsStanding}
use Rattle.journal_sides.specs.Settled.{StandsBy}
use Rattle.journal_sides.specs.Sides.{IsClosedSide}
use Rattle.journal_sides.specs.declared.walks.Judged.{Judged}
use Rattle.journal_sides.specs.declared.walks.Judged.TheVariants.{Closed, Bad, Good}
use Rattle.journal_sides.proofs.UniqueLaws.{same_side, open_not_closed}

pub only_a : (a b : List ℕ) (x : Standing) (now : State) → IsStanding 0 a x now → IsClosedSide b → StandsBy A x now a b
only_a a b x now is closed = record { counts = is; gives_way = inl closed }

pub only_b : (a b : List ℕ) (y : Standing) (now : State) → IsStanding 1 b y now → IsClosedSide a → StandsBy B y now a b
only_b a b y now is closed = record { counts = is; gives_way = inl closed }

pub newer_b : (a b : List ℕ) (x y : Standing) (s now : State) → IsStanding 0 a x s → IsStanding 1 b y now → x.generation < y.generation → StandsBy B y now a b
newer_b a b x y s now is_a is_b less = record { counts = is_b; gives_way = inr (x.format, x.generation, is_a.batches, is_a.side, less) }

-- generations of the two sides differ, and a side has one
pub newer_a : (a b : List ℕ) (x again y : Standing) (s t now : State) → IsStanding 0 a x s → IsStanding 0 a again now → IsStanding 1 b y t → y.generation ≤ x.generation → StandsBy A again now a b
newer_a a b x again y s t now is_a is_again is_b le =
    let same = same_side x.format again.format 0 a x.generation again.generation is_a.batches is_again.batches is_a.side is_again.side in
    let even : x.generation % 2 ≡ 0 = is_a.side.contents.of_side in
    let odd : y.generation % 2 ≡ 1 = is_b.side.contents.of_side in
    let less : y.generation < again.generation = omega (arith, le, same.1, even, odd) in
    record { counts = is_again; gives_way = inr (y.format, y.generation, is_b.batches, is_b.side, less) }

-- a side in the grammar is judged so again
pub no_other : (parity : ℕ) (octets : List ℕ) (x : Standing) (s : State) (other : Judged) → IsStanding parity octets x s → IsSideJudged parity octets other → ((y : Standing) → ¬ (other ≡ Good y)) → ⊥
no_other parity octets x s Closed is closed none = open_not_closed x.format parity octets x.generation is.batches is.side closed
no_other parity octets x s Bad is bad none = bad.1 x.format x.generation is.batches is.side
no_other parity octets x s (Good y) is good none = none y refl
