use Rattle.std.proofs.Common.{ℕ, ◌≤◌, ◌∙◌, List, length, take, subst, arith, rules, Ok}
use Rattle.pcp_base.specs.declared.records.Record.{Record}
use Rattle.lease_records.specs.RecordTexts.{IsRecordText, IsReadAgain}
use Rattle.journal_sides.proofs.BatchLemmas.{read_one, full, unreadable, unfit, read_all}
use Rattle.journal_sides.proofs.SideWalks.{from_place}
use Rattle.journal_sides.proofs.walks.read_batch.Goals as goal

pub returns-then-count-eq-MOST_RECORDS-clause-means : goal.returns-then-count-eq-MOST_RECORDS-clause-means
returns-then-count-eq-MOST_RECORDS-clause-means g c =
    full _ _ _ _ _ _ c.loop-at.invariant.0 (omega (arith, c.loop-at-test.true)) (omega (arith, c.if-count-eq-MOST_RECORDS.true))

pub returns-in_default-clause-means : goal.returns-in_default-clause-means
returns-in_default-clause-means g c =
    unreadable _ _ _ _ _ _ c.loop-at.invariant.0 (omega (arith, c.loop-at-test.true))
    (subst (λ (l : List ℕ). (r : Record) (n : ℕ) → ¬ (IsRecordText (take n l) r)) (from_place c.args.octets.now c.loop-at.at) c.in_default.ensures.none)

pub returns-then-not-branch-clause-means : goal.returns-then-not-branch-clause-means
returns-then-not-branch-clause-means g c =
    unfit _ _ _ _ _ _ (c.in-Ok.record, c.in-Ok.size) c.loop-at.invariant.0 (omega (arith, c.loop-at-test.true))
    (subst (λ (l : List ℕ). IsReadAgain l (Ok (c.in-Ok.record, c.in-Ok.size))) (from_place c.args.octets.now c.loop-at.at) c.in-Ok.ensures.again)
    (c.admit.ensures.refused (search rules))

pub loop-at-preserved : goal.loop-at-preserved
loop-at-preserved g c = (
  read_one _ _ _ _ _ _ _ c.in-Ok.size c.in-Ok.record c.loop-at.invariant.0 (λ is. omega (arith, is, c.if-count-eq-MOST_RECORDS.false))
      (subst (λ (l : List ℕ). c.in-Ok.size ≤ length l) (from_place c.args.octets.now c.loop-at.at) c.in-Ok.ensures.within)
      (subst (λ (l : List ℕ). IsRecordText (take c.in-Ok.size l) c.in-Ok.record) (from_place c.args.octets.now c.loop-at.at) c.in-Ok.ensures.found)
      (c.admit.ensures.fits (search rules)) (c.admit.ensures.applied (search rules)),
  c.in_ok-admit.ensures.ready,
  c.admit.ensures.lasting ∙ c.loop-at.invariant.2,
)

pub returns-clause-means : goal.returns-clause-means
returns-clause-means g c = read_all _ _ _ _ _ _ c.loop-at.invariant.0 (omega (arith, c.loop-at-test.false))
