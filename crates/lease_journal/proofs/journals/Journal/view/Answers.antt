use Rattle.std.proofs.Common.{subst}
use Rattle.journal_sides.specs.declared.judging.Verdict.{Verdict}
use Rattle.journal_sides.specs.Verdicts.{AreFound, IsFoundReplaying}
use Rattle.lease_journal.proofs.OpeningLaws.{replays_by}
use Rattle.lease_journal.proofs.StandingLaws.{stands_for}
use Rattle.lease_journal.proofs.journals.Journal.view.Goals as goal

pub returns-in-Counting-clause-found : goal.returns-in-Counting-clause-found
returns-in-Counting-clause-found g c = λ told.
    let a = g.D.LeaseDisk.seen c.args.pair.now.a in
    let b = g.D.LeaseDisk.seen c.args.pair.now.b in
    let now = g.R.Replay.state c.judge.new.replay in
    stands_for c.in-Counting.field-0 c.in-Counting.field-1 now a b (subst (λ (v : Verdict). AreFound a b now v) c.in-Counting.is (c.in_ok-judge.ensures.found told))

pub returns-in-Counting-clause-replaying : goal.returns-in-Counting-clause-replaying
returns-in-Counting-clause-replaying g c =
    let r = g.R.Replay in
    let now = c.judge.new.replay in
    replays_by r.replaying r.replaying_first now c.in-Counting.field-1.format (subst (λ (v : Verdict). IsFoundReplaying r.replaying r.replaying_first now v) c.in-Counting.is c.in_ok-judge.ensures.ready)
