use Rattle.std.proofs.Common.{sym, subst}
use Rattle.pcp_base.specs.States.{State}
use Rattle.journal_sides.specs.declared.sides.Side.TheVariants.{A}
use Rattle.journal_sides.specs.Settled.{IsSettledBy}
use Rattle.lease_disk.proofs.PairLemmas.{pair_started, pair_weaker}
use Rattle.journal_sides.specs.declared.judging.Verdict.{Verdict}
use Rattle.lease_journal.specs.Openings.{MayOpen}
use Rattle.journal_sides.specs.Verdicts.{AreFound}
use Rattle.lease_journal.proofs.OpeningLaws.{blank_may, damaged_may, may_open_now}
use Rattle.lease_journal.proofs.StandingLaws.{stands_for}
use Rattle.lease_journal.proofs.openings.start_by.Goals as goal

pub returns-in_err-standing-in-Neither-clause-moments : goal.returns-in_err-standing-in-Neither-clause-moments
returns-in_err-standing-in-Neither-clause-moments g c = λ told durable found.
    let d = g.D.LeaseDisk in
    let pair = c.args.pair.now in
    let blank = subst (λ (v : Verdict). AreFound (d.seen pair.a) (d.seen pair.b) (g.R.Replay.state c.args.replay.now) v) c.in-Neither.is found in
    pair_weaker d.moment d.left_since d.may_leave pair c.start_blank.new.pair _ (MayOpen c.args.m (d.seen pair.a) (d.seen pair.b)) (c.start_blank.ensures.moments told durable blank) (blank_may c.args.m (d.seen pair.a) (d.seen pair.b) blank)

pub returns-in_ok-standing-in-Neither-clause-moments : goal.returns-in_ok-standing-in-Neither-clause-moments
returns-in_ok-standing-in-Neither-clause-moments g c = λ told durable found.
    let d = g.D.LeaseDisk in
    let pair = c.args.pair.now in
    let blank = subst (λ (v : Verdict). AreFound (d.seen pair.a) (d.seen pair.b) (g.R.Replay.state c.args.replay.now) v) c.in-Neither.is found in
    pair_weaker d.moment d.left_since d.may_leave pair c.start_blank.new.pair _ (MayOpen c.args.m (d.seen pair.a) (d.seen pair.b)) (c.start_blank.ensures.moments told durable blank) (blank_may c.args.m (d.seen pair.a) (d.seen pair.b) blank)

pub returns-in_err-standing-in-Broken-clause-moments : goal.returns-in_err-standing-in-Broken-clause-moments
returns-in_err-standing-in-Broken-clause-moments g c = λ told durable found.
    let d = g.D.LeaseDisk in
    let pair = c.args.pair.now in
    let broken = subst (λ (v : Verdict). AreFound (d.seen pair.a) (d.seen pair.b) (g.R.Replay.state c.args.replay.now) v) c.in-Broken.is found in
    pair_weaker d.moment d.left_since d.may_leave pair c.start_anew.new.pair _ (MayOpen c.args.m (d.seen pair.a) (d.seen pair.b)) (c.start_anew.ensures.moments told durable broken) (damaged_may c.args.m (d.seen pair.a) (d.seen pair.b) broken.damaged)

pub returns-in_ok-standing-in-Broken-clause-moments : goal.returns-in_ok-standing-in-Broken-clause-moments
returns-in_ok-standing-in-Broken-clause-moments g c = λ told durable found.
    let d = g.D.LeaseDisk in
    let pair = c.args.pair.now in
    let broken = subst (λ (v : Verdict). AreFound (d.seen pair.a) (d.seen pair.b) (g.R.Replay.state c.args.replay.now) v) c.in-Broken.is found in
    pair_weaker d.moment d.left_since d.may_leave pair c.start_anew.new.pair _ (MayOpen c.args.m (d.seen pair.a) (d.seen pair.b)) (c.start_anew.ensures.moments told durable broken) (damaged_may c.args.m (d.seen pair.a) (d.seen pair.b) broken.damaged)

pub returns-in-Counting-clause-found : goal.returns-in-Counting-clause-found
returns-in-Counting-clause-found g c = λ told found.
    let a = g.D.LeaseDisk.seen c.args.pair.now.a in
    let b = g.D.LeaseDisk.seen c.args.pair.now.b in
    let now = g.R.Replay.state c.args.replay.now in
    stands_for c.in-Counting.side c.in-Counting.standing now a b (subst (λ (v : Verdict). AreFound a b now v) c.in-Counting.is found)

pub returns-in-Counting-clause-moments : goal.returns-in-Counting-clause-moments
returns-in-Counting-clause-moments g c = λ told durable found.
    let d = g.D.LeaseDisk in
    let pair = c.args.pair.now in
    pair_started d.moment d.left_since d.may_leave pair (MayOpen c.args.m (d.seen pair.a) (d.seen pair.b)) (may_open_now d.seen d.may_leave c.args.m pair (g.R.Replay.state c.args.replay.now) c.args.verdict durable found)

pub returns-in_ok-standing-in-Broken-clause-still : goal.returns-in_ok-standing-in-Broken-clause-still
returns-in_ok-standing-in-Broken-clause-still g c = λ told durable found.
    let d = g.D.LeaseDisk in
    let pair = c.args.pair.now in
    let broken = subst (λ (v : Verdict). AreFound (d.seen pair.a) (d.seen pair.b) (g.R.Replay.state c.args.replay.now) v) c.in-Broken.is found in
    c.in_ok-standing-in-Broken.ensures.shut told durable broken

pub returns-in_ok-standing-in-Broken-clause-settled : goal.returns-in_ok-standing-in-Broken-clause-settled
returns-in_ok-standing-in-Broken-clause-settled g c = λ told durable found.
    let d = g.D.LeaseDisk in
    let pair = c.args.pair.now in
    let broken = subst (λ (v : Verdict). AreFound (d.seen pair.a) (d.seen pair.b) (g.R.Replay.state c.args.replay.now) v) c.in-Broken.is found in
    let begun = c.in_ok-standing-in-Broken.ensures in
    let new = c.start_anew.new.pair in
    subst (λ (s : State). IsSettledBy d.seen d.may_leave A c.in_ok-standing-in-Broken.standing new s) (sym begun.replayed) (begun.settled told durable broken)
