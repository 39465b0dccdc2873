use Rattle.std.proofs.Common.{◌≡◌, List, ℕ, sym, subst}
use Rattle.std.proofs.lemmas.Result.{on_ok_weaker}
use Rattle.lease_disk.proofs.PairLemmas.{pair_goes_on, pair_weaker}
use Rattle.journal_sides.specs.Journals.{IsStartingAnew}
use Rattle.lease_journal.specs.Openings.{IsShutAnew}
use Rattle.lease_journal.proofs.OpeningLaws.{shutting_starts, starting_anew}
use Rattle.lease_journal.proofs.openings.start_anew.Goals as goal

pub returns-in_err-shut_all-clause-moments : goal.returns-in_err-shut_all-clause-moments
returns-in_err-shut_all-clause-moments g c = λ told durable broken.
    let d = g.D.LeaseDisk in
    pair_weaker d.moment d.left_since d.may_leave c.args.pair.now c.shut_all.new.pair _ (IsStartingAnew c.args.m) (c.shut_all.ensures.moments told durable broken) (shutting_starts c.args.m)

pub returns-clause-moments : goal.returns-clause-moments
returns-clause-moments g c = λ told durable broken.
    let d = g.D.LeaseDisk in
    let pair = c.args.pair.now in
    let mid = c.shut_all.new.pair in
    let new = c.start.new.pair in
    let before = c.in_ok-shut_all.ensures in
    let one = pair_weaker d.moment d.left_since d.may_leave pair mid _ (IsStartingAnew c.args.m) (before.moments told durable broken) (shutting_starts c.args.m) in
    let two = pair_weaker d.moment d.left_since d.may_leave mid new _ (IsStartingAnew c.args.m) (c.start.ensures.moments told (before.durable told durable) (before.blank told durable broken)) (starting_anew c.args.m) in
    pair_goes_on d.moment d.left_since d.may_leave pair mid new (IsStartingAnew c.args.m) one two

pub returns-clause-settled : goal.returns-clause-settled
returns-clause-settled g c = λ told durable broken.
    let before = c.in_ok-shut_all.ensures in
    c.start.ensures.settled told (before.durable told durable) (before.blank told durable broken)

pub returns-clause-shut : goal.returns-clause-shut
returns-clause-shut g c = λ told durable broken.
    let d = g.D.LeaseDisk in
    let pair = c.args.pair.now in
    let before = c.in_ok-shut_all.ensures in
    on_ok_weaker c.start.result (λ same. subst (λ (l : List ℕ). IsShutAnew (d.seen pair.b) l) (sym same) (before.shut told broken)) (c.start.ensures.left told (before.durable told durable))
