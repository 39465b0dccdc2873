use Rattle.std.proofs.Common.{◌≡◌, List, ℕ, sym, subst}
use Rattle.std.proofs.lemmas.Result.{on_ok_weaker}
use Rattle.lease_disk.proofs.PairLemmas.{pair_goes_on, pair_weaker}
use Rattle.journal_sides.specs.Journals.{IsStarting}
use Rattle.lease_journal.specs.Openings.{IsShutAnew}
use Rattle.lease_journal.proofs.OpeningLaws.{shut_blank, shut_starts}
use Rattle.lease_journal.proofs.openings.start_blank.Goals as goal

pub returns-in_err-shut_beside-clause-moments : goal.returns-in_err-shut_beside-clause-moments
returns-in_err-shut_beside-clause-moments g c = λ told durable blank.
    let d = g.D.LeaseDisk in
    let pair = c.args.pair.now in
    pair_weaker d.moment d.left_since d.may_leave pair c.shut_beside.new.pair _ (IsStarting c.args.m) (c.shut_beside.ensures.moments told durable) (shut_starts c.args.m (d.seen pair.a) (d.seen pair.b) blank)

pub returns-clause-moments : goal.returns-clause-moments
returns-clause-moments g c = λ told durable blank.
    let d = g.D.LeaseDisk in
    let pair = c.args.pair.now in
    let mid = c.shut_beside.new.pair in
    let before = c.in_ok-shut_beside.ensures in
    let one = pair_weaker d.moment d.left_since d.may_leave pair mid _ (IsStarting c.args.m) (before.moments told durable) (shut_starts c.args.m (d.seen pair.a) (d.seen pair.b) blank) in
    let closed = shut_blank (d.seen pair.a) (d.seen pair.b) (d.seen mid.a) (d.seen mid.b) blank (before.shut told) in
    pair_goes_on d.moment d.left_since d.may_leave pair mid c.start.new.pair (IsStarting c.args.m) one (c.start.ensures.moments told (before.durable told durable) closed)

pub returns-clause-settled : goal.returns-clause-settled
returns-clause-settled g c = λ told durable blank.
    let d = g.D.LeaseDisk in
    let pair = c.args.pair.now in
    let mid = c.shut_beside.new.pair in
    let before = c.in_ok-shut_beside.ensures in
    c.start.ensures.settled told (before.durable told durable) (shut_blank (d.seen pair.a) (d.seen pair.b) (d.seen mid.a) (d.seen mid.b) blank (before.shut told))

pub returns-clause-shut : goal.returns-clause-shut
returns-clause-shut g c = λ told durable.
    let d = g.D.LeaseDisk in
    let pair = c.args.pair.now in
    let before = c.in_ok-shut_beside.ensures in
    on_ok_weaker c.start.result (λ same. subst (λ (l : List ℕ). IsShutAnew (d.seen pair.b) l) (sym same) (before.shut told).changed) (c.start.ensures.left told (before.durable told durable))
