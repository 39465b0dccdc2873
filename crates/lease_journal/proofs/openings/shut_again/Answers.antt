use Rattle.lease_disk.proofs.PairLemmas.{pair_weaker}
use Rattle.std.proofs.Common.{rules}
use Rattle.lease_journal.specs.Beginnings.{MayShut}
use Rattle.journal_sides.specs.Writes.{ChangesSide}
use Rattle.lease_journal.proofs.PrepareLaws.{shut_again_torn, shut_again_written}
use Rattle.lease_journal.proofs.openings.shut_again.Goals as goal

pub returns-in_err-write_side-clause-moments : goal.returns-in_err-write_side-clause-moments
returns-in_err-write_side-clause-moments g c = λ told durable shut.
    let d = g.D.LeaseDisk in
    let pair = c.args.pair.now in
    pair_weaker d.moment d.left_since d.may_leave pair c.write_side.new.pair _ (ChangesSide c.args.side MayShut (d.seen pair.a) (d.seen pair.b)) (c.write_side.ensures.moments durable) (λ x y ch. shut_again_torn c.args.side (d.seen pair.a) (d.seen pair.b) x y shut ch)

pub returns-clause-moments : goal.returns-clause-moments
returns-clause-moments g c = λ told durable shut.
    let d = g.D.LeaseDisk in
    let pair = c.args.pair.now in
    pair_weaker d.moment d.left_since d.may_leave pair c.write_side.new.pair _ (ChangesSide c.args.side MayShut (d.seen pair.a) (d.seen pair.b)) (c.in_ok-write_side.ensures.moments durable) (λ x y ch. shut_again_torn c.args.side (d.seen pair.a) (d.seen pair.b) x y shut ch)

pub returns-clause-shut : goal.returns-clause-shut
returns-clause-shut g c = λ told shut long.
    let d = g.D.LeaseDisk in
    let pair = c.args.pair.now in
    let new = c.write_side.new.pair in
    shut_again_written c.args.side c.args.size c.max.result (d.seen pair.a) (d.seen pair.b) (d.seen new.a) (d.seen new.b) shut long (search rules) (c.in_ok-write_side.ensures.written told)
