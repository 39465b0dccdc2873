use Rattle.std.proofs.Common.{length, rules}
use Rattle.lease_disk.proofs.PairLemmas.{pair_goes_on, pair_weaker}
use Rattle.lease_journal.specs.Beginnings.{MayBegin}
use Rattle.journal_sides.specs.Writes.{ChangesSide, side_parity}
use Rattle.lease_journal.proofs.BeginLaws.{begins_shut, begins_torn, begins_open, begun}
use Rattle.lease_journal.proofs.openings.begin_side.Goals as goal

pub returns-in_err-size-clause-moments : goal.returns-in_err-size-clause-moments
returns-in_err-size-clause-moments g c = λ told generation batches durable are is.
    let d = g.D.LeaseDisk in
    let pair = c.args.pair.now in
    pair_weaker d.moment d.left_since d.may_leave pair c.prepare.new.pair _ (ChangesSide c.args.side (MayBegin (side_parity c.args.side) generation batches) (d.seen pair.a) (d.seen pair.b)) (c.prepare.ensures.moments told durable) (begins_shut c.args.side generation batches are c.args.text.now is (d.seen pair.a) (d.seen pair.b))

pub returns-in_err-write_side-clause-moments : goal.returns-in_err-write_side-clause-moments
returns-in_err-write_side-clause-moments g c = λ told generation batches durable are is.
    let d = g.D.LeaseDisk in
    let pair = c.args.pair.now in
    let mid = c.prepare.new.pair in
    let one = pair_weaker d.moment d.left_since d.may_leave pair mid _ (ChangesSide c.args.side (MayBegin (side_parity c.args.side) generation batches) (d.seen pair.a) (d.seen pair.b)) (c.in_ok-size.ensures.moments told durable) (begins_shut c.args.side generation batches are c.args.text.now is (d.seen pair.a) (d.seen pair.b)) in
    let ready = c.in_ok-size.ensures.shut told in
    let kept = c.in_ok-size.ensures.durable told durable in
    let two = pair_weaker d.moment d.left_since d.may_leave mid c.write_side.new.pair _ (ChangesSide c.args.side (MayBegin (side_parity c.args.side) generation batches) (d.seen pair.a) (d.seen pair.b)) (c.write_side.ensures.moments kept) (begins_torn c.args.side generation batches are c.args.text.now is (d.seen pair.a) (d.seen pair.b) c.in_ok-size.size (d.seen mid.a) (d.seen mid.b) ready (length c.args.text.now)) in
    pair_goes_on d.moment d.left_since d.may_leave pair mid c.write_side.new.pair _ one two

pub returns-in_err-write_side-2-clause-moments : goal.returns-in_err-write_side-2-clause-moments
returns-in_err-write_side-2-clause-moments g c = λ told generation batches durable are is.
    let d = g.D.LeaseDisk in
    let pair = c.args.pair.now in
    let mid = c.prepare.new.pair in
    let next = c.write_side.new.pair in
    let one = pair_weaker d.moment d.left_since d.may_leave pair mid _ (ChangesSide c.args.side (MayBegin (side_parity c.args.side) generation batches) (d.seen pair.a) (d.seen pair.b)) (c.in_ok-size.ensures.moments told durable) (begins_shut c.args.side generation batches are c.args.text.now is (d.seen pair.a) (d.seen pair.b)) in
    let ready = c.in_ok-size.ensures.shut told in
    let kept = c.in_ok-size.ensures.durable told durable in
    let two = pair_weaker d.moment d.left_since d.may_leave mid next _ (ChangesSide c.args.side (MayBegin (side_parity c.args.side) generation batches) (d.seen pair.a) (d.seen pair.b)) (c.in_ok-write_side.ensures.moments kept) (begins_torn c.args.side generation batches are c.args.text.now is (d.seen pair.a) (d.seen pair.b) c.in_ok-size.size (d.seen mid.a) (d.seen mid.b) ready (length c.args.text.now)) in
    let three = pair_weaker d.moment d.left_since d.may_leave next c.write_side-2.new.pair _ (ChangesSide c.args.side (MayBegin (side_parity c.args.side) generation batches) (d.seen pair.a) (d.seen pair.b)) (c.write_side-2.ensures.moments (c.in_ok-write_side.ensures.durable kept)) (begins_open c.args.side generation batches are c.args.text.now is (d.seen pair.a) (d.seen pair.b) c.in_ok-size.size (d.seen mid.a) (d.seen mid.b) ready (d.seen next.a) (d.seen next.b) (c.in_ok-write_side.ensures.written told)) in
    pair_goes_on d.moment d.left_since d.may_leave pair mid c.write_side-2.new.pair _ one (pair_goes_on d.moment d.left_since d.may_leave mid next c.write_side-2.new.pair _ two three)

pub returns-clause-moments : goal.returns-clause-moments
returns-clause-moments g c = λ told generation batches durable are is.
    let d = g.D.LeaseDisk in
    let pair = c.args.pair.now in
    let mid = c.prepare.new.pair in
    let next = c.write_side.new.pair in
    let one = pair_weaker d.moment d.left_since d.may_leave pair mid _ (ChangesSide c.args.side (MayBegin (side_parity c.args.side) generation batches) (d.seen pair.a) (d.seen pair.b)) (c.in_ok-size.ensures.moments told durable) (begins_shut c.args.side generation batches are c.args.text.now is (d.seen pair.a) (d.seen pair.b)) in
    let ready = c.in_ok-size.ensures.shut told in
    let kept = c.in_ok-size.ensures.durable told durable in
    let two = pair_weaker d.moment d.left_since d.may_leave mid next _ (ChangesSide c.args.side (MayBegin (side_parity c.args.side) generation batches) (d.seen pair.a) (d.seen pair.b)) (c.in_ok-write_side.ensures.moments kept) (begins_torn c.args.side generation batches are c.args.text.now is (d.seen pair.a) (d.seen pair.b) c.in_ok-size.size (d.seen mid.a) (d.seen mid.b) ready (length c.args.text.now)) in
    let three = pair_weaker d.moment d.left_since d.may_leave next c.write_side-2.new.pair _ (ChangesSide c.args.side (MayBegin (side_parity c.args.side) generation batches) (d.seen pair.a) (d.seen pair.b)) (c.in_ok-write_side-2.ensures.moments (c.in_ok-write_side.ensures.durable kept)) (begins_open c.args.side generation batches are c.args.text.now is (d.seen pair.a) (d.seen pair.b) c.in_ok-size.size (d.seen mid.a) (d.seen mid.b) ready (d.seen next.a) (d.seen next.b) (c.in_ok-write_side.ensures.written told)) in
    pair_goes_on d.moment d.left_since d.may_leave pair mid c.write_side-2.new.pair _ one (pair_goes_on d.moment d.left_since d.may_leave mid next c.write_side-2.new.pair _ two three)

pub returns-clause-begun : goal.returns-clause-begun
returns-clause-begun g c = λ told generation batches durable are is.
    let d = g.D.LeaseDisk in
    let pair = c.args.pair.now in
    let mid = c.prepare.new.pair in
    let next = c.write_side.new.pair in
    let last = c.write_side-2.new.pair in
    begun c.args.side generation batches are c.args.text.now is (d.seen pair.a) (d.seen pair.b) c.in_ok-size.size (d.seen mid.a) (d.seen mid.b) (c.in_ok-size.ensures.shut told) (d.seen next.a) (d.seen next.b) (c.in_ok-write_side.ensures.written told) c.max.result (d.seen last.a) (d.seen last.b) (search rules) (c.in_ok-write_side-2.ensures.written told)
