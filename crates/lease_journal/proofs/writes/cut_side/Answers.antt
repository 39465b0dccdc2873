use Rattle.std.proofs.Common.{inl, refl}
use Rattle.lease_disk.specs.Images.{CutOrNot}
use Rattle.lease_journal.proofs.PairWrites.{side_a, side_b}
use Rattle.lease_journal.proofs.writes.cut_side.Goals as goal

pub returns-in-A-clause-moments : goal.returns-in-A-clause-moments
returns-in-A-clause-moments g c = λ durable.
    let d = g.D.LeaseDisk in
    side_a d.seen d.may_leave d.moment d.left_since (CutOrNot c.args.size) (λ octets. inl refl) c.args.pair.now durable c.args.side c.cut_durably.new.disk c.in-A.is (c.cut_durably.ensures.moments durable.a)

pub returns-in-B-clause-moments : goal.returns-in-B-clause-moments
returns-in-B-clause-moments g c = λ durable.
    let d = g.D.LeaseDisk in
    side_b d.seen d.may_leave d.moment d.left_since (CutOrNot c.args.size) (λ octets. inl refl) c.args.pair.now durable c.args.side c.cut_durably-in-B.new.disk c.in-B.is (c.cut_durably-in-B.ensures.moments durable.b)
