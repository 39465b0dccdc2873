use Rattle.std.proofs.Common.{length}
use Rattle.lease_disk.specs.ImageLaws.{torn-same}
use Rattle.lease_disk.specs.Images.{Torn}
use Rattle.lease_journal.proofs.PairWrites.{side_a, side_b}
use Rattle.lease_journal.proofs.writes.write_side.Goals as goal

pub returns-in-A-clause-moments : goal.returns-in-A-clause-moments
returns-in-A-clause-moments g c = λ durable.
    let d = g.D.LeaseDisk in
    side_a d.seen d.may_leave d.moment d.left_since (Torn c.args.place (length c.args.piece.now)) (torn-same c.args.place (length c.args.piece.now)) c.args.pair.now durable c.args.side c.write_durably.new.disk c.in-A.is (c.write_durably.ensures.moments durable.a)

pub returns-in-B-clause-moments : goal.returns-in-B-clause-moments
returns-in-B-clause-moments g c = λ durable.
    let d = g.D.LeaseDisk in
    side_b d.seen d.may_leave d.moment d.left_since (Torn c.args.place (length c.args.piece.now)) (torn-same c.args.place (length c.args.piece.now)) c.args.pair.now durable c.args.side c.write_durably-in-B.new.disk c.in-B.is (c.write_durably-in-B.ensures.moments durable.b)
