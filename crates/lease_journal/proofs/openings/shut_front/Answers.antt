use Rattle.std.proofs.Common.{Bool, refl, subst, rules}
use Rattle.lease_disk.proofs.PairLemmas.{pair_weaker}
use Rattle.lease_journal.specs.Beginnings.{GateMeans, MayShut}
use Rattle.journal_sides.specs.Writes.{ChangesSide, of_side}
use Rattle.lease_journal.proofs.PrepareLaws.{prepared_torn, prepared_written}
use Rattle.lease_journal.proofs.openings.shut_front.Goals as goal

pub returns-then-front-clause-moments : goal.returns-then-front-clause-moments
returns-then-front-clause-moments g c = λ told durable gate.
    let d = g.D.LeaseDisk in
    let pair = c.args.pair.now in
    c.shut_again.ensures.moments told durable (subst (λ (x : Bool). GateMeans (of_side c.args.side (d.seen pair.a) (d.seen pair.b)) x) c.if-front.true gate)

pub returns-then-front-clause-shut : goal.returns-then-front-clause-shut
returns-then-front-clause-shut g c = λ told gate long.
    let d = g.D.LeaseDisk in
    let pair = c.args.pair.now in
    c.shut_again.ensures.shut told (subst (λ (x : Bool). GateMeans (of_side c.args.side (d.seen pair.a) (d.seen pair.b)) x) c.if-front.true gate) long

pub returns-in_err-write_side-clause-moments : goal.returns-in_err-write_side-clause-moments
returns-in_err-write_side-clause-moments g c = λ told durable gate.
    let d = g.D.LeaseDisk in
    let pair = c.args.pair.now in
    let closed = subst (λ (x : Bool). GateMeans (of_side c.args.side (d.seen pair.a) (d.seen pair.b)) x) c.if-front.false gate in
    pair_weaker d.moment d.left_since d.may_leave pair c.write_side.new.pair _ (ChangesSide c.args.side MayShut (d.seen pair.a) (d.seen pair.b)) (c.write_side.ensures.moments durable) (λ x y ch. prepared_torn c.args.side (d.seen pair.a) (d.seen pair.b) x y closed ch)

pub returns-clause-moments : goal.returns-clause-moments
returns-clause-moments g c = λ told durable gate.
    let d = g.D.LeaseDisk in
    let pair = c.args.pair.now in
    let closed = subst (λ (x : Bool). GateMeans (of_side c.args.side (d.seen pair.a) (d.seen pair.b)) x) c.if-front.false gate in
    pair_weaker d.moment d.left_since d.may_leave pair c.write_side.new.pair _ (ChangesSide c.args.side MayShut (d.seen pair.a) (d.seen pair.b)) (c.in_ok-write_side.ensures.moments durable) (λ x y ch. prepared_torn c.args.side (d.seen pair.a) (d.seen pair.b) x y closed ch)

pub returns-clause-shut : goal.returns-clause-shut
returns-clause-shut g c = λ told gate long.
    let d = g.D.LeaseDisk in
    let pair = c.args.pair.now in
    let new = c.write_side.new.pair in
    prepared_written c.args.side c.args.front.size c.max.result (d.seen pair.a) (d.seen pair.b) (d.seen new.a) (d.seen new.b) long (search rules) (c.in_ok-write_side.ensures.written told)
