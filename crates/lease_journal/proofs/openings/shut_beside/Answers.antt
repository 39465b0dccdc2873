use Rattle.std.proofs.Common.{◌≡◌, ◌<◌, ◌∙◌, List, ℕ, length, sym, arith}
use Rattle.lease_journal.specs.Beginnings.{GateMeans, IsPrepared}
use Rattle.journal_sides.specs.Writes.{of_side}
use Rattle.lease_journal.proofs.OpeningLaws.{read_shut, same_octets}
use Rattle.lease_journal.proofs.PrepareLaws.{prepare_still, prepared_anew, durable_still, shut_none}
use Rattle.lease_journal.proofs.openings.shut_beside.Goals as goal

pub returns-in_err-front-clause-moments : goal.returns-in_err-front-clause-moments
returns-in_err-front-clause-moments g c = λ told durable.
    let d = g.D.LeaseDisk in
    let laws = g.met.D.LeaseDisk in
    prepare_still d.moment d.left_since d.may_leave laws.counts_now laws.only_now d.seen c.args.side c.args.pair.now c.front_of_side.new.pair durable c.front_of_side.ensures.read

pub returns-then-front-eq0-clause-moments : goal.returns-then-front-eq0-clause-moments
returns-then-front-eq0-clause-moments g c = λ told durable.
    let d = g.D.LeaseDisk in
    let laws = g.met.D.LeaseDisk in
    prepare_still d.moment d.left_since d.may_leave laws.counts_now laws.only_now d.seen c.args.side c.args.pair.now c.front_of_side.new.pair durable c.in_ok-front.ensures.read

pub returns-then-front-eq0-clause-shut : goal.returns-then-front-eq0-clause-shut
returns-then-front-eq0-clause-shut g c = λ told.
    let d = g.D.LeaseDisk in
    let pair = c.args.pair.now in
    let mid = c.front_of_side.new.pair in
    let still = c.in_ok-front.ensures.seen told in
    shut_none c.args.side (d.seen pair.a) (d.seen pair.b) (d.seen mid.a) (d.seen mid.b) still.a still.b (sym (c.in_ok-front.ensures.size told) ∙ c.if-front-eq0.true)

pub returns-then-front-eq0-clause-durable : goal.returns-then-front-eq0-clause-durable
returns-then-front-eq0-clause-durable g c = λ told durable.
    let d = g.D.LeaseDisk in
    let laws = g.met.D.LeaseDisk in
    durable_still d.moment d.left_since d.may_leave laws.counts_now laws.only_now d.seen c.args.pair.now c.front_of_side.new.pair durable c.in_ok-front.ensures.read (c.in_ok-front.ensures.seen told)

pub returns-in_err-shut_front-clause-moments : goal.returns-in_err-shut_front-clause-moments
returns-in_err-shut_front-clause-moments g c = λ told durable.
    let d = g.D.LeaseDisk in
    let laws = g.met.D.LeaseDisk in
    let pair = c.args.pair.now in
    let mid = c.front_of_side.new.pair in
    let front = c.in_ok-front.ensures in
    let still = front.seen told in
    let ready = durable_still d.moment d.left_since d.may_leave laws.counts_now laws.only_now d.seen pair mid durable front.read still in
    let gate = same_octets (λ (a b : List ℕ). GateMeans (of_side c.args.side a b) c.in_ok-front.front.is_shut) (d.seen mid.a) (d.seen mid.b) (d.seen pair.a) (d.seen pair.b) (sym still.a) (sym still.b) (front.gate told) in
    read_shut d.moment d.left_since d.may_leave laws.counts_now laws.only_now d.seen c.args.side pair mid c.shut_front.new.pair durable front.read still (c.shut_front.ensures.moments told ready gate)

pub returns-clause-moments : goal.returns-clause-moments
returns-clause-moments g c = λ told durable.
    let d = g.D.LeaseDisk in
    let laws = g.met.D.LeaseDisk in
    let pair = c.args.pair.now in
    let mid = c.front_of_side.new.pair in
    let front = c.in_ok-front.ensures in
    let still = front.seen told in
    let ready = durable_still d.moment d.left_since d.may_leave laws.counts_now laws.only_now d.seen pair mid durable front.read still in
    let gate = same_octets (λ (a b : List ℕ). GateMeans (of_side c.args.side a b) c.in_ok-front.front.is_shut) (d.seen mid.a) (d.seen mid.b) (d.seen pair.a) (d.seen pair.b) (sym still.a) (sym still.b) (front.gate told) in
    read_shut d.moment d.left_since d.may_leave laws.counts_now laws.only_now d.seen c.args.side pair mid c.shut_front.new.pair durable front.read still (c.shut_front.ensures.moments told ready gate)

pub returns-clause-shut : goal.returns-clause-shut
returns-clause-shut g c = λ told.
    let d = g.D.LeaseDisk in
    let pair = c.args.pair.now in
    let mid = c.front_of_side.new.pair in
    let new = c.shut_front.new.pair in
    let front = c.in_ok-front.ensures in
    let still = front.seen told in
    let gate = same_octets (λ (a b : List ℕ). GateMeans (of_side c.args.side a b) c.in_ok-front.front.is_shut) (d.seen mid.a) (d.seen mid.b) (d.seen pair.a) (d.seen pair.b) (sym still.a) (sym still.b) (front.gate told) in
    let long = same_octets (λ (a b : List ℕ). c.in_ok-front.front.size ≡ length (of_side c.args.side a b)) (d.seen mid.a) (d.seen mid.b) (d.seen pair.a) (d.seen pair.b) (sym still.a) (sym still.b) (front.size told) in
    let some : 0 < length (of_side c.args.side (d.seen pair.a) (d.seen pair.b)) = omega (arith, front.size told, c.if-front-eq0.false) in
    prepared_anew c.args.side c.in_ok-shut_front.field-0 (d.seen pair.a) (d.seen pair.b) (d.seen new.a) (d.seen new.b) some
    (same_octets (λ (a b : List ℕ). IsPrepared c.args.side c.in_ok-shut_front.field-0 a b (d.seen new.a) (d.seen new.b)) (d.seen pair.a) (d.seen pair.b) (d.seen mid.a) (d.seen mid.b) still.a still.b (c.in_ok-shut_front.ensures.shut told gate long))

pub returns-clause-durable : goal.returns-clause-durable
returns-clause-durable g c = λ told durable.
    let d = g.D.LeaseDisk in
    let laws = g.met.D.LeaseDisk in
    c.in_ok-shut_front.ensures.durable told (durable_still d.moment d.left_since d.may_leave laws.counts_now laws.only_now d.seen c.args.pair.now c.front_of_side.new.pair durable c.in_ok-front.ensures.read (c.in_ok-front.ensures.seen told))
