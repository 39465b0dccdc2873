use Rattle.std.proofs.Common.{◌≡◌, List, ℕ, length, sym}
use Rattle.std.proofs.lemmas.Result.{IfOk-weaker}
use Rattle.lease_journal.specs.Beginnings.{GateMeans, IsPrepared}
use Rattle.journal_sides.specs.Writes.{of_side}
use Rattle.lease_journal.proofs.OpeningLaws.{read_shut, same_octets}
use Rattle.lease_journal.proofs.PrepareLaws.{prepare_still, durable_still}
use Rattle.lease_journal.proofs.openings.prepare.Goals as goal

pub returns-in_err-front-clause-moments : goal.returns-in_err-front-clause-moments
returns-in_err-front-clause-moments g c = λ told durable.
    let d = g.D.LeaseDisk in
    let laws = g.met.D.LeaseDisk in
    prepare_still d.moment d.left_since d.may_leave laws.counts_now laws.only_now d.seen c.args.side c.args.pair.now c.front_of_side.new.pair durable c.front_of_side.ensures.read

pub returns-clause-moments : goal.returns-clause-moments
returns-clause-moments g c = λ told durable.
    let d = g.D.LeaseDisk in
    let laws = g.met.D.LeaseDisk in
    let pair = c.args.pair.now in
    let mid = c.front_of_side.new.pair in
    let front = c.in_ok-front.ensures in
    let still = front.seen told in
    let ready = durable_still d.moment d.left_since d.may_leave laws.counts_now laws.only_now d.seen pair mid durable front.read still in
    let gate = same_octets (λ (a b : List ℕ). GateMeans (of_side c.args.side a b) c.in_ok-front.front.is_shut) (d.seen mid.a) (d.seen mid.b) (d.seen pair.a) (d.seen pair.b) (sym still.a) (sym still.b) (front.gate told) in
    read_shut d.moment d.left_since d.may_leave laws.counts_now laws.only_now d.seen c.args.side pair mid c.shut_front.new.pair durable front.read still (c.shut_front.ensures.moments told ready gate)

pub returns-clause-shut : goal.returns-clause-shut
returns-clause-shut g c = λ told.
    let d = g.D.LeaseDisk in
    let pair = c.args.pair.now in
    let mid = c.front_of_side.new.pair in
    let new = c.shut_front.new.pair in
    let front = c.in_ok-front.ensures in
    let still = front.seen told in
    let gate = same_octets (λ (a b : List ℕ). GateMeans (of_side c.args.side a b) c.in_ok-front.front.is_shut) (d.seen mid.a) (d.seen mid.b) (d.seen pair.a) (d.seen pair.b) (sym still.a) (sym still.b) (front.gate told) in
    let long = same_octets (λ (a b : List ℕ). c.in_ok-front.front.size ≡ length (of_side c.args.side a b)) (d.seen mid.a) (d.seen mid.b) (d.seen pair.a) (d.seen pair.b) (sym still.a) (sym still.b) (front.size told) in
    IfOk-weaker c.shut_front.result _ _ (λ now is. same_octets (λ (a b : List ℕ). IsPrepared c.args.side now a b (d.seen new.a) (d.seen new.b)) (d.seen pair.a) (d.seen pair.b) (d.seen mid.a) (d.seen mid.b) still.a still.b is) (c.shut_front.ensures.shut told gate long)

pub returns-clause-durable : goal.returns-clause-durable
returns-clause-durable g c = λ told durable.
    let d = g.D.LeaseDisk in
    let laws = g.met.D.LeaseDisk in
    c.shut_front.ensures.durable told (durable_still d.moment d.left_since d.may_leave laws.counts_now laws.only_now d.seen c.args.pair.now c.front_of_side.new.pair durable c.in_ok-front.ensures.read (c.in_ok-front.ensures.seen told))
