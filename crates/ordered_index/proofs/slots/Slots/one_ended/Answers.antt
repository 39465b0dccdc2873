use Rattle.std.proofs.Common.{ℕ, subst}
use Rattle.std.specs.BTreeMap.{BTreeMap}
use Rattle.ordered_index.specs.Ended.{IsOneEnded}
use Rattle.ordered_index.proofs.SlotMoments.{ended-number, none-ended}
use Rattle.ordered_index.proofs.slots.Slots.one_ended.Goals as goal

pub first_ended-requires : goal.first_ended-requires
first_ended-requires g c = c.self.invariant.due

pub returns : goal.returns
returns g c =
    let expiry = g.L.Expires.expiry in
    subst (λ (leases : BTreeMap ℕ g.row.L.Denot). IsOneEnded expiry c.args.m leases c.first_ended.result) c.self.view_is (record {
      ended = ended-number expiry c.self.inside.slots c.self.inside.order c.self.inside.leasts c.self.invariant c.args.m c.first_ended.result c.first_ended.ensures.number;
      none = none-ended expiry c.self.inside.slots c.self.inside.order c.self.inside.leasts c.self.invariant c.args.m c.first_ended.result c.first_ended.ensures.none;
    })
