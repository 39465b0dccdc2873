use Rattle.std.proofs.Common.{ℕ, count_by, ap, ◌∙◌}
use Rattle.std.specs.BTreeMap.{BTreeMap, values}
use Rattle.ordered_index.specs.Ended.{has_ended}
use Rattle.ordered_index.proofs.slots.Slots.ended.Goals as goal

pub count_ended-requires : goal.count_ended-requires
count_ended-requires g c = c.self.invariant.due

pub returns : goal.returns
returns g c =
    c.count_ended.ensures ∙ c.self.invariant.counted (has_ended g.L.Expires.expiry c.args.m)
    ∙ ap (λ (m : BTreeMap ℕ g.row.L.Denot). count_by (has_ended g.L.Expires.expiry c.args.m) (values m)) c.self.view_is
