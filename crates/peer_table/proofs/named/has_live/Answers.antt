use Rattle.std.proofs.Common.{◌∙◌}
use Rattle.peer_table.specs.PeerLists.{is_live_peer}
use Rattle.peer_table.proofs.PeerKeys.{bounds_forward}
use Rattle.peer_table.proofs.PortUses.{few_there, any_passes}
use Rattle.peer_table.proofs.named.has_live.Goals as goal

pub first_live-requires-clause-forward : goal.first_live-requires-clause-forward
first_live-requires-clause-forward g c = bounds_forward c.args.endpoint.now c.bound_at-from.result c.bound_at-to.result c.bound_at-from.ensures c.bound_at-to.ensures

pub first_live-requires-clause-few : goal.first_live-requires-clause-few
first_live-requires-clause-few g c = few_there c.args.kept.now c.requires c.args.endpoint.now c.bound_at-from.result c.bound_at-to.result c.bound_at-from.ensures c.bound_at-to.ensures

pub returns-clause-live : goal.returns-clause-live
returns-clause-live g c =
    c.is_some.ensures ∙ any_passes c.args.kept.now c.requires c.args.endpoint.now c.bound_at-from.result c.bound_at-to.result c.bound_at-from.ensures c.bound_at-to.ensures (is_live_peer c.args.m) c.first_live.result c.first_live.ensures.first
