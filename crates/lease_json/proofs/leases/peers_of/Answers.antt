use Rattle.std.proofs.Common.{◌≡◌, ◌∙◌, ap, map, rules}
use Rattle.std.proofs.lemmas.List.{take_all}
use Rattle.serde_json.specs.View.{view}
use Rattle.serde_json.specs.declared.value.Value.{the_lemmas}
use Rattle.lease_json.specs.Objects.{peer_value}
use Rattle.lease_json.proofs.MapSteps.{map_step}
use Rattle.lease_json.proofs.leases.peers_of.Goals as goal

pub loop-lease-preserved : goal.loop-lease-preserved
loop-lease-preserved c =
    map_step peer_value view c.args.leases.now c.loop-lease.values.items _ c.loop-lease.lease-index c.lease-item.result c.in_ok-peer_of.field-0
    c.loop-lease.invariant c.loop-lease-test.true c.lease-item.is (search rules) (search rules)

pub returns : goal.returns
returns c =
    let all : map view c.loop-lease.values.items ≡ map peer_value c.args.leases.now =
    c.loop-lease.invariant ∙ ap (map peer_value) (take_all c.loop-lease.lease-index c.args.leases.now c.loop-lease-test.false) in
    search (rules, the_lemmas)
