use Rattle.std.proofs.Common.{◌≡◌, ◌++◌, ℕ, List, ap, ◌∙◌}
use Rattle.pcp_base.specs.declared.leases.PeerLease.{PeerLease}
use Rattle.pcp_announce.specs.Updates.{peer_update}
use Rattle.lease_house.specs.SoloOpenings.{update_to}
use Rattle.lease_house.proofs.UpdateLemmas.{mapped_on}
use Rattle.lease_house.proofs.updates.push_peers.Goals as goal

pub loop-lease-preserved : goal.loop-lease-preserved
loop-lease-preserved c =
    let lease = c.lease-item.result in
    let text = peer_update lease c.args.address.now c.args.m c.args.base in
    let told : c.update_to.result ≡ update_to lease.endpoint.address text =
    c.update_to.ensures ∙ ap (update_to lease.endpoint.address) (c.in_ok-write_peer_update.ensures.ok ∙ ap (λ (octets : List ℕ). octets ++ text) c.new-text.ensures.items) in
    mapped_on (λ (l : PeerLease). update_to l.endpoint.address (peer_update l c.args.address.now c.args.m c.args.base)) c.args.leases.now c.loop-lease.lease-index lease
    c.args.updates.now.items _ _ c.update_to.result c.loop-lease-test.true c.lease-item.is c.loop-lease.invariant told c.in_ok-push.ensures.items
