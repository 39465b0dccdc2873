use Rattle.pcp_base.specs.declared.leases.MapLease.{MapLease}
use Rattle.pcp_base.specs.declared.leases.PeerLease.{PeerLease}
use Rattle.lease_house.proofs.UpdateLemmas.{left_live}
use Rattle.lease_house.proofs.updates.push_leases.Goals as goal

pub push_maps-requires : goal.push_maps-requires
push_maps-requires g c = left_live (λ (l : MapLease). l.expiry) c.last-m.result _ _ c.deref.result.now c.in_ok-maps.ensures c.deref.ensures.value

pub push_peers-requires : goal.push_peers-requires
push_peers-requires g c = left_live (λ (l : PeerLease). l.expiry) c.last-m.result _ _ c.deref-2.result.now c.in_ok-peers.ensures c.deref-2.ensures.value
