-- The records of what a state that is reached holds are well formed.
use Rattle.std.proofs.Common.{ℕ, ◌<◌, ◌^◌, List, [], ◌∷◌, map}
use Rattle.std.specs.List.{AllByRecursion}
use Rattle.pcp_base.specs.declared.leases.End.{End}
use Rattle.pcp_base.specs.declared.leases.MapLease.{MapLease}
use Rattle.pcp_base.specs.declared.leases.PeerLease.{PeerLease}
use Rattle.pcp_base.specs.Reached.{IsReached}
use Rattle.pcp_base.specs.Records.{IsEndAt, IsTermAt, IsWellFormedRecord}
use Rattle.pcp_base.specs.Snapshots.{end_record, map_record, peer_record}
use Rattle.pcp_base.specs.States.{State}
use Rattle.pcp_base.specs.Tables.{IsMapLease, IsPeerLease}

module _ (m : ℕ) (within : m < 2 ^ 40) where
  ends_formed : (ends : List End) → AllByRecursion (IsEndAt m) ends → AllByRecursion IsWellFormedRecord (map (end_record m) ends)
  ends_formed [] all = tt
  ends_formed (e ∷ ends) all = (record { moment = within; change = all.0 }, ends_formed ends all.1)

  maps_formed : (leases : List MapLease) → AllByRecursion IsMapLease leases → AllByRecursion (λ l. IsTermAt m l.granted l.expiry) leases → AllByRecursion IsWellFormedRecord (map (map_record m) leases)
  maps_formed [] sound terms = tt
  maps_formed (l ∷ leases) sound terms = (record { moment = within; change = (sound.0, terms.0) }, maps_formed leases sound.1 terms.1)

  peers_formed : (leases : List PeerLease) → AllByRecursion IsPeerLease leases → AllByRecursion (λ l. IsTermAt m l.granted l.expiry) leases → AllByRecursion IsWellFormedRecord (map (peer_record m) leases)
  peers_formed [] sound terms = tt
  peers_formed (l ∷ leases) sound terms = (record { moment = within; change = (sound.0, terms.0) }, peers_formed leases sound.1 terms.1)

module _ (s : State) (is : IsReached s) where
  pub held_ends : AllByRecursion IsWellFormedRecord (map (end_record s.last) s.ends)
  held_ends = ends_formed s.last is.last s.ends is.ends

  pub held_maps : AllByRecursion IsWellFormedRecord (map (map_record s.last) s.table.maps)
  held_maps = maps_formed s.last is.last s.table.maps is.sound.table.maps is.maps

  pub held_peers : AllByRecursion IsWellFormedRecord (map (peer_record s.last) s.table.peers)
  held_peers = peers_formed s.last is.last s.table.peers is.sound.table.peers is.peers
