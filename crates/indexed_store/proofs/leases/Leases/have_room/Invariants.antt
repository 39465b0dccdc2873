use Rattle.std.proofs.Common.{◌≡◌, drop}
use Rattle.std.specs.List.{list_all}
use Rattle.indexed_store.specs.Judging.{has_room_at}
use Rattle.indexed_store.proofs.leases.Leases.have_room.Given as goal

abbrev pub invariant-loop-owner : goal.invariant-loop-owner
invariant-loop-owner l = list_all (has_room_at l.self.found l.m l.ports) l.owners ≡ list_all (has_room_at l.self.found l.m l.ports) (drop l.owner-index l.owners)
