-- What serving takes memory for (our own).
use Rattle.std.specs.Prelude.{◌≡◌, ℕ, ◌≤◌, [], length, vec_capacity}
use Rattle.pcp_base.specs.declared.configs.Config.{Config}
use Rattle.request_workers.specs.declared.rooms.Room.{Room}
use Rattle.request_workers.specs.Seats.{AreSeats}

-- a seat for each external address of the configuration, and room for all
pub record IsRoom {P : Type 0} (config : Config) (count : ℕ) (room : Room P) : Type 0 where
  pub seats : AreSeats config 0 room.seats.items
  pub seat_count : length room.seats.items ≡ count
  pub queues : (room.queues.items ≡ []) × (count ≤ vec_capacity room.queues)
  pub desks : (room.desks.items ≡ []) × (count ≤ vec_capacity room.desks)
  pub ports : (room.ports.items ≡ []) × (count ≤ vec_capacity room.ports)
  pub rows : (room.rows.items ≡ []) × (count ≤ vec_capacity room.rows)
