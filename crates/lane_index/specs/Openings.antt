-- Which leases let a remote peer in (RFC 6887, sections 11, 12 and 13.3).
use Rattle.std.specs.Prelude.{◌≡◌, ℕ, ◌+◌, ◌-◌, ◌&&◌, min, Bool, true, false, List, suc, Some, slice_get}
use Rattle.pcp_base.specs.declared.leases.Endpoint.{Endpoint}
use Rattle.pcp_base.specs.Tables.{EachTwo}
use Rattle.pcp_base.specs.Owners.{peer_owner, is_port}
use Rattle.filter_rules.specs.Filters.{allows}
use Rattle.filter_rules.specs.Lookups.{is_with}
use Rattle.lane_index.specs.declared.cells.Cell.{Cell}
use Rattle.lane_index.specs.declared.cells.Cell.TheVariants.{Mapping, Peering}
use Rattle.pcp_base.proofs.Members.{IsIn}
use Rattle.lane_index.specs.declared.senders.Sender.{Sender}
use Rattle.lane_index.specs.Ports.{slot_at}
use Rattle.lane_index.specs.Slots.{takes, is_live}

-- whether the lease owns the port and lets the remote peer in
abbrev pub lets_in : Sender → Cell → Bool
lets_in s (Mapping l) =
    takes (slot_at s.protocol s.port) (Mapping l) && allows l.filters s.remote s.remote_port
lets_in s (Peering l) = is_port s.protocol s.port (peer_owner l) && is_with s.remote s.remote_port l

-- the endpoint behind the port
abbrev pub behind : ℕ → Cell → Endpoint
behind port (Mapping l) = record {
  address = l.address;
  protocol = l.protocol;
  port = min (l.internal + (port - l.external)) 65535;
}
behind port (Peering l) = l.endpoint

-- where both take one slot, the earlier isn't live at m
abbrev pub LaterWins : ℕ → Cell → Cell → Type 0
LaterWins m earlier later =
    (slot : ℕ) → takes slot earlier ≡ true → takes slot later ≡ true → is_live m earlier ≡ false

abbrev pub EachLaterWins : ℕ → List Cell → Type 0
EachLaterWins m cells = EachTwo (LaterWins m) cells

-- a cell that is live at m and lets the remote peer in, and the endpoint behind the port
pub record IsOpen (m : ℕ) (s : Sender) (cells : List Cell) (e : Endpoint) : Type 0 where
  pub cell : Cell
  pub there : IsIn cell cells
  pub live : is_live m cell ≡ true
  pub lets : lets_in s cell ≡ true
  pub behind : e ≡ behind s.port cell

-- none of the cells that pass is live at m and lets the remote peer in
abbrev pub NoneOpens : ℕ → Sender → (Cell → Bool) → List Cell → Type 0
NoneOpens m s p cells =
    (c : Cell) → IsIn c cells → p c ≡ true → is_live m c ≡ true → lets_in s c ≡ false

-- the cell told by this number isn't live at m, or doesn't let the remote peer in
abbrev pub IsClosedTo : ℕ → Sender → ℕ → List Cell → Type 0
IsClosedTo m s number cells = (i : ℕ) (c : Cell) → number ≡ suc i → slice_get cells i ≡ Some c →
    is_live m c ≡ true → lets_in s c ≡ false
