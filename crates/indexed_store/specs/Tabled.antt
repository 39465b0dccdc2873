-- What leases and a state in tables are seen as (our own).
use Rattle.std.specs.Prelude.{◌≡◌, ℕ, ◌+◌, ◌≤◌, ◌⊎◌, length, Bool, false, List, Contains, Option, None}
use Rattle.pcp_base.specs.declared.addresses.Address.{Address}
use Rattle.pcp_base.specs.declared.leases.TheConstants.{MOST_LEASES}
use Rattle.pcp_base.specs.Tables.{Table, empty_table, live}
use Rattle.pcp_base.specs.States.{State, empty_state}
use Rattle.pcp_base.specs.declared.leases.MapLease.{MapLease}
use Rattle.pcp_base.specs.declared.leases.PeerLease.{PeerLease}
use Rattle.ordered_index.specs.Aged.{Aged, AreTogether}
use Rattle.mapping_table.specs.MapLists.{AreSoundMaps, first_dead_map, is_live_map}
use Rattle.peer_table.specs.PeerLists.{AreSoundPeers, first_dead_peer, is_live_peer}
use Rattle.leased_ports.specs.Leased.{Leased}
use Rattle.leased_ports.specs.Listed.{ends_come}

-- leases of which some may have ended: those of each kind are sound by themselves
pub record AreTabled (t : Table) : Type 0 where
  pub maps : AreSoundMaps t.maps
  pub peers : AreSoundPeers t.peers
  pub few : length t.maps + length t.peers ≤ MOST_LEASES

-- leases of which some have left what they are looked up by
pub record Tables : Type 0 where
  -- those that are looked up, also where they have ended
  pub found : Table
  -- those that have left
  pub past : Table
  -- all of them
  pub all : Table

-- those of both kinds
abbrev pub tables : Aged MapLease → Aged PeerLease → Tables
tables maps peers = record {
  found = record { maps = maps.found; peers = peers.found };
  past = record { maps = maps.past; peers = peers.past };
  all = record { maps = maps.all; peers = peers.all };
}

abbrev pub no_tables : Tables
no_tables = record { found = empty_table; past = empty_table; all = empty_table }

-- how many leases there are
abbrev pub count_of : Table → ℕ
count_of t = length t.maps + length t.peers

-- the leases of the first are among those of the second
pub record ArePart (part whole : Table) : Type 0 where
  pub maps : (l : MapLease) → Contains part.maps l → Contains whole.maps l
  pub peers : (l : PeerLease) → Contains part.peers l → Contains whole.peers l

-- none of these leases is live at m
pub record ArePast (m : ℕ) (t : Table) : Type 0 where
  pub maps : (l : MapLease) → Contains t.maps l → is_live_map m l ≡ false
  pub peers : (l : PeerLease) → Contains t.peers l → is_live_peer m l ≡ false

-- of leases that have ended by m some may have left
pub record Retires (m : ℕ) (old new : Tables) : Type 0 where
  pub tabled : AreTabled new.found
  pub live : (n : ℕ) → m ≤ n → live new.found n ≡ live old.found n
  pub past : ArePast m old.past → ArePast m new.past
  pub all : new.all ≡ old.all

-- no lease that is looked up has ended by m, or as many of its kind have left as may
pub record NoneMayLeave (m : ℕ) (t : Tables) : Type 0 where
  pub maps : (first_dead_map m t.found.maps ≡ None) ⊎ (MOST_LEASES ≤ length t.past.maps)
  pub peers : (first_dead_peer m t.found.peers ≡ None) ⊎ (MOST_LEASES ≤ length t.past.peers)

-- all leases of each kind tell what those tell that are looked up and those that have left
pub record AreWhole (t : Tables) : Type 0 where
  pub maps : AreTogether (record {
    found = t.found.maps;
    past = t.past.maps;
    all = t.all.maps;
  })
  pub peers : AreTogether (record {
    found = t.found.peers;
    past = t.past.peers;
    all = t.all.peers;
  })

pub record TabledState : Type 0 where
  pub state : State
  -- those that are looked up
  pub leases : Table
  -- those that have left
  pub past : Table
  -- all of them
  pub all : Table
  pub ports : Leased

-- the state of all these leases and ports: those that are live at the last moment, and the ends that
-- came by it
abbrev pub state_in : Table → Leased → (base : ℕ) → Option Address → (last : ℕ) → Bool → State
state_in t v base address last started = record {
  table = live t last;
  ends = ends_come last v;
  base = base;
  address = address;
  last = last;
  started = started;
}

-- what a state in tables is seen as
abbrev pub tabled_state : Tables → Leased → (base : ℕ) → Option Address → (last : ℕ) → Bool
    → TabledState
tabled_state t v base address last started = record {
  state = state_in t.all v base address last started;
  leases = t.found;
  past = t.past;
  all = t.all;
  ports = v;
}

-- no record came: the ports are free
pub record IsNew (s : TabledState) : Type 0 where
  pub state : s.state ≡ empty_state
  pub leases : s.leases ≡ empty_table
  pub past : s.past ≡ empty_table
  pub all : s.all ≡ empty_table
  pub reached : s.ports.reached ≡ 0
