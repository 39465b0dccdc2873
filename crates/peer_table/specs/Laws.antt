-- What holds of the PEER leases of a table.
use Rattle.std.specs.Prelude.{◌≡◌, ◌<◌, Bool, false, List, length, filter, count_by, None}
use Rattle.std.specs.List.{list_any}
use Rattle.pcp_base.specs.declared.leases.TheConstants.{MOST_LEASES, MOST_PEERS}
use Rattle.pcp_base.specs.declared.leases.PeerLease.{PeerLease}
use Rattle.pcp_base.specs.Tables.{Table, IsPeerLease, names}
use Rattle.pcp_base.specs.Sound.{Sound}
use Rattle.peer_table.specs.PeerLists.{AreSoundPeers, peer_with_key, overlaps, with_peer}

-- the PEER leases of a sound table are sound by themselves
abbrev pub SoundTablesHaveSoundPeers : Type 0
SoundTablesHaveSoundPeers = (t : Table) → Sound t → AreSoundPeers t.peers

-- of sound leases, those that pass a test are sound
abbrev pub FewerPeersAreSound : Type 0
FewerPeersAreSound = (test : PeerLease → Bool) (ls : List PeerLease)
    → AreSoundPeers ls → AreSoundPeers (filter test ls)

-- the leases have room for one more with this endpoint
pub record HaveRoomFor (l : PeerLease) (ls : List PeerLease) : Type 0 where
  pub few : length ls < MOST_LEASES
  pub few_peers : count_by (λ other. names other l.endpoint) ls < MOST_PEERS

-- sound leases are sound with one more that overlaps none of them, where its key or room is there
abbrev pub PeersAreSoundWithOneMore : Type 0
PeersAreSoundWithOneMore = (l : PeerLease) (ls : List PeerLease) → AreSoundPeers ls
    → IsPeerLease l → list_any (overlaps l) ls ≡ false
    → (peer_with_key l.endpoint l.remote l.remote_port ls ≡ None → HaveRoomFor l ls)
    → AreSoundPeers (with_peer l ls)
