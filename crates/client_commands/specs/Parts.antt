-- Commands put together of their parts, where all are there (our own; for private contracts).
use Rattle.std.specs.Prelude.{ℕ, Bool, Option, Some, None}
use Rattle.pcp_base.specs.declared.addresses.Address.{Address}
use Rattle.pcp_base.specs.declared.leases.Protocol.{Protocol}
use Rattle.client_commands.specs.declared.commands.ClientCommand.{ClientCommand}
use Rattle.client_commands.specs.declared.commands.ClientCommand.TheVariants.{Map, Peer, Announce}
use Rattle.client_commands.specs.declared.commands.MapWanted.{MapWanted}
use Rattle.client_commands.specs.declared.commands.Mapping.{Mapping}
use Rattle.client_commands.specs.declared.commands.PeerWanted.{PeerWanted}
use Rattle.client_commands.specs.declared.commands.Target.{Target}

abbrev pub target_of : Option Address → Option Address → Option ℕ → Option Target
target_of (Some server) (Some own) (Some tries) =
    Some (record { server = server; own = own; tries = tries })
target_of server own tries = None

abbrev pub mapping_of : Option Protocol → Option ℕ → Option ℕ → Option ℕ → Option Mapping
mapping_of (Some protocol) (Some port) (Some lifetime) (Some external) =
    Some (record { protocol = protocol; port = port; lifetime = lifetime; external = external })
mapping_of protocol port lifetime external = None

abbrev pub map_wanted_of : Option Mapping → Option ℕ → Bool → Option MapWanted
map_wanted_of (Some mapping) (Some size) prefer =
    Some (record { mapping = mapping; size = size; prefer = prefer })
map_wanted_of mapping size prefer = None

abbrev pub peer_wanted_of : Option Mapping → Option Address → Option ℕ → Option PeerWanted
peer_wanted_of (Some mapping) (Some remote) (Some port) =
    Some (record { mapping = mapping; remote = remote; remote_port = port })
peer_wanted_of mapping remote port = None

abbrev pub map_with : Option Target → Option MapWanted → Option ClientCommand
map_with (Some target) (Some wanted) = Some (Map target wanted)
map_with target wanted = None

abbrev pub peer_with : Option Target → Option PeerWanted → Option ClientCommand
peer_with (Some target) (Some wanted) = Some (Peer target wanted)
peer_with target wanted = None

abbrev pub announce_with : Option Target → Option ClientCommand
announce_with (Some target) = Some (Announce target)
announce_with None = None
