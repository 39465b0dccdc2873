-- The words of the client's commands (our own): the name of one, and what its options say.
use Rattle.std.specs.Prelude.{◌≡◌, List, slice_get, Option, Some, None, IfSome, codes}
use Rattle.clap.specs.Words.{App, Row, Text, first_of}
use Rattle.client_commands.specs.declared.commands.ClientCommand.{ClientCommand}
use Rattle.client_commands.specs.declared.commands.ClientCommand.TheVariants.{Map, Peer, Announce}
use Rattle.client_commands.specs.declared.commands.MapWanted.{MapWanted}
use Rattle.client_commands.specs.declared.commands.Mapping.{Mapping}
use Rattle.client_commands.specs.declared.commands.PeerWanted.{PeerWanted}
use Rattle.client_commands.specs.declared.commands.Target.{Target}
use Rattle.client_commands.specs.declared.commands.TheConstants.{DEFAULT_LIFETIME, DEFAULT_TRIES, MOST_TRIES}
use Rattle.client_commands.specs.Options.{announce_app, map_app, peer_app}
use Rattle.client_commands.specs.Parses.{Takes}
use Rattle.client_commands.specs.Values.{IsAddressAt, IsNumberAt, IsProtocolAt, NumberRange, flag_at}

-- the ranges of the numbers
abbrev pub tries_range : NumberRange
tries_range = record { default = Some DEFAULT_TRIES; low = 1; high = MOST_TRIES }

-- of a port that must be given
abbrev pub port_range : NumberRange
port_range = record { default = None; low = 1; high = 65535 }

abbrev pub lifetime_range : NumberRange
lifetime_range = record { default = Some DEFAULT_LIFETIME; low = 1; high = 4294967295 }

-- of the external port, where 0 suggests none
abbrev pub external_range : NumberRange
external_range = record { default = Some 0; low = 0; high = 65535 }

abbrev pub size_range : NumberRange
size_range = record { default = Some 1; low = 1; high = 65535 }

-- what the options say, of which each has a value where it is there
pub record IsTarget (values : Text → Option Text) (target : Target) : Type 0 where
  pub server : IsAddressAt (values (codes "server")) target.server
  pub own : IsAddressAt (values (codes "own")) target.own
  pub tries : IsNumberAt tries_range (values (codes "tries")) target.tries

pub record IsMapping (values : Text → Option Text) (mapping : Mapping) : Type 0 where
  pub protocol : IsProtocolAt (values (codes "protocol")) mapping.protocol
  pub port : IsNumberAt port_range (values (codes "port")) mapping.port
  pub lifetime : IsNumberAt lifetime_range (values (codes "lifetime")) mapping.lifetime
  pub external : IsNumberAt external_range (values (codes "external-port")) mapping.external

pub record IsMapWanted (values : Text → Option Text) (wanted : MapWanted) : Type 0 where
  pub mapping : IsMapping values wanted.mapping
  pub size : IsNumberAt size_range (values (codes "size")) wanted.size
  pub prefer : wanted.prefer ≡ flag_at (values (codes "prefer-failure"))

pub record IsPeerWanted (values : Text → Option Text) (wanted : PeerWanted) : Type 0 where
  pub mapping : IsMapping values wanted.mapping
  pub remote : IsAddressAt (values (codes "remote")) wanted.remote
  pub remote_port : IsNumberAt port_range (values (codes "remote-port")) wanted.remote_port

-- the value of a name in what a parse found
abbrev pub value_in : List Row → Text → Option Text
value_in rows name = first_of name rows

-- what is found by `map` says this command, and likewise by `peer` and `announce`
abbrev pub IsMapIn : List Row → ClientCommand → Type 0
IsMapIn rows (Map target wanted) =
    IsTarget (value_in rows) target × IsMapWanted (value_in rows) wanted
IsMapIn rows (Peer target wanted) = ⊥
IsMapIn rows (Announce target) = ⊥

abbrev pub IsPeerIn : List Row → ClientCommand → Type 0
IsPeerIn rows (Map target wanted) = ⊥
IsPeerIn rows (Peer target wanted) =
    IsTarget (value_in rows) target × IsPeerWanted (value_in rows) wanted
IsPeerIn rows (Announce target) = ⊥

abbrev pub IsAnnounceIn : List Row → ClientCommand → Type 0
IsAnnounceIn rows (Map target wanted) = ⊥
IsAnnounceIn rows (Peer target wanted) = ⊥
IsAnnounceIn rows (Announce target) = IsTarget (value_in rows) target

-- the words are taken by `map`, and say this command; and likewise by `peer` and `announce`
pub record IsTakenBy (app : App) (IsIn : List Row → ClientCommand → Type 0) (words : List Text)
    (command : ClientCommand) : Type 0 where
  pub rows : List Row
  pub taken : Takes app words rows
  pub said : IsIn rows command

-- the first word is this name
abbrev pub IsNamed : Text → List Text → Type 0
IsNamed name words = slice_get words 0 ≡ Some name

-- the words are this command
abbrev pub IsCommand : List Text → ClientCommand → Type 0
IsCommand words (Map target wanted) =
    IsNamed (codes "map") words × IsTakenBy map_app IsMapIn words (Map target wanted)
IsCommand words (Peer target wanted) =
    IsNamed (codes "peer") words × IsTakenBy peer_app IsPeerIn words (Peer target wanted)
IsCommand words (Announce target) =
    IsNamed (codes "announce") words × IsTakenBy announce_app IsAnnounceIn words (Announce target)

-- this is found where something is such, and that alone is
pub record IsOnly {X : Type 0} (Is : X → Type 0) (found : Option X) : Type 0 where
  pub value : IfSome found Is
  pub only : (x : X) → Is x → found ≡ Some x
