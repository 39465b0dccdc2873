-- The words of the relays' commands (our own): the name of one, and what its options say.
use Rattle.std.specs.Prelude.{◌≤◌, List, Option, codes}
use Rattle.clap.specs.Words.{App, Row, Text, new_app}
use Rattle.client_commands.specs.Commands.{IsNamed, port_range, value_in}
use Rattle.client_commands.specs.Options.{with_needed, with_option}
use Rattle.client_commands.specs.Parses.{Takes}
use Rattle.client_commands.specs.Values.{IsAddressAt, IsNumberAt}
use Rattle.proxy_commands.specs.declared.commands.CascadeCommand.{CascadeCommand}
use Rattle.proxy_commands.specs.declared.commands.ProxyCommand.{ProxyCommand}
use Rattle.proxy_commands.specs.Keys.{IsKeyAt}

-- the options
abbrev pub with_addresses : App → App
with_addresses app =
    with_needed (codes "inner") (with_needed (codes "own") (with_needed (codes "server") app))

-- Of both commands. No words without the key are a command; but a program may have it of a file, and so the parser, whose help
-- people read, is told that it may lack.
abbrev pub with_relay : App → App
with_relay app = with_option (codes "key") (with_addresses app)

abbrev pub with_range : App → App
with_range app = with_needed (codes "high") (with_needed (codes "low") app)

abbrev pub proxy_app : App
proxy_app = with_relay (new_app (codes "pcp proxy"))

abbrev pub cascade_app : App
cascade_app = with_range (with_relay (new_app (codes "pcp cascade")))

-- what the options say
pub record IsProxyIn (values : Text → Option Text) (command : ProxyCommand) : Type 0 where
  pub server : IsAddressAt (values (codes "server")) command.server
  pub own : IsAddressAt (values (codes "own")) command.own
  pub inner : IsAddressAt (values (codes "inner")) command.inner
  pub key : IsKeyAt (values (codes "key")) command.key

-- the same, and a range of ports that isn't empty
pub record IsCascadeIn (values : Text → Option Text) (command : CascadeCommand) : Type 0 where
  pub relay : IsProxyIn values command.relay
  pub low : IsNumberAt port_range (values (codes "low")) command.low
  pub high : IsNumberAt port_range (values (codes "high")) command.high
  pub order : command.low ≤ command.high

-- the words behind the first one are taken by a command, and say this
pub record IsTakenBy {C : Type 0} (app : App) (IsIn : (Text → Option Text) → C → Type 0)
    (words : List Text) (command : C) : Type 0 where
  pub rows : List Row
  pub taken : Takes app words rows
  pub said : IsIn (value_in rows) command

-- the words are a command of this name
pub record IsNamedCommand {C : Type 0} (name : Text) (app : App)
    (IsIn : (Text → Option Text) → C → Type 0) (words : List Text) (command : C) : Type 0 where
  pub named : IsNamed name words
  pub behind : IsTakenBy app IsIn words command

-- the words are this `proxy`, and this `cascade`
abbrev pub IsCommand : List Text → ProxyCommand → Type 0
IsCommand words command = IsNamedCommand (codes "proxy") proxy_app IsProxyIn words command

abbrev pub IsCascadeCommand : List Text → CascadeCommand → Type 0
IsCascadeCommand words command =
    IsNamedCommand (codes "cascade") cascade_app IsCascadeIn words command
