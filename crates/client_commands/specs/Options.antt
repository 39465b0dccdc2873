-- The options of the client's commands, as a parser of command lines is told them (our own).
use Rattle.std.specs.Prelude.{Bool, true, false, Some, codes}
use Rattle.clap.specs.Words.{App, Rule, Text, new_app, new_rule, with_rule}
use Rattle.clap.specs.declared.builder.action.ArgAction.TheVariants.{SetTrue}

-- `--name VALUE`
abbrev pub option_rule : Bool → Text → Rule
option_rule needed name =
    record (new_rule name) { long = Some name; value_names = 1; required = needed }

-- `--name` alone
abbrev pub flag_rule : Text → Rule
flag_rule name = record (new_rule name) { long = Some name; action = Some SetTrue }

-- a command with an option that it needs, and with one that it doesn't
abbrev pub with_needed : Text → App → App
with_needed name app = with_rule app (option_rule true name)

abbrev pub with_option : Text → App → App
with_option name app = with_rule app (option_rule false name)

-- Whom to ask, and how often. No words without the addresses are a command; but a program may find these itself, and so the
-- parser, whose help people read, is told that they may lack.
abbrev pub with_addresses : App → App
with_addresses app = with_option (codes "own") (with_option (codes "server") app)

abbrev pub with_target : App → App
with_target app = with_option (codes "tries") (with_addresses app)

-- which internal port
abbrev pub with_endpoint : App → App
with_endpoint app = with_needed (codes "port") (with_needed (codes "protocol") app)

-- what `map` and `peer` ask for both
abbrev pub with_wanted : App → App
with_wanted app =
    with_option (codes "external-port") (with_option (codes "lifetime") (with_endpoint app))

-- and `map` alone
abbrev pub with_ports : App → App
with_ports app = with_rule (with_option (codes "size") (with_wanted app))
    (flag_rule (codes "prefer-failure"))

abbrev pub map_app : App
map_app = with_ports (with_target (new_app (codes "pcp map")))

abbrev pub peer_app : App
peer_app = with_needed (codes "remote-port") (with_needed (codes "remote")
    (with_wanted (with_target (new_app (codes "pcp peer")))))

abbrev pub announce_app : App
announce_app = with_target (new_app (codes "pcp announce"))
