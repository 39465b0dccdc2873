use Rattle.std.proofs.Common.{rules, ◌≡◌, ◌∙◌, Some, None, sym}
use Rattle.server_commands.specs.declared.commands.Command.TheVariants.{Dump, Load, Play}
use Rattle.pcp_server.proofs.CommandLemmas.{some-once}
use Rattle.pcp_server.proofs.PairLemmas.{none_fell}
use Rattle.pcp_server.proofs.run.run_once.Goals as goal

pub returns-in-Some-clause-play : goal.returns-in-Some-clause-play
returns-in-Some-clause-play g c start words =
    let at : c.command_of.result ≡ Some c.in-Some.command = search rules in
    c.run_command.ensures.play start (some-once c.in-Some.command (Play start) (sym at ∙ c.command_of.ensures.only (Play start) words))

pub returns-in-Some-clause-load : goal.returns-in-Some-clause-load
returns-in-Some-clause-load g c plan words =
    let at : c.command_of.result ≡ Some c.in-Some.command = search rules in
    c.run_command.ensures.load plan (some-once c.in-Some.command (Load plan) (sym at ∙ c.command_of.ensures.only (Load plan) words))

-- words that are a command are one
pub returns-in-None-clause-play : goal.returns-in-None-clause-play
returns-in-None-clause-play g c start words =
    let at : c.command_of.result ≡ None = search rules in
    absurd (let bad : None ≡ Some (Play start) = sym at ∙ c.command_of.ensures.only (Play start) words in cc)

pub returns-in-None-clause-dump : goal.returns-in-None-clause-dump
returns-in-None-clause-dump g c words =
    let at : c.command_of.result ≡ None = search rules in
    absurd (let bad : None ≡ Some Dump = sym at ∙ c.command_of.ensures.only Dump words in cc)

pub returns-in-None-clause-load : goal.returns-in-None-clause-load
returns-in-None-clause-load g c plan words =
    let at : c.command_of.result ≡ None = search rules in
    absurd (let bad : None ≡ Some (Load plan) = sym at ∙ c.command_of.ensures.only (Load plan) words in cc)

pub returns-in-None-clause-disks : goal.returns-in-None-clause-disks
returns-in-None-clause-disks g c = none_fell g.D.LeaseDisk.faults c.args.disks.items
