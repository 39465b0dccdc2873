use Rattle.std.proofs.Common.{rules, ◌≡◌, ◌∙◌, sym}
use Rattle.server_commands.specs.declared.commands.Command.TheVariants.{Play}
use Rattle.pcp_server.proofs.CommandLemmas.{play-once}
use Rattle.pcp_server.proofs.run.run_command.Goals as goal

pub returns-in-Play-clause-play : goal.returns-in-Play-clause-play
returns-in-Play-clause-play g c start is =
    let at : c.args.command ≡ Play c.in-Play.start = search rules in
    let same : start ≡ c.in-Play.start = play-once start c.in-Play.start (sym is ∙ at) in
    rw same c.run_play.ensures.plays
