use Rattle.std.proofs.Common.{rules}
use Rattle.clap.specs.Words.{app_of}
use Rattle.client_commands.proofs.CommandLemmas.{found_ok}
use Rattle.proxy_commands.proofs.parses.found_in.Goals as goal

pub returns-in-Ok : goal.returns-in-Ok
returns-in-Ok c =
    let parse = c.try_get_matches_from in
    found_ok (app_of c.args.command) _ parse.result _ (search rules) (search rules) parse.ensures.kinds parse.ensures.matches
