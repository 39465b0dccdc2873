use Rattle.clap.specs.Words.{found_of, rows_of}
use Rattle.client_commands.proofs.PartLemmas.{map_only}
use Rattle.client_commands.proofs.commands.map_in.Goals as goal

pub returns : goal.returns
returns c = rw c.map_with.ensures (map_only (rows_of (found_of c.args.matches.now)) _ _ c.target_in.ensures c.map_wanted_in.ensures)
