use Rattle.clap.specs.Words.{found_of, rows_of}
use Rattle.client_commands.specs.Commands.{value_in}
use Rattle.client_commands.proofs.PartLemmas.{map_wanted_only}
use Rattle.client_commands.proofs.commands.map_wanted_in.Goals as goal

pub returns : goal.returns
returns c = rw c.map_wanted_of.ensures (map_wanted_only (value_in (rows_of (found_of c.args.matches.now))) _ _ _ c.mapping_in.ensures (rw c.value_in.ensures at c.size_at.ensures) (rw c.value_in-2.ensures at c.flag_at.ensures))
