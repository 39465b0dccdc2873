use Rattle.clap.specs.Words.{found_of, rows_of}
use Rattle.client_commands.proofs.PartLemmas.{announce_only}
use Rattle.client_commands.proofs.commands.announce_in.Goals as goal

pub returns : goal.returns
returns c = rw c.announce_with.ensures (announce_only (rows_of (found_of c.args.matches.now)) _ c.target_in.ensures)
