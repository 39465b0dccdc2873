use Rattle.clap.specs.Words.{found_of, rows_of}
use Rattle.client_commands.proofs.PartLemmas.{peer_only}
use Rattle.client_commands.proofs.commands.peer_in.Goals as goal

pub returns : goal.returns
returns c = rw c.peer_with.ensures (peer_only (rows_of (found_of c.args.matches.now)) _ _ c.target_in.ensures c.peer_wanted_in.ensures)
