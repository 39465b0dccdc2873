use Rattle.clap.specs.Words.{found_of, rows_of}
use Rattle.client_commands.specs.Commands.{value_in}
use Rattle.client_commands.proofs.PartLemmas.{peer_wanted_only}
use Rattle.client_commands.proofs.commands.peer_wanted_in.Goals as goal

pub returns : goal.returns
returns c = rw c.peer_wanted_of.ensures (peer_wanted_only (value_in (rows_of (found_of c.args.matches.now))) _ _ _ c.mapping_in.ensures (rw c.value_in.ensures at c.address_at.ensures) (rw c.value_in-2.ensures at c.port_at.ensures))
