use Rattle.clap.specs.Words.{found_of, rows_of}
use Rattle.client_commands.specs.Commands.{value_in}
use Rattle.client_commands.proofs.PartLemmas.{mapping_only}
use Rattle.client_commands.proofs.commands.mapping_in.Goals as goal

pub returns : goal.returns
returns c = rw c.mapping_of.ensures (mapping_only (value_in (rows_of (found_of c.args.matches.now))) _ _ _ _ (rw c.value_in.ensures at c.protocol_at.ensures) (rw c.value_in-2.ensures at c.port_at.ensures) (rw c.value_in-3.ensures at c.lifetime_at.ensures) (rw c.value_in-4.ensures at c.external_at.ensures))
