use Rattle.clap.specs.Words.{found_of, rows_of}
use Rattle.client_commands.specs.Commands.{value_in}
use Rattle.client_commands.proofs.PartLemmas.{target_only}
use Rattle.client_commands.proofs.commands.target_in.Goals as goal

pub returns : goal.returns
returns c = rw c.target_of.ensures (target_only (value_in (rows_of (found_of c.args.matches.now))) _ _ _ (rw c.value_in.ensures at c.address_at.ensures) (rw c.value_in-2.ensures at c.address_at-2.ensures) (rw c.value_in-3.ensures at c.tries_at.ensures))
