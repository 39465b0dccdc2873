use Rattle.clap.specs.Words.{found_of, rows_of}
use Rattle.client_commands.specs.Commands.{value_in}
use Rattle.proxy_commands.proofs.ProxyLemmas.{proxy_only}
use Rattle.proxy_commands.proofs.commands.proxy_in.Goals as goal

pub returns : goal.returns
returns c = rw c.proxy_with.ensures (proxy_only (value_in (rows_of (found_of c.args.matches.now))) _ _ _ _ (rw c.value_in.ensures at c.address_at.ensures) (rw c.value_in-2.ensures at c.address_at-2.ensures) (rw c.value_in-3.ensures at c.address_at-3.ensures) (rw c.value_in-4.ensures at c.key_at.ensures))
