use Rattle.clap.specs.Words.{found_of, rows_of}
use Rattle.client_commands.specs.Commands.{value_in}
use Rattle.proxy_commands.proofs.ProxyLemmas.{cascade_only}
use Rattle.proxy_commands.proofs.commands.cascade_in.Goals as goal

pub returns : goal.returns
returns c = rw c.cascade_with.ensures (cascade_only (value_in (rows_of (found_of c.args.matches.now))) _ _ _ c.proxy_in.ensures (rw c.value_in.ensures at c.port_at.ensures) (rw c.value_in-2.ensures at c.port_at-2.ensures))
