use Rattle.std.proofs.Common.{rules}
use Rattle.proxy_commands.proofs.ProxyLemmas.{port_given}
use Rattle.proxy_commands.proofs.values.port_at.Goals as goal

pub returns-in-Some : goal.returns-in-Some
returns-in-Some c = port_given _ c.as_bytes.result.now c.read_port.result (search rules) c.read_port.ensures
