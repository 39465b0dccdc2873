use Rattle.std.proofs.Common.{rules}
use Rattle.proxy_commands.proofs.ProxyLemmas.{key_given}
use Rattle.proxy_commands.proofs.values.key_at.Goals as goal

pub returns-in-Some : goal.returns-in-Some
returns-in-Some c = key_given _ c.as_bytes.result.now c.read_key.result (search rules) c.read_key.ensures
