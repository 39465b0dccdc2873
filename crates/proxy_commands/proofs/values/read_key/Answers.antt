use Rattle.std.proofs.Common.{rules}
use Rattle.proxy_commands.proofs.ProxyLemmas.{key_found, key_missed}
use Rattle.proxy_commands.proofs.values.read_key.Goals as goal

pub returns-in-Ok : goal.returns-in-Ok
returns-in-Ok c = key_found c.args.text.now c.in-Ok.key c.from_hex.result (search rules) c.from_hex.ensures

pub returns-in-Err : goal.returns-in-Err
returns-in-Err c = key_missed c.args.text.now c.from_hex.result (search rules) c.from_hex.ensures
