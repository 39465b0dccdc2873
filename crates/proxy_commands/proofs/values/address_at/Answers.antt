use Rattle.std.proofs.Common.{rules}
use Rattle.client_commands.proofs.CommandLemmas.{address_given}
use Rattle.proxy_commands.proofs.values.address_at.Goals as goal

pub returns-in-Some : goal.returns-in-Some
returns-in-Some c = address_given _ _ _ (search rules) c.read_address.ensures
