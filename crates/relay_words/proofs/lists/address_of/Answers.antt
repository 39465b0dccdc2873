use Rattle.std.proofs.Common.{rules}
use Rattle.client_commands.proofs.CommandLemmas.{address_found, address_missed}
use Rattle.relay_words.proofs.lists.address_of.Goals as goal

pub returns-in-Ok : goal.returns-in-Ok
returns-in-Ok c = address_found _ c.read.result _ (search rules) c.read.ensures.text c.read.ensures.only

pub returns-in-Err : goal.returns-in-Err
returns-in-Err c = address_missed _ c.read.result _ (search rules) c.read.ensures.refused
