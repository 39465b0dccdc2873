use Rattle.std.proofs.Common.{rules}
use Rattle.relay_words.proofs.TextLemmas.{prefix_found, prefix_missed}
use Rattle.relay_words.proofs.lists.prefix_of.Goals as goal

pub returns-in-Ok : goal.returns-in-Ok
returns-in-Ok c = prefix_found _ c.read.result _ (search rules) c.read.ensures.text c.read.ensures.only

pub returns-in-Err : goal.returns-in-Err
returns-in-Err c = prefix_missed _ c.read.result _ (search rules) c.read.ensures.refused
