use Rattle.std.proofs.Common.{rules}
use Rattle.client_words.proofs.MoreLemmas.{third_absent, third_given}
use Rattle.client_words.proofs.more.third_at.Goals as goal

pub returns-in-Some : goal.returns-in-Some
returns-in-Some c = rw c.third_with.ensures (third_given _ _ _ (search rules) c.address_of.ensures)

pub returns-in-None : goal.returns-in-None
returns-in-None c = third_absent _ (search rules)
