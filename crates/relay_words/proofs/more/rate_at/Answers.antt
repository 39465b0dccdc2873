use Rattle.std.proofs.Common.{rules}
use Rattle.relay_words.proofs.TextLemmas.{rate_given, rate_none}
use Rattle.relay_words.proofs.more.rate_at.Goals as goal

pub returns-in-Some : goal.returns-in-Some
returns-in-Some c = rate_given _ _ _ (search rules) c.read_rate.ensures

pub returns-in-None : goal.returns-in-None
returns-in-None c = rate_none _ (search rules)
