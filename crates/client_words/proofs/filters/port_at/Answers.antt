use Rattle.std.proofs.Common.{rules}
use Rattle.client_words.proofs.FilterLemmas.{port_given, port_none}
use Rattle.client_words.proofs.filters.port_at.Goals as goal

pub returns-in-Some : goal.returns-in-Some
returns-in-Some c = port_given _ _ _ (search rules) c.read_port.ensures

pub returns-in-None : goal.returns-in-None
returns-in-None c = port_none _ (search rules)
