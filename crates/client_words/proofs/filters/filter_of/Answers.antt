use Rattle.client_words.proofs.FilterLemmas.{filter_only}
use Rattle.client_words.proofs.filters.filter_of.Goals as goal

pub returns : goal.returns
returns c = rw c.filter_with.ensures (filter_only c.args.text.now _ _ (rw c.before_comma.ensures at c.prefix_in.ensures) (rw c.behind_comma.ensures at c.port_at.ensures))
