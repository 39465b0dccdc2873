use Rattle.std.proofs.Common.{length}
use Rattle.client_words.proofs.filters.+add_filters.Given as goal

abbrev pub decreases-add_filters : goal.decreases-add_filters
decreases-add_filters l = length l.texts.now
