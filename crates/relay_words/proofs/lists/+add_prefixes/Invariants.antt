use Rattle.std.proofs.Common.{length}
use Rattle.relay_words.proofs.lists.+add_prefixes.Given as goal

abbrev pub decreases-add_prefixes : goal.decreases-add_prefixes
decreases-add_prefixes l = length l.texts.now
