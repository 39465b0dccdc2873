use Rattle.std.proofs.Common.{length}
use Rattle.client_words.proofs.asks.+has_option.Given as goal

abbrev pub decreases-has_option : goal.decreases-has_option
decreases-has_option l = length l.words.now
