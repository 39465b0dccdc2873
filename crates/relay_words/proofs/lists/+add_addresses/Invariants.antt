use Rattle.std.proofs.Common.{length}
use Rattle.relay_words.proofs.lists.+add_addresses.Given as goal

abbrev pub decreases-add_addresses : goal.decreases-add_addresses
decreases-add_addresses l = length l.texts.now
