use Rattle.std.proofs.Common.{length}
use Rattle.program_texts.proofs.aims.+is_aimed.Given as goal

abbrev pub decreases-is_aimed : goal.decreases-is_aimed
decreases-is_aimed l = length l.words.now
