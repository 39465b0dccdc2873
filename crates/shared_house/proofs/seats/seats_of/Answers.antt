use Rattle.std.proofs.Common.{◌∙◌}
use Rattle.shared_house.proofs.seats.seats_of.Goals as goal

pub split-requires : goal.split-requires
split-requires c = record { word = c.loop.invariant.so.knows.word_is ∙ c.requires.word }
