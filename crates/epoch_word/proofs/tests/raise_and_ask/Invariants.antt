use Rattle.std.proofs.Common.{◌≡◌, ◌≤◌, true}
use Rattle.epoch_word.proofs.tests.raise_and_ask.Given as goal

abbrev pub invariant-loop-i : goal.invariant-loop-i
invariant-loop-i l = (l.seat.word ≡ l.initial.seat.word) × (l.initial.seat.raised ≤ l.seat.raised) × (l.initial.seat.heard ≤ l.seat.heard) × (l.last ≡ l.seat.heard) × (l.rises ≡ true)
