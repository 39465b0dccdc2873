use Rattle.std.proofs.Common.{◌-◌, ◌≤◌}
use Rattle.script_player.proofs.ReadingLemmas.{Goes}
use Rattle.script_player.proofs.readers.LineReader.next_line.Given as goal

abbrev pub invariant-loop-next : goal.invariant-loop-next
invariant-loop-next g l =
    Goes l.initial.self l.self (g.S.Source.left l.initial.input) (g.S.Source.left l.input) l.text.items
    × (g.S.Source.faults l.initial.input ≤ g.S.Source.faults l.input)

abbrev pub decreases-loop-next : goal.decreases-loop-next
decreases-loop-next g l = l.initial.self.limits.most - l.self.used
