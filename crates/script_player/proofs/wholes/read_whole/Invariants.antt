use Rattle.std.proofs.Common.{◌≡◌, ◌-◌, ◌≤◌, length}
use Rattle.std.specs.Io.KnownBytes.{prepend_known}
use Rattle.script_player.proofs.wholes.read_whole.Given as goal

-- these octets were read
abbrev pub invariant-loop-text : goal.invariant-loop-text
invariant-loop-text g l = record {
  octets : g.S.Source.left l.fn.input ≡ prepend_known l.text.items (g.S.Source.left l.input);
  few : length l.text.items ≤ l.fn.most;
  later : g.S.Source.faults l.fn.input ≤ g.S.Source.faults l.input;
}

abbrev pub decreases-loop-text : goal.decreases-loop-text
decreases-loop-text g l = l.fn.most - length l.text.items
