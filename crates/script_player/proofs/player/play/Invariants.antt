use Rattle.std.proofs.Common.{◌≡◌, ℕ, ◌+◌, ◌-◌, ◌≤◌, ◌^◌}
use Rattle.script_player.specs.Playing.{IsUnderway, script_limits}
use Rattle.script_player.specs.Ways.{course_of}
use Rattle.script_player.proofs.player.play.Given as goal

-- the lines before this one were read and answered
abbrev pub invariant-loop-number : goal.invariant-loop-number
invariant-loop-number g l = record {
  underway : IsUnderway (course_of g.A.LineAnswerer.effects g.A.LineAnswerer.house g.A.LineAnswerer.way l.fn.answerer l.answerer)
      (record { left = g.S.Source.left l.fn.input; held = g.W.Sink.held l.fn.out }) l.number l.reader
      (record { left = g.S.Source.left l.input; held = g.W.Sink.held l.out });
  rests : g.A.LineAnswerer.rests l.answerer;
  limits : l.reader.limits ≡ script_limits;
  number : l.number ≤ l.reader.used + 1;
  used : l.reader.used ≤ 2 ^ 30;
  reads : g.S.Source.faults l.fn.input ≤ g.S.Source.faults l.input;
  writes : g.W.Sink.faults l.fn.out ≤ g.W.Sink.faults l.out;
  disks : (shard disk : ℕ) → g.A.LineAnswerer.faults l.fn.answerer shard disk ≤ g.A.LineAnswerer.faults l.answerer shard disk;
}

-- the octets that the script may still have
abbrev pub decreases-loop-number : goal.decreases-loop-number
decreases-loop-number g l = 2 ^ 30 - l.reader.used
