use Rattle.std.proofs.Common.{ℕ, ◌≤◌}
use Rattle.load_player.specs.LoadEnds.{load_course}
use Rattle.load_player.specs.Serving.{IsServing}
use Rattle.load_player.proofs.player.serve_all.Given as goal

-- the requests before this one were served
abbrev pub invariant-loop-i : goal.invariant-loop-i
invariant-loop-i g l = record {
  serving : IsServing (load_course g.A.LoadAnswerer.effects g.A.LoadAnswerer.house g.A.LoadAnswerer.way l.fn.answerer l.answerer) l.fn.plan l.i l.progress;
  rests : g.A.LoadAnswerer.rests l.answerer;
  later : (shard disk : ℕ) → g.A.LoadAnswerer.faults l.fn.answerer shard disk ≤ g.A.LoadAnswerer.faults l.answerer shard disk;
}
