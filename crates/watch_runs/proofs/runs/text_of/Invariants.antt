use Rattle.std.proofs.Common.{◌≡◌, flat_map, take}
use Rattle.watch_runs.proofs.runs.text_of.Given as goal

abbrev pub invariant-loop-told : goal.invariant-loop-told
invariant-loop-told l = l.text.items ≡ flat_map (λ told. told.lines) (take l.told-index l.all)
