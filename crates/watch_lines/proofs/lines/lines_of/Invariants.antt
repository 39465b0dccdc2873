use Rattle.std.proofs.Common.{◌≡◌, flat_map, take}
use Rattle.watch_lines.specs.Lines.{line_text}
use Rattle.watch_lines.proofs.lines.lines_of.Given as goal

abbrev pub invariant-loop-happening : goal.invariant-loop-happening
invariant-loop-happening l =
    l.lines.items ≡ flat_map (line_text l.setting) (take l.happening-index l.happenings)
