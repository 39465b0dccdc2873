use Rattle.std.proofs.Common.{◌≡◌, ◌++◌, drop}
use Rattle.serve_runs.specs.TallyTexts.{rows_text}
use Rattle.serve_runs.proofs.tally_texts.tally_text.Given as goal

-- what is left to write comes behind what is written
abbrev pub invariant-loop-place : goal.invariant-loop-place
invariant-loop-place l =
    (l.text.items ++ rows_text l.place (drop l.place l.rows)) ≡ rows_text 0 l.rows
