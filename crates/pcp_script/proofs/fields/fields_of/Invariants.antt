use Rattle.std.proofs.Common.{length, map}
use Rattle.pcp_script.proofs.WordLemmas.{IsParted}
use Rattle.pcp_script.proofs.fields.fields_of.Given as goal

abbrev pub invariant-loop-field : goal.invariant-loop-field
invariant-loop-field l = IsParted l.fn.text l.rest (map (λ f. f.now) l.fields.items)

abbrev pub decreases-loop-field : goal.decreases-loop-field
decreases-loop-field l = length l.rest
