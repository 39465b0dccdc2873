use Rattle.std.proofs.Common.{ℕ, ap, ◌∙◌}
use Rattle.std.specs.FinMap.{insert}
use Rattle.cascade_ties.proofs.RestLemmas.{Rests, has_room, reserved_made}
use Rattle.cascade_ties.proofs.steps.rest_tie.Goals as goal

pub conclude-requires-clause-there : goal.conclude-requires-clause-there
conclude-requires-clause-there c = has_room c.args.rests.now c.spot-at.result c.args.until_ms c.reserve.new.rests c.in_ok-fresh.ensures.ok

pub returns-clause-ok : goal.returns-clause-ok
returns-clause-ok c =
    c.conclude.ensures.made ∙ ap (λ (m : Rests). insert m c.spot-at.result c.args.until_ms) c.in_ok-fresh.ensures.ok
    ∙ reserved_made c.args.rests.now c.spot-at.result c.args.until_ms ∙ ap (λ (n : ℕ). insert c.args.rests.now n c.args.until_ms) c.spot-at.ensures

pub conclude-requires-clause-sometime : goal.conclude-requires-clause-sometime
conclude-requires-clause-sometime c = c.requires
