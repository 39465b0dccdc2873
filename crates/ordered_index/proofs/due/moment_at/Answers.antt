use Rattle.std.proofs.Common.{ap, ◌∙◌}
use Rattle.ordered_index.specs.Slots.{moment_of}
use Rattle.ordered_index.proofs.due.moment_at.Goals as goal

pub returns-in_default-clause-moment : goal.returns-in_default-clause-moment
returns-in_default-clause-moment g c = ap (moment_of g.L.Expires.expiry) c.in_default.ensures

pub returns-clause-moment : goal.returns-clause-moment
returns-clause-moment g c = c.expires_at.ensures ∙ ap (moment_of g.L.Expires.expiry) c.in-Some.ensures
