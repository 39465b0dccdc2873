use Rattle.std.proofs.Common.{sym, ◌∙◌}
use Rattle.expiry_wheel.proofs.Maps.{none_removed}
use Rattle.expiry_wheel.proofs.wheel.Wheel.remove.Goals as goal

pub returns-in_default-clause-removed : goal.returns-in_default-clause-removed
returns-in_default-clause-removed c = none_removed c.args.self.now c.args.id (sym c.find.ensures.found ∙ c.in_default.is)
