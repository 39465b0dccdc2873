use Rattle.std.proofs.Common.{◌≡◌, None, Some}
use Rattle.refusal_causes.proofs.commands.words_cause.Goals as goal

pub returns-clause-serve : goal.returns-clause-serve
returns-clause-serve c =
    λ plan is. let none : None ≡ Some plan = c.in-None-serve_of.ensures.only plan is in absurd cc
