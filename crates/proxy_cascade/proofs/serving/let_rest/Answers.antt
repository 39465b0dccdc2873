use Rattle.std.proofs.Common.{ap}
use Rattle.cascade_ties.specs.declared.ties.Tie.{Tie}
use Rattle.proxy_cascade.proofs.serving.let_rest.Goals as goal

pub rest-requires-clause-may : goal.rest-requires-clause-may
rest-requires-clause-may c = record { tied = c.requires.tied.tied; found = c.requires.tied.found; port = ap (λ (x : Tie). x.local) c.requires.tied.same }
