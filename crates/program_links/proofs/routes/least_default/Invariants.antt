use Rattle.std.proofs.Common.{◌≡◌, drop}
use Rattle.std.specs.Prelude.{map}
use Rattle.program_links.specs.Routes.{least_default, lesser}
use Rattle.program_links.proofs.routes.least_default.Given as goal

abbrev pub invariant-loop-line : goal.invariant-loop-line
invariant-loop-line l = lesser l.least (least_default (map (λ line. line.now) (drop l.line-index l.lines)))
    ≡ least_default (map (λ line. line.now) l.lines)
