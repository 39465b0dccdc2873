use Rattle.std.proofs.Common.{ℕ, ◌<◌, ◌≤◌, List, length, IfSome, IfNone, ap, subst, ◌∙◌}
use Rattle.expiry_wheel.specs.Moments.{kept_at, IsFirstIn}
use Rattle.expiry_wheel.specs.Blocks.{leasts_in}
use Rattle.expiry_wheel.proofs.leasts.Leasts.first_from.Goals as goal

pub returns-clause-found : goal.returns-clause-found
returns-clause-found g c =
    let seen = ap (leasts_in c.self.inside.levels) c.deref.ensures.value ∙ c.self.view_is in
    subst (λ (xs : List ℕ). IfSome c.first_from.result (IsFirstIn xs c.args.from c.args.m)) seen c.first_from.ensures.found

pub returns-clause-within : goal.returns-clause-within
returns-clause-within g c =
    let seen = ap (leasts_in c.self.inside.levels) c.deref.ensures.value ∙ c.self.view_is in
    subst (λ (xs : List ℕ). IfSome c.first_from.result (λ block. block < length xs)) seen c.first_from.ensures.within

pub returns-clause-none : goal.returns-clause-none
returns-clause-none g c =
    let seen = ap (leasts_in c.self.inside.levels) c.deref.ensures.value ∙ c.self.view_is in
    subst (λ (xs : List ℕ). IfNone c.first_from.result ((block : ℕ) → c.args.from ≤ block → block < length xs → c.args.m < kept_at xs block)) seen c.first_from.ensures.none
