use Rattle.std.proofs.Common.{◌≡◌, ℕ, ◌+◌, ◌^◌, ◌<◌, List, length, Option, None, Some, IfSome, IfNone, ap, subst, ◌∙◌, arith}
use Rattle.expiry_wheel.specs.declared.leasts.DueBlock.{DueBlock}
use Rattle.expiry_wheel.specs.Moments.{kept_at, IsNextIn}
use Rattle.expiry_wheel.specs.Blocks.{leasts_in, AreNodes}
use Rattle.expiry_wheel.proofs.LeastLists.{levels_told}
use Rattle.expiry_wheel.proofs.leasts.Leasts.next.Goals as goal

-- as many steps as levels, and one
way_told : (n : ℕ) (nodes : List ℕ) (are : AreNodes n nodes) (found : Option DueBlock) (before after : ℕ) → IfSome found (λ _. after ≡ before + 1 + n) → IfSome found (λ _. (k : ℕ) → length (leasts_in n nodes) ≡ 2 ^ k → after ≡ before + 1 + k)
way_told n nodes are None before after way = tt
way_told n nodes are (Some due) before after way = λ k all. way ∙ ap (λ (x : ℕ). before + 1 + x) (levels_told n nodes are k all)

pub returns-clause-next : goal.returns-clause-next
returns-clause-next g c =
    let seen = ap (leasts_in c.self.inside.levels) c.deref.ensures.value ∙ c.self.view_is in
    subst (λ (xs : List ℕ). IfSome c.next.result (λ (due : DueBlock). IsNextIn xs c.args.m due.block)) seen c.next.ensures.next

pub returns-clause-least : goal.returns-clause-least
returns-clause-least g c =
    let seen = ap (leasts_in c.self.inside.levels) c.deref.ensures.value ∙ c.self.view_is in
    subst (λ (xs : List ℕ). IfSome c.next.result (λ (due : DueBlock). due.least ≡ kept_at xs due.block)) seen c.next.ensures.least

pub returns-clause-within : goal.returns-clause-within
returns-clause-within g c =
    let seen = ap (leasts_in c.self.inside.levels) c.deref.ensures.value ∙ c.self.view_is in
    subst (λ (xs : List ℕ). IfSome c.next.result (λ (due : DueBlock). due.block < length xs)) seen c.next.ensures.within

pub returns-clause-none : goal.returns-clause-none
returns-clause-none g c =
    let seen = ap (leasts_in c.self.inside.levels) c.deref.ensures.value ∙ c.self.view_is in
    subst (λ (xs : List ℕ). IfNone c.next.result ((block : ℕ) → block < length xs → c.args.m < kept_at xs block)) seen c.next.ensures.none

pub returns-clause-way : goal.returns-clause-way
returns-clause-way g c =
    subst (λ (xs : List ℕ). IfSome c.next.result (λ _. (k : ℕ) → length xs ≡ 2 ^ k → c.next.new.steps ≡ c.args.steps.now + 1 + k)) c.self.view_is
    (way_told c.self.inside.levels c.self.inside.nodes.items c.self.invariant c.next.result c.args.steps.now c.next.new.steps c.next.ensures.way)

pub returns-clause-steps : goal.returns-clause-steps
returns-clause-steps g c = omega (arith, c.next.ensures.cost, c.self.invariant.few)
