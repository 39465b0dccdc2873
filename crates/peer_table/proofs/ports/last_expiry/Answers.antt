use Rattle.std.proofs.Common.{ℕ, None, length, refl, sym, ap, ◌∙◌, Option, arith}
use Rattle.std.specs.Ordering.{nat_cmp}
use Rattle.std.specs.BTreeMap.{get}
use Rattle.peer_table.specs.Kept.{Opening, expiry_in, later, last_of}
use Rattle.peer_table.proofs.ports.last_expiry.Goals as goal

pub loop-number-init : goal.loop-number-init
loop-number-init g c = (refl, omega arith)

pub loop-number-preserved : goal.loop-number-preserved
loop-number-preserved g c =
    let f : Opening × ℕ → Option ℕ = λ e. expiry_in (get nat_cmp c.args.kept.now.leases e.1) in
    let last = c.loop-number.invariant.0 in let steps = c.loop-number.invariant.1 in let one = c.expiry_at.ensures.steps in
    let turn = ap (λ xs. length xs) c.in-Some.ensures.steps in (
      ap (λ (a : Option ℕ). last_of f a c.next.new.self) (c.later-last.ensures ∙ ap (later c.loop-number.last) c.expiry_at.ensures.expiry)
          ∙ ap (last_of f c.loop-number.last) (sym c.in-Some.ensures.steps) ∙ last,
      grind (arith, one, turn, steps),
    )

pub returns-clause-last : goal.returns-clause-last
returns-clause-last g c =
    let f : Opening × ℕ → Option ℕ = λ e. expiry_in (get nat_cmp c.args.kept.now.leases e.1) in
    let whole = c.into_iter-number-iterator.ensures.into_iter_gives ∙ c.range-number-items.ensures.between tt in
    sym (ap (last_of f c.loop-number.last) c.in-None.ensures.steps.0) ∙ c.loop-number.invariant.0 ∙ ap (last_of f None) whole
