use Rattle.std.proofs.Common.{refl, find, sym, ap, ◌∙◌, ℕ, arith}
use Rattle.std.specs.Ordering.{nat_cmp}
use Rattle.std.specs.BTreeMap.{get}
use Rattle.peer_table.specs.PeerLists.{is_ended_peer}
use Rattle.peer_table.specs.Kept.{PeerKey, some_that}
use Rattle.peer_table.proofs.PortUses.{found_here, found_nowhere}
use Rattle.peer_table.proofs.endpoints.first_ended.Goals as goal

pub loop-number-init : goal.loop-number-init
loop-number-init g c = (refl, omega arith)

pub returns-then-is_ended_at-clause-first : goal.returns-then-is_ended_at-clause-first
returns-then-is_ended_at-clause-first g c =
    let test = λ (e : PeerKey × ℕ). some_that (is_ended_peer c.args.m) (get nat_cmp c.args.kept.now.leases e.1) in
    let whole = c.into_iter-number-iterator.ensures.into_iter_gives ∙ c.range-number-items.ensures.between tt in
    found_here test c.in-Some.field-0-0.now c.in-Some.number.now c.next.new.self c.loop-number.number-iterator _
    (sym c.is_ended_at.ensures.ended ∙ c.if-is_ended_at.true) c.in-Some.ensures.steps (c.loop-number.invariant.0 ∙ ap (find test) whole)

pub returns-clause-first : goal.returns-clause-first
returns-clause-first g c =
    let test = λ (e : PeerKey × ℕ). some_that (is_ended_peer c.args.m) (get nat_cmp c.args.kept.now.leases e.1) in
    let whole = c.into_iter-number-iterator.ensures.into_iter_gives ∙ c.range-number-items.ensures.between tt in
    found_nowhere test c.loop-number.number-iterator _ c.in-None.ensures.steps.0 (c.loop-number.invariant.0 ∙ ap (find test) whole)
