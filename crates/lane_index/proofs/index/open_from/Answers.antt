use Rattle.std.proofs.Common.{◌≡◌, ℕ, ◌-◌, ◌<◌, suc, subst, arith}
use Rattle.lane_index.specs.declared.links.TheConstants.{PORT_SLOTS}
use Rattle.lane_index.specs.Ports.{slot_at}
use Rattle.lane_index.specs.Openings.{IsClosedTo}
use Rattle.lane_index.proofs.WalkLemmas.{IsSought, sought-first, sought-inside, sought-less, sought-next, sought-none}
use Rattle.lane_index.proofs.index.open_from.Goals as goal

pub open_at-requires : goal.open_at-requires
open_at-requires c = sought-inside c.args.m c.args.sender.now (slot_at c.args.sender.now.protocol c.args.sender.now.port) c.args.cells.now c.loop-at.at c.loop-at.invariant

pub before-at-requires-clause-inside : goal.before-at-requires-clause-inside
before-at-requires-clause-inside c =
    let inside = sought-inside c.args.m c.args.sender.now (slot_at c.args.sender.now.protocol c.args.sender.now.port) c.args.cells.now c.loop-at.at c.loop-at.invariant in
    omega (arith, inside, c.requires.long)

pub loop-at-smaller : goal.loop-at-smaller
loop-at-smaller c =
    let s = c.args.sender.now in let slot = slot_at s.protocol s.port in
    let place : ℕ = c.loop-at.at - 1 in
    let at-is : c.loop-at.at ≡ suc place = omega (arith, c.loop-at-test.true) in
    let less = sought-less c.args.m s slot c.args.cells.now c.args.peers.now c.requires place (subst (λ (n : ℕ). IsSought c.args.m s slot c.args.cells.now n) at-is c.loop-at.invariant) in
    omega (arith, less, at-is, c.before-at.ensures)

pub loop-at-preserved : goal.loop-at-preserved
loop-at-preserved c =
    let s = c.args.sender.now in let slot = slot_at s.protocol s.port in
    let place : ℕ = c.loop-at.at - 1 in
    let at-is : c.loop-at.at ≡ suc place = omega (arith, c.loop-at-test.true) in
    rw c.before-at.ensures (sought-next c.args.m s slot c.args.cells.now c.args.peers.now c.requires place (subst (λ (n : ℕ). IsSought c.args.m s slot c.args.cells.now n) at-is c.loop-at.invariant)
    (subst (λ (n : ℕ). IsClosedTo c.args.m s n c.args.cells.now) at-is c.in_default.ensures.none))

pub returns-clause-none : goal.returns-clause-none
returns-clause-none c =
    let s = c.args.sender.now in let slot = slot_at s.protocol s.port in
    let at-is : c.loop-at.at ≡ 0 = omega (arith, c.loop-at-test.false) in
    sought-none c.args.m s slot c.args.cells.now (subst (λ (n : ℕ). IsSought c.args.m s slot c.args.cells.now n) at-is c.loop-at.invariant)

pub loop-at-init : goal.loop-at-init
loop-at-init c =
    let s = c.args.sender.now in let slot = slot_at s.protocol s.port in
    let inside : slot < PORT_SLOTS = rw (← c.slot_of.ensures.slot) c.slot_of.ensures.inside in
    rw (c.last-at.ensures, c.slot_of.ensures.slot) (sought-first c.args.m s slot c.args.cells.now _ (c.requires.ends slot inside))
