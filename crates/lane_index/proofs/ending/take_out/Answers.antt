use Rattle.std.proofs.Common.{◌≡◌, ℕ, ◌-◌, ◌∙◌, suc, sym, subst, arith}
use Rattle.lane_index.specs.declared.links.TheConstants.{PORT_SLOTS}
use Rattle.lane_index.specs.Chains.{IsTold}
use Rattle.lane_index.specs.Slots.{stands_in}
use Rattle.lane_index.proofs.ChainLemmas.{sought-first, sought-next, taken-out, told-inside, told-newer, next-less}
use Rattle.lane_index.proofs.ending.take_out.Goals as goal

pub loop-at-init : goal.loop-at-init
loop-at-init c =
    let i : ℕ = c.args.number - 1 in
    let first = sought-first c.args.cells.now c.args.peers.now c.requires.standing c.args.slot c.requires.inside i c.requires.there in
    let reached = first.0 in
    rw c.last-at.ensures (omega (arith, reached, c.requires.some), first.1)

pub before-at-requires-clause-inside : goal.before-at-requires-clause-inside
before-at-requires-clause-inside c =
    let inside = told-inside PORT_SLOTS stands_in c.args.cells.now c.args.peers.now c.requires.standing c.args.slot c.loop-at.newer c.loop-at.at c.loop-at.invariant.1 in
    omega (arith, inside, c.requires.standing.long)

pub loop-at-smaller : goal.loop-at-smaller
loop-at-smaller c =
    let at : ℕ = c.loop-at.at - 1 in
    let le = c.loop-at.invariant.0 in
    let is : c.loop-at.at ≡ suc at = omega (arith, le, c.requires.some) in
    let less = next-less PORT_SLOTS stands_in c.args.cells.now c.args.peers.now c.requires.standing c.args.slot c.loop-at.newer at
    (subst (λ (n : ℕ). IsTold (stands_in c.args.slot) c.args.slot c.args.cells.now c.args.peers.now c.loop-at.newer n) is c.loop-at.invariant.1) in
    omega (arith, less, is, c.before-at.ensures)

pub loop-at-preserved : goal.loop-at-preserved
loop-at-preserved c =
    let i : ℕ = c.args.number - 1 in let at : ℕ = c.loop-at.at - 1 in
    let le = c.loop-at.invariant.0 in
    let is : c.loop-at.at ≡ suc at = omega (arith, le, c.requires.some) in
    let number : c.args.number ≡ suc i = omega (arith, c.requires.some) in
    let next = sought-next c.args.cells.now c.args.peers.now c.requires.standing c.args.slot c.requires.inside i c.requires.there c.loop-at.newer at
    (omega (arith, le, is, number)) (λ same. c.loop-at-test.true (is ∙ (same ∙ sym number)))
    (subst (λ (n : ℕ). IsTold (stands_in c.args.slot) c.args.slot c.args.cells.now c.args.peers.now c.loop-at.newer n) is c.loop-at.invariant.1) in
    let reached = next.0 in (
      omega (arith, reached, number, c.before-at.ensures),
      subst (λ (n : ℕ). IsTold (stands_in c.args.slot) c.args.slot c.args.cells.now c.args.peers.now n c.before-at.result) (sym is)
          (subst (λ (n : ℕ). IsTold (stands_in c.args.slot) c.args.slot c.args.cells.now c.args.peers.now (suc at) n) (sym c.before-at.ensures) next.1),
    )

pub before-older-requires-clause-inside : goal.before-older-requires-clause-inside
before-older-requires-clause-inside c =
    let inside = told-inside PORT_SLOTS stands_in c.args.cells.now c.args.peers.now c.requires.standing c.args.slot c.loop-at.newer c.loop-at.at c.loop-at.invariant.1 in
    omega (arith, inside, c.requires.standing.long, c.loop-at-test.false)

pub relink-requires-clause-newer : goal.relink-requires-clause-newer
relink-requires-clause-newer c =
    let newer = told-newer PORT_SLOTS stands_in c.args.cells.now c.args.peers.now c.requires.standing c.args.slot c.loop-at.newer c.loop-at.at c.loop-at.invariant.1 in
    omega (arith, newer, c.requires.standing.long)

pub returns : goal.returns
returns c = λ y out.
    let i : ℕ = c.args.number - 1 in
    let is : c.loop-at.at ≡ suc i = omega (arith, c.loop-at-test.false, c.requires.some) in
    let told = subst (λ (n : ℕ). IsTold (stands_in c.args.slot) c.args.slot c.args.cells.now c.args.peers.now c.loop-at.newer n) is c.loop-at.invariant.1 in
    rw (c.relink.ensures, c.before-older.ensures) (taken-out c.args.cells.now c.args.peers.now c.requires.standing c.args.slot c.requires.inside i c.requires.there c.loop-at.newer told y out)
