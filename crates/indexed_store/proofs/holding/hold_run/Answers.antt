use Rattle.std.proofs.Common.{◌≡◌, ℕ, ◌+◌, ◌<◌, ◌≤◌, false, refl, sym, subst, arith}
use Rattle.indexed_store.specs.declared.owning.OwnerRun.{OwnerRun}
use Rattle.indexed_store.specs.Looks.{is_parted, piece_steps}
use Rattle.indexed_store.specs.Runs.{up_to}
use Rattle.indexed_store.specs.Holding.{Holds, held_by_map}
use Rattle.indexed_store.proofs.HoldSteps.{paid-more, paid-none, paid-refused, paid-whole}
use Rattle.indexed_store.proofs.HoldingLemmas.{even-behind, holds-more, holds-none, holds-whole}
use Rattle.indexed_store.proofs.holding.hold_run.Goals as goal

pub hold_piece-requires-clause-from : goal.hold_piece-requires-clause-from
hold_piece-requires-clause-from g c =
    let run = c.args.run.now in
    subst (λ (r : OwnerRun). (i : ℕ) → i < r.count → c.held_by_map-from.result ≡ held_by_map c.args.m c.args.leases.now.found.maps r.first.protocol (r.first.external + i)) (sym c.behind-rest.ensures.value)
    (even-behind c.args.m c.held_by_map-from.result c.args.leases.now.found.maps run c.loop-done.done c.held_by_map-from.ensures.value c.requires.run.even c.loop-done-test.true)

pub loop-done-init : goal.loop-done-init
loop-done-init g c = (
  omega arith,
  λ terms h. h,
  c.requires.reached,
  holds-none c.args.unowned c.args.m c.args.leases.now.found c.args.run.now c.args.ports.now,
  λ rests. paid-none (is_parted c.args.leases.now.found.peers c.args.run.now) c.args.ports.now c.args.run.now c.held_by_map-from.new.steps,
)

pub loop-done-preserved : goal.loop-done-preserved
loop-done-preserved g c =
    let run = c.args.run.now in let n = c.in_ok-count.count in let peers = c.args.leases.now.found.peers in
    let few = subst (λ (r : OwnerRun). n ≤ r.count) c.behind-rest.ensures.value c.in_ok-count.ensures.count.1 in
    let less = c.loop-done-test.true in (
      omega (arith, few, less),
      λ terms h. c.hold_piece.ensures.terms terms (c.loop-done.invariant.1 terms h),
      c.in_ok-count.ensures.reached,
      holds-more c.args.unowned c.args.m c.args.leases.now.found run c.loop-done.done n c.args.ports.now c.loop-done.ports c.hold_piece.new.ports c.loop-done.invariant.3
          (subst (λ (r : OwnerRun). Holds c.args.unowned c.args.m c.args.leases.now.found (up_to n r) c.loop-done.ports c.hold_piece.new.ports) c.behind-rest.ensures.value c.in_ok-count.ensures.ports),
      λ rests. paid-more peers c.args.ports.now c.loop-done.ports run c.loop-done.done c.held_by_map-from.new.steps c.loop-done.steps less c.hold_piece.new.steps
          (subst (λ (r : OwnerRun). c.hold_piece.new.steps ≤ c.loop-done.steps + piece_steps c.loop-done.ports peers r) c.behind-rest.ensures.value (c.hold_piece.ensures.steps rests))
          (is_parted peers run) refl (c.loop-done.invariant.4 rests) n c.hold_piece.new.ports
          (subst (λ (r : OwnerRun). is_parted peers r ≡ false → n ≡ r.count) c.behind-rest.ensures.value c.in_ok-count.ensures.whole) (c.in_ok-count.ensures.each rests),
    )

pub returns-in_err-count-clause-terms : goal.returns-in_err-count-clause-terms
returns-in_err-count-clause-terms g c = λ terms h. c.hold_piece.ensures.terms terms (c.loop-done.invariant.1 terms h)

pub returns-in_err-count-clause-steps : goal.returns-in_err-count-clause-steps
returns-in_err-count-clause-steps g c = λ rests.
    let run = c.args.run.now in let peers = c.args.leases.now.found.peers in
    let within = paid-refused peers c.args.ports.now c.loop-done.ports run c.loop-done.done c.held_by_map-from.new.steps c.loop-done.steps c.loop-done-test.true c.hold_piece.new.steps
    (subst (λ (r : OwnerRun). c.hold_piece.new.steps ≤ c.loop-done.steps + piece_steps c.loop-done.ports peers r) c.behind-rest.ensures.value (c.hold_piece.ensures.steps rests))
    (c.loop-done.invariant.4 rests) in
    let from = c.held_by_map-from.ensures.steps in
    omega (arith, from, within)

pub returns-clause-ports : goal.returns-clause-ports
returns-clause-ports g c =
    let most = c.loop-done.invariant.0 in let least = c.loop-done-test.false in
    holds-whole c.args.unowned c.args.m c.args.leases.now.found c.args.run.now c.loop-done.done c.args.ports.now c.loop-done.ports (omega (arith, most, least)) c.loop-done.invariant.3

pub returns-clause-steps : goal.returns-clause-steps
returns-clause-steps g c = λ rests.
    let most = c.loop-done.invariant.0 in let least = c.loop-done-test.false in let some = c.requires.run.formed.some in
    let within = paid-whole c.args.leases.now.found.peers c.args.ports.now c.loop-done.ports c.args.run.now c.loop-done.done c.held_by_map-from.new.steps c.loop-done.steps
    (omega (arith, most, least)) some (c.loop-done.invariant.4 rests) in
    let from = c.held_by_map-from.ensures.steps in
    omega (arith, from, within)
