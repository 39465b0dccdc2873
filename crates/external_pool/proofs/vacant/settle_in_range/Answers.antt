use Rattle.std.proofs.Common.{◌≡◌, ◌+◌, ◌-◌, ◌<◌, ◌≤◌, min, arith, sym, ap, ◌∙◌, cond, not, Bool, ℕ}
use Rattle.port_runs.specs.Ports.{is_in_run, is_taken}
use Rattle.external_pool.proofs.KeptLemmas.{clipped, apart}
use Rattle.external_pool.proofs.vacant.settle_in_range.Goals as goal

pub returns-then-from-to-clause-taken : goal.returns-then-from-to-clause-taken
returns-then-from-to-clause-taken c port =
    let from = c.max-from.result in
    let to = c.min-to.result in
    let to_is : to ≡ min (c.args.start + c.args.n) (c.args.high + 1) = omega (arith, c.min-to.ensures, c.from.ensures, c.from-2.ensures) in
    let some : from < to = omega (arith, c.if-from-to.true, c.from-3.ensures) in
    c.settle.ensures.taken port
    ∙ ap (λ (f : ℕ). cond (is_in_run from (to - f) port) (not c.args.vacant) (is_taken c.args.runs.now port)) c.from-then-from-to.ensures
    ∙ ap (λ (b : Bool). cond b (not c.args.vacant) (is_taken c.args.runs.now port)) (clipped c.args.low c.args.high c.args.start c.args.n from to port c.max-from.ensures to_is some)

pub returns-else-from-to-clause-taken : goal.returns-else-from-to-clause-taken
returns-else-from-to-clause-taken c port =
    let from = c.max-from.result in
    let to = c.min-to.result in
    let to_is : to ≡ min (c.args.start + c.args.n) (c.args.high + 1) = omega (arith, c.min-to.ensures, c.from.ensures, c.from-2.ensures) in
    let none : to ≤ from = omega (arith, c.if-from-to.false, c.from-3.ensures) in
    sym (ap (λ (b : Bool). cond b (not c.args.vacant) (is_taken c.args.runs.now port)) (apart c.args.low c.args.high c.args.start c.args.n from to port c.max-from.ensures to_is none))
