use Rattle.std.proofs.Common.{◌≡◌, ℕ, ◌+◌, sym, ap, ◌∙◌, arith}
use Rattle.external_pool.specs.PortUses.{is_in_range, is_free_to}
use Rattle.leased_ports.specs.Kept.{end_by, use_by}
use Rattle.leased_ports.proofs.BackLemmas.{open-out, open-in}
use Rattle.leased_ports.proofs.picks.is_open.Goals as goal

pub returns-then-not-is_in_range : goal.returns-then-not-is_in_range
returns-then-not-is_in_range c =
    let e = c.args.endpoint.now in
    let port : c.from.result + c.from-2.result ≡ c.args.start + c.args.i = omega (arith, c.from.ensures, c.from-2.ensures) in
    open-out c.args.low c.args.high c.args.m c.args.ends.now e.protocol e.address (e.port + c.args.i) (c.args.start + c.args.i)
    (sym (ap (is_in_range c.args.low c.args.high) port) ∙ sym c.is_in_range.ensures ∙ c.if-not-is_in_range.true)

pub returns : goal.returns
returns c =
    let e = c.args.endpoint.now in
    let port : c.from.result + c.from-2.result ≡ c.args.start + c.args.i = omega (arith, c.from.ensures, c.from-2.ensures) in
    let internal : c.from-3.result + c.from-4.result ≡ e.port + c.args.i = omega (arith, c.from-3.ensures, c.from-4.ensures) in
    c.is_free_to.ensures
    ∙ ap (λ (n : ℕ). is_free_to e.address n (use_by c.args.m (end_by c.args.ends.now e.protocol (c.from.result + c.from-2.result)))) internal
    ∙ ap (λ (n : ℕ). is_free_to e.address (e.port + c.args.i) (use_by c.args.m (end_by c.args.ends.now e.protocol n))) port
    ∙ open-in c.args.low c.args.high c.args.m c.args.ends.now e.protocol e.address (e.port + c.args.i) (c.args.start + c.args.i)
    (sym (ap (is_in_range c.args.low c.args.high) port) ∙ sym c.is_in_range.ensures ∙ c.if-not-is_in_range.false)
