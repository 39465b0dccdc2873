use Rattle.std.proofs.Common.{◌≡◌, length, ap, ◌∙◌, List, ℕ}
use Rattle.external_pool.specs.PortUses.{PortUses, all_free, uses_over}
use Rattle.external_pool.specs.declared.uses.Use.{Use}
use Rattle.external_pool.proofs.Painted.{with_run-all}
use Rattle.external_pool.proofs.lean_side.LeanSide.clear.Goals as goal

pub returns : goal.returns
returns c =
    let seen = ap (λ (u : PortUses). u.each) c.self.view_is in
    let count : c.len-count.result ≡ length c.args.self.now.each = c.len-count.ensures ∙ ap length seen in
    let all : c.len-count.result ≡ 65536 = c.len-count.ensures ∙ c.self.invariant.all in
    c.mark.ensures
    ∙ ap (λ (each : List Use). uses_over c.args.self.now.low c.args.self.now.high each) (with_run-all c.args.self.now.each c.len-count.result count)
    ∙ ap (λ (n : ℕ). uses_over c.args.self.now.low c.args.self.now.high (all_free n)) all
