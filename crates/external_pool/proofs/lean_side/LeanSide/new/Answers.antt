use Rattle.std.proofs.Common.{length, ap, ◌∙◌}
use Rattle.external_pool.proofs.Counted.{length-all_free}
use Rattle.external_pool.proofs.KeptLemmas.{kept_new}
use Rattle.external_pool.proofs.lean_side.LeanSide.new.Goals as goal

pub invariant_of-result : goal.invariant_of-result
invariant_of-result c =
    let none = c.in_ok-none_noted.ensures in
    kept_new c.args.low c.args.high 65536 c.in_ok-new.field-0 c.in_ok-none_noted.field-0 (ap length none ∙ length-all_free 65536) c.in_ok-new.ensures none
