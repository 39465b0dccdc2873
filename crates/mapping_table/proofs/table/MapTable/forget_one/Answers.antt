use Rattle.std.proofs.Common.{ℕ, List, sym, ap, ◌∙◌}
use Rattle.std.specs.Map.{values_of}
use Rattle.pcp_base.specs.declared.leases.MapLease.{MapLease}
use Rattle.mapping_table.proofs.Views.{past_is}
use Rattle.mapping_table.proofs.table.MapTable.forget_one.Goals as goal

pub returns-clause-forgot : goal.returns-clause-forgot
returns-clause-forgot g c =
    (c.in-Some.field-0.1, sym (past_is c.self.view_is) ∙ ap (λ (es : List (ℕ × MapLease)). values_of es) c.in-Some.ensures.removal)
