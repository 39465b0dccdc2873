use Rattle.std.specs.Map.{values_of}
use Rattle.std.proofs.Common.{◌≡◌, List, length, refl, sym, ap, ◌∙◌, arith}
use Rattle.std.specs.Option.{option_map}
use Rattle.pcp_base.specs.Owners.{owns}
use Rattle.step_count.specs.Levels.{levels}
use Rattle.pcp_base.specs.declared.leases.MapLease.{MapLease}
use Rattle.mapping_table.specs.Kept.{filters_at, whole}
use Rattle.mapping_table.specs.MapLists.{map_owning}
use Rattle.mapping_table.proofs.Wholes.{find_whole, levels_whole, expiry_whole}
use Rattle.mapping_table.proofs.Views.{found_is}
use Rattle.mapping_table.proofs.table.MapTable.owner_expiry.Goals as goal

pub returns-clause-expiry : goal.returns-clause-expiry
returns-clause-expiry g c =
    let kept = filters_at c.self.inside.filters in
    c.owner_expiry.ensures.expiry ∙ sym (expiry_whole kept (map_owning c.args.protocol c.args.port (values_of c.self.inside.leases.entries)))
    ∙ ap (option_map (λ (l : MapLease). l.expiry)) (sym (find_whole kept (owns c.args.protocol c.args.port) (λ fs l. refl) (values_of c.self.inside.leases.entries)) ∙ ap (map_owning c.args.protocol c.args.port) (found_is c.self.view_is))

pub returns-clause-steps : goal.returns-clause-steps
returns-clause-steps g c =
    let seen : levels (length c.args.self.now.found) ≡ levels (length (values_of c.self.inside.leases.entries)) =
    ap (λ (v : List MapLease). levels (length v)) (sym (found_is c.self.view_is)) ∙ levels_whole (filters_at c.self.inside.filters) (values_of c.self.inside.leases.entries) in
    let a = c.owner_expiry.ensures.steps in
    omega (arith, seen, a)
