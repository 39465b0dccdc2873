use Rattle.std.proofs.Common.{refl, ap, ◌∙◌}
use Rattle.pcp_base.specs.Tables.{Table}
use Rattle.mapping_table.specs.MapLists.{map_covering, some_live_map}
use Rattle.indexed_store.proofs.Uniques.{covered-is}
use Rattle.indexed_store.proofs.Views.{found_is}
use Rattle.indexed_store.proofs.leases.Leases.is_covered_from.Goals as goal

pub returns : goal.returns
returns g c =
    let e = c.args.endpoint.now in let m = c.args.m in
    c.covers.ensures.covers ∙ ap (λ (t : Table). some_live_map m (map_covering e t.maps)) (found_is c.self.view_is)
    ∙ covered-is c.args.self.now.found m e c.requires.tabled (map_covering e c.args.self.now.found.maps) refl
