use Rattle.std.proofs.Common.{Contains, Option, List, sym, ap, ◌∙◌, subst}
use Rattle.std.specs.Map.{values_of}
use Rattle.pcp_base.specs.declared.leases.MapLease.{MapLease}
use Rattle.mapping_table.specs.MapLists.{first_dead_map, IsDeadMap}
use Rattle.ordered_index.proofs.Endings.{one-none, one-stands, one-among}
use Rattle.mapping_table.proofs.Views.{values_is}
use Rattle.mapping_table.proofs.bare_table.BareTable.one_ended.Goals as goal

pub returns-in_default-clause-ended : goal.returns-in_default-clause-ended
returns-in_default-clause-ended g c = record {
  among = tt;
  dead = tt;
  none = ap (first_dead_map c.args.m) (sym (values_is c.self.view_is)) ∙ one-none (λ (l : MapLease). l.expiry) c.self.inside.kept.leases c.self.invariant.counted.kept.kept.ordered c.args.m c.in_default.ensures;
}

pub returns-clause-ended : goal.returns-clause-ended
returns-clause-ended g c =
    let t = c.self.inside.kept in
    let y = one-stands (λ (l : MapLease). l.expiry) t.leases c.self.invariant.counted.kept.kept.ordered c.args.m c.in-Some.number c.in-Some.ensures in
    subst (λ (o : Option MapLease). IsDeadMap c.args.m (values_of c.args.self.now.entries) o) (sym (c.lease_at.ensures.lease ∙ y.1)) (record {
      among = subst (λ (ls : List MapLease). Contains ls y.0) (values_is c.self.view_is) (one-among t.leases c.in-Some.number y.0 y.1);
      dead = y.2;
      none = tt;
    })
