use Rattle.std.proofs.Common.{◌≡◌, None, Some, sym, ap, ◌∙◌}
use Rattle.pcp_base.specs.declared.leases.MapLease.{MapLease}
use Rattle.ordered_index.proofs.Endings.{one-none, one-stands}
use Rattle.ordered_index.proofs.EntryLaws.{some_one}
use Rattle.std.specs.Ordering.{nat_cmp}
use Rattle.std.specs.BTreeMap.{get}
use Rattle.mapping_table.specs.MapLists.{first_dead_map, is_live_map}
use Rattle.mapping_table.proofs.Views.{values_is, number_is}
use Rattle.mapping_table.proofs.bare_table.BareTable.ended_entry.Goals as goal

pub returns-in_default-clause-none : goal.returns-in_default-clause-none
returns-in_default-clause-none g c =
    ap (first_dead_map c.args.m) (sym (values_is c.self.view_is)) ∙ one-none (λ (l : MapLease). l.expiry) c.self.inside.kept.leases c.self.invariant.counted.kept.kept.ordered c.args.m c.in_default.ensures

pub returns-in_default-copied-clause-none : goal.returns-in_default-copied-clause-none
returns-in_default-copied-clause-none g c =
    let t = c.self.inside.kept in
    let y = one-stands (λ (l : MapLease). l.expiry) t.leases c.self.invariant.counted.kept.kept.ordered c.args.m c.in-Some.number c.in-Some.ensures in
    absurd (let none : None ≡ Some y.0 = c.in_default-copied.ensures ∙ c.lease_at.ensures.lease ∙ y.1 in cc)

pub returns-clause-dead : goal.returns-clause-dead
returns-clause-dead g c =
    let t = c.self.inside.kept in let x = c.in-Some-copied.lease in
    let y = one-stands (λ (l : MapLease). l.expiry) t.leases c.self.invariant.counted.kept.kept.ordered c.args.m c.in-Some.number c.in-Some.ensures in
    ap (is_live_map c.args.m) (some_one (get nat_cmp t.leases c.in-Some.number) x y.0 (sym (c.in-Some-copied.ensures ∙ c.lease_at.ensures.lease)) y.1) ∙ y.2
