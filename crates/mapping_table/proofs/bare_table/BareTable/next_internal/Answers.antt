use Rattle.std.proofs.Common.{◌≡◌, ◌+◌, List, Some, None, filter, refl, sym, ap, ◌∙◌, subst, arith}
use Rattle.std.specs.Map.{values_of}
use Rattle.std.specs.BTreeMap.{values}
use Rattle.pcp_base.specs.declared.leases.MapLease.{MapLease}
use Rattle.mapping_table.specs.MapLists.{map_covering, is_live_map, some_live_map, IsNextCovered}
use Rattle.mapping_table.specs.Kept.{BeginsFirst}
use Rattle.mapping_table.proofs.Nexts.{with_port, free-by, next-found, next-begins}
use Rattle.mapping_table.proofs.Views.{values_is}
use Rattle.mapping_table.proofs.bare_table.BareTable.next_internal.Goals as goal

pub returns-then-covers-clause-next : goal.returns-then-covers-clause-next
returns-then-covers-clause-next g c =
    let other = c.if-next-end.false in let value = c.from-next.ensures in let below = c.requires.below in
    next-found c.args.m (values_of c.args.self.now.entries) c.args.endpoint.now c.args.end (omega (arith, other, value, below)) _ refl (sym c.covers.ensures.covers ∙ c.if-covers.true)

pub returns-in_default-clause-next : goal.returns-in_default-clause-next
returns-in_default-clause-next g c =
    let e = c.args.endpoint.now in let m = c.args.m in let t = c.self.inside.kept in let kept = c.self.invariant.counted.kept in
    let free = free-by t kept m (with_port e (e.port + 1)) _ refl (ap (λ (v : List MapLease). some_live_map m (map_covering (with_port e (e.port + 1)) v)) (values_is c.self.view_is) ∙ sym c.covers.ensures.covers ∙ c.if-covers.false) in
    let next : c.from-next.result + 1 ≡ e.port + 1 = ap (λ n. n + 1) c.from-next.ensures in
    subst (λ (v : List MapLease). IsNextCovered e c.args.end (filter (is_live_map m) v) None) (values_is c.self.view_is)
    (next-begins m (values t.leases) e c.args.end kept.sound free None (subst (λ n. BeginsFirst (is_live_map m) e n c.args.end (values t.leases) None) next c.in_default.ensures.first))

pub returns-clause-next : goal.returns-clause-next
returns-clause-next g c =
    let e = c.args.endpoint.now in let m = c.args.m in let t = c.self.inside.kept in let kept = c.self.invariant.counted.kept in
    let free = free-by t kept m (with_port e (e.port + 1)) _ refl (ap (λ (v : List MapLease). some_live_map m (map_covering (with_port e (e.port + 1)) v)) (values_is c.self.view_is) ∙ sym c.covers.ensures.covers ∙ c.if-covers.false) in
    let next : c.from-next.result + 1 ≡ e.port + 1 = ap (λ n. n + 1) c.from-next.ensures in
    subst (λ n. IsNextCovered e c.args.end (filter (is_live_map m) (values_of c.args.self.now.entries)) (Some n)) (sym c.internal.ensures)
    (subst (λ (v : List MapLease). IsNextCovered e c.args.end (filter (is_live_map m) v) (Some c.in-Some.lease.now.internal)) (values_is c.self.view_is)
    (next-begins m (values t.leases) e c.args.end kept.sound free (Some c.in-Some.lease.now) (subst (λ n. BeginsFirst (is_live_map m) e n c.args.end (values t.leases) (Some c.in-Some.lease.now)) next c.in-Some.ensures.first)))
