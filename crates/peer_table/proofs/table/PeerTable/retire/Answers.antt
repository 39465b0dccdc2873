use Rattle.std.specs.Prelude.{is_some}
use Rattle.std.proofs.Common.{◌≡◌, ◌<◌, ◌≤◌, Some, sym, ap, ◌∙◌, subst, inl, arith, rules}
use Rattle.std.specs.Ordering.{nat_cmp}
use Rattle.std.specs.BTreeMap.{btree_map_len, get}
use Rattle.pcp_base.specs.declared.leases.PeerLease.{PeerLease}
use Rattle.pcp_base.specs.declared.leases.TheConstants.{MOST_LEASES}
use Rattle.ordered_index.specs.Aged.{Aged, aged}
use Rattle.ordered_index.specs.MapSteps.{Inserts}
use Rattle.ordered_index.proofs.Endings.{one-none}
use Rattle.peer_table.specs.PeerLists.{first_dead_peer, LeavesPeer}
use Rattle.peer_table.proofs.Views.{found_is}
use Rattle.peer_table.proofs.Leaving.{retired, leaves}
use Rattle.peer_table.proofs.table.PeerTable.retire.Goals as goal

pub index-requires : goal.index-requires
index-requires g c = ap is_some c.in-Some.ensures.ended.1

pub invariant_of-self-2 : goal.invariant_of-self-2
invariant_of-self-2 g c =
    let it = c.self.inside.kept in let past = c.self.inside.past in let past' = c.insert.new.self in
    let at_n : get nat_cmp it.leases c.in-Some.number ≡ Some c.index.result.now = search rules in
    let room : btree_map_len past < MOST_LEASES = omega (arith, c.if-len-ge-MOST_LEASES.false, c.len.ensures.len) in
    let later : c.self.inside.gone ≤ c.max-self-inside.result = omega (arith, c.max-self-inside.ensures) in
    let reached : c.args.m ≤ c.max-self-inside.result = omega (arith, c.max-self-inside.ensures, c.get.ensures.value) in
    let inserts : Inserts nat_cmp past past' c.in-Some.number c.index.result.now = record { entries = c.in_ok-insert.ensures.entries; changed = c.in_ok-insert.ensures.updates.0; ordered = c.in_ok-insert.ensures.ordered } in
    retired it past c.self.inside.gone c.self.invariant c.forget.new.self past' c.args.m c.in-Some.number c.max-self-inside.result c.index.result.now c.key_of.result c.opening_of.result
    c.in-Some.ensures at_n c.key_of.ensures c.opening_of.ensures c.forget.ensures inserts room later reached

pub returns-clause-left : goal.returns-clause-left
returns-clause-left g c = λ is.
    let it = c.self.inside.kept in let past = c.self.inside.past in let past' = c.insert.new.self in
    let at_n : get nat_cmp it.leases c.in-Some.number ≡ Some c.index.result.now = search rules in
    let room : btree_map_len past < MOST_LEASES = omega (arith, c.if-len-ge-MOST_LEASES.false, c.len.ensures.len) in
    let later : c.self.inside.gone ≤ c.max-self-inside.result = omega (arith, c.max-self-inside.ensures) in
    let reached : c.args.m ≤ c.max-self-inside.result = omega (arith, c.max-self-inside.ensures, c.get.ensures.value) in
    let inserts : Inserts nat_cmp past past' c.in-Some.number c.index.result.now = record { entries = c.in_ok-insert.ensures.entries; changed = c.in_ok-insert.ensures.updates.0; ordered = c.in_ok-insert.ensures.ordered } in
    subst (λ (t : Aged PeerLease). LeavesPeer c.args.m t (aged c.forget.new.self.leases past')) c.self.view_is
    (leaves it past c.self.inside.gone c.self.invariant c.forget.new.self past' c.args.m c.in-Some.number c.max-self-inside.result c.index.result.now c.key_of.result c.opening_of.result
    c.in-Some.ensures at_n c.key_of.ensures c.opening_of.ensures c.forget.ensures inserts room later reached)

pub returns-in_default-clause-cause : goal.returns-in_default-clause-cause
returns-in_default-clause-cause g c = λ is.
    inl (ap (first_dead_peer c.args.m) (sym (found_is c.self.view_is))
    ∙ one-none (λ (l : PeerLease). l.expiry) c.self.inside.kept.leases c.self.invariant.kept.kept.ordered c.args.m c.in_default.ensures)
