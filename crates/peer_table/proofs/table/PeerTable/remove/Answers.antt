use Rattle.std.proofs.Common.{List, Some, None, sym, ◌∙◌, subst}
use Rattle.std.specs.BTreeMap.{values}
use Rattle.pcp_base.specs.declared.leases.PeerLease.{PeerLease}
use Rattle.peer_table.specs.PeerLists.{RemovesPeer}
use Rattle.peer_table.proofs.PeerKeeping.{key_stands, none_removed, peer_removed}
use Rattle.peer_table.proofs.Leaving.{aged_removed}
use Rattle.peer_table.proofs.Views.{found_is}
use Rattle.peer_table.proofs.table.PeerTable.remove.Goals as goal

pub returns-in_default-clause-removed : goal.returns-in_default-clause-removed
returns-in_default-clause-removed g c = subst (λ (v : List PeerLease). RemovesPeer v c.args.endpoint.now c.args.remote.now c.args.port None v) (found_is c.self.view_is)
    (none_removed c.self.inside.kept c.self.invariant.kept c.args.endpoint.now c.args.remote.now c.args.port c.key_at-key.result c.key_at-key.ensures (sym c.in_default.ensures.number))

pub returns-in_default-copied-clause-removed : goal.returns-in_default-copied-clause-removed
returns-in_default-copied-clause-removed g c =
    absurd (key_stands c.self.inside.kept c.self.invariant.kept c.key_at-key.result c.in-Some.number (sym c.in-Some.ensures.number) (c.in_default-copied.ensures ∙ c.lease_at.ensures.lease))

pub invariant_of-self : goal.invariant_of-self
invariant_of-self g c =
    aged_removed c.self.inside.kept c.self.inside.past c.self.inside.gone c.self.invariant c.forget.new.self c.in-Some.number c.key_at-key.result c.opening_of.result
    (peer_removed c.self.inside.kept c.self.invariant.kept c.args.endpoint.now c.args.remote.now c.args.port c.key_at-key.result c.key_at-key.ensures c.forget.new.self c.opening_of.result c.in-Some.number c.in-Some-copied.lease
    c.opening_of.ensures (sym c.in-Some.ensures.number) (sym (c.in-Some-copied.ensures ∙ c.lease_at.ensures.lease)) c.forget.ensures).0 c.forget.ensures

pub returns-clause-removed : goal.returns-clause-removed
returns-clause-removed g c =
    let removed = (peer_removed c.self.inside.kept c.self.invariant.kept c.args.endpoint.now c.args.remote.now c.args.port c.key_at-key.result c.key_at-key.ensures c.forget.new.self c.opening_of.result c.in-Some.number c.in-Some-copied.lease
    c.opening_of.ensures (sym c.in-Some.ensures.number) (sym (c.in-Some-copied.ensures ∙ c.lease_at.ensures.lease)) c.forget.ensures).1 in
    subst (λ (v : List PeerLease). RemovesPeer v c.args.endpoint.now c.args.remote.now c.args.port (Some c.in-Some-copied.lease) (values c.forget.new.self.leases)) (found_is c.self.view_is) removed
