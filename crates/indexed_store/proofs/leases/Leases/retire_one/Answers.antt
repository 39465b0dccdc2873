use Rattle.std.proofs.Common.{◌<◌, Ok, sym, ap, subst}
use Rattle.pcp_base.specs.declared.leases.MapLease.{MapLease}
use Rattle.ordered_index.specs.Aged.{Aged}
use Rattle.indexed_store.specs.Tabled.{Retires, count_of, tables}
use Rattle.indexed_store.proofs.RetireLemmas.{map-fewer, map-retires, peer-fewer, peer-told}
use Rattle.indexed_store.proofs.leases.Leases.retire_one.Goals as goal

pub returns-then-branch-clause-retires : goal.returns-then-branch-clause-retires
returns-then-branch-clause-retires g c =
    map-retires c.self.inside.maps c.self.inside.peers c.args.self.now c.self.view_is c.requires c.args.m c.fewer_maps_are_sound.ensures c.retire.new.self
    (c.in_ok-retire.ensures.left (ap Ok c.if-branch.true))

pub returns-then-branch-clause-fewer : goal.returns-then-branch-clause-fewer
returns-then-branch-clause-fewer g c = λ is.
    map-fewer c.self.inside.maps c.self.inside.peers c.args.self.now c.self.view_is c.requires c.args.m c.fewer_maps_are_sound.ensures c.retire.new.self
    (c.in_ok-retire.ensures.left (ap Ok c.if-branch.true))

pub returns-clause-retires : goal.returns-clause-retires
returns-clause-retires g c =
    let peers = c.retire-2.new.self in
    subst (λ (maps : Aged MapLease). Retires c.args.m c.args.self.now (tables maps peers)) (sym (c.in_ok-retire.ensures.none (ap Ok c.if-branch.false)))
    (peer-told c.self.inside.maps c.self.inside.peers c.args.self.now c.self.view_is c.requires c.args.m c.fewer_peers_are_sound.ensures peers c.retire-2.result
    c.retire-2.ensures.left c.retire-2.ensures.none c.retire-2.ensures.err)

pub returns-clause-fewer : goal.returns-clause-fewer
returns-clause-fewer g c = λ is.
    let peers = c.retire-2.new.self in
    subst (λ (maps : Aged MapLease). count_of (tables maps peers).found < count_of c.args.self.now.found) (sym (c.in_ok-retire.ensures.none (ap Ok c.if-branch.false)))
    (peer-fewer c.self.inside.maps c.self.inside.peers c.args.self.now c.self.view_is c.requires c.args.m c.fewer_peers_are_sound.ensures peers (c.retire-2.ensures.left is))
