use Rattle.std.proofs.Common.{List, sym, ap, ◌∙◌, subst}
use Rattle.std.specs.List.{AllByRecursion}
use Rattle.std.proofs.lemmas.Result.{on_ok_weaker}
use Rattle.pcp_base.specs.Tables.{Table, live}
use Rattle.pcp_base.specs.Sound.{Sound}
use Rattle.indexed_store.specs.declared.owning.OwnerRun.{OwnerRun}
use Rattle.indexed_store.specs.Leaving.{AreOfDead}
use Rattle.indexed_store.specs.Tabled.{AreTabled}
use Rattle.indexed_store.specs.Holding.{AreEndsOf, AreHeld, AreLiveAt, AreNearAt, IsAgreed}
use Rattle.indexed_store.proofs.Uniques as uniques
use Rattle.indexed_store.proofs.FirstLemmas.{left-agreed, live-live, live-near, ports-left, sound-tabled}
use Rattle.indexed_store.proofs.first.drop_dead.Goals as goal

pub drop_dead-requires-2 : goal.drop_dead-requires-2
drop_dead-requires-2 g c =
    subst AreTabled (sym c.in_ok-_ended.ensures.table)
    (sound-tabled c.sound_tables_have_sound_maps.ensures c.sound_tables_have_sound_peers.ensures (live c.args.leases.now.found c.args.last) c.requires.near.sound)

pub hold_all-requires-clause-near : goal.hold_all-requires-clause-near
hold_all-requires-clause-near g c =
    let maps = c.sound_tables_have_sound_maps.ensures in let peers = c.sound_tables_have_sound_peers.ensures in let m = c.args.m in
    subst (AreNearAt m) (sym c.in_ok-left.ensures.table)
    (live-near maps peers c.drop_dead.new.self.found m m (subst (AreNearAt m) (sym c.in_ok-_ended.ensures.table) (live-near maps peers c.args.leases.now.found c.args.last m c.requires.near)))

pub hold_all-requires-clause-live : goal.hold_all-requires-clause-live
hold_all-requires-clause-live g c = subst (AreLiveAt c.args.m) (sym c.in_ok-left.ensures.table) (live-live c.drop_dead.new.self.found c.args.m)

pub hold_all-requires-clause-runs : goal.hold_all-requires-clause-runs
hold_all-requires-clause-runs g c =
    let gone = c.drop_dead.new.self.found in
    let sound = subst Sound (sym c.in_ok-_ended.ensures.table) c.requires.near.sound in
    let tabled = sound-tabled c.sound_tables_have_sound_maps.ensures c.sound_tables_have_sound_peers.ensures gone sound in
    subst (λ (t : Table). AllByRecursion (IsAgreed t) c.deref.result.now) (sym c.in_ok-left.ensures.table)
    (subst (λ (runs : List OwnerRun). AllByRecursion (IsAgreed (live gone c.args.m)) runs) (sym c.deref.ensures.value)
    (left-agreed c.args.m gone c.in_ok-left.left.items sound tabled c.in_ok-left.ensures.left))

pub returns-clause-table : goal.returns-clause-table
returns-clause-table g c =
    on_ok_weaker c.hold_all.result (λ held. c.in_ok-left.ensures.table ∙ ap (λ (t : Table). live t c.args.m) c.in_ok-_ended.ensures.table
    ∙ uniques.live-live c.args.leases.now.found c.args.last c.args.m c.requires.later) c.hold_all.ensures.ports

pub returns-clause-ports : goal.returns-clause-ports
returns-clause-ports g c =
    let m = c.args.m in let w = c.hold_all.new.ports in
    on_ok_weaker c.hold_all.result (λ held s first table passed ports.
    let same = table ∙ sym c.in_ok-_ended.ensures.table in
    let here = subst (λ (u : Table). AreHeld u c.deref.result.now c.args.ports.now w) (c.in_ok-left.ensures.table ∙ ap (λ (u : Table). live u m) (sym same)) held in
    let of = subst (λ (u : Table). AreOfDead m u c.deref.result.now) (sym same)
    (subst (λ (runs : List OwnerRun). AreOfDead m c.drop_dead.new.self.found runs) (sym c.deref.ensures.value) c.in_ok-left.ensures.left) in
    subst (λ (u : Table). AreEndsOf m u w) (ap (λ (u : Table). live u m) table ∙ uniques.live-live c.args.leases.now.found c.args.last m c.requires.later)
    (ports-left s first c.ports_follow_states.ensures.told m c.deref.result.now c.args.ports.now w passed of ports here)) c.hold_all.ensures.ports
