use Rattle.std.proofs.Common.{sym, subst}
use Rattle.turned_shards.specs.declared.shards.Shard.{Shard}
use Rattle.turned_shards.specs.Publishing.{IsWithLane, KeepsRecords, MayPush}
use Rattle.turned_shards.proofs.LaneLemmas.{held-shown, may-push}
use Rattle.turned_shards.proofs.publishing.publish_held.Goals as goal

pub publish-requires : goal.publish-requires
publish-requires g c =
    let d = g.D.LeaseDisk in
    subst (λ (x : Shard g.row.D.Denot). MayPush x.writer x.unpushed.items)
    (sym c.value.ensures.value)
    (may-push d.tells d.seen d.moment d.left_since d.may_leave d.faults c.states_stand.ensures c.args._turn.now.key
    c.args.held.now c.args._pass.now.seen c.args._pass.now.marks c.requires.stands)

pub returns-in-Ok-clause-held : goal.returns-in-Ok-clause-held
returns-in-Ok-clause-held g c =
    let d = g.D.LeaseDisk in
    held-shown d.tells d.seen d.moment d.left_since d.may_leave d.faults c.args._turn.now c.args._pass.now c.args.held.now
    c.publish.new.self c.requires
    (subst (λ (x : Shard g.row.D.Denot). IsWithLane x c.publish.new.self)
    c.value.ensures.value c.publish.ensures.same)
    (subst (λ (x : Shard g.row.D.Denot). KeepsRecords x c.publish.new.self)
    c.value.ensures.value c.publish.ensures.records)

pub returns-in-Err-clause-held : goal.returns-in-Err-clause-held
returns-in-Err-clause-held g c =
    let d = g.D.LeaseDisk in
    held-shown d.tells d.seen d.moment d.left_since d.may_leave d.faults c.args._turn.now c.args._pass.now c.args.held.now
    c.publish.new.self c.requires
    (subst (λ (x : Shard g.row.D.Denot). IsWithLane x c.publish.new.self)
    c.value.ensures.value c.publish.ensures.same)
    (subst (λ (x : Shard g.row.D.Denot). KeepsRecords x c.publish.new.self)
    c.value.ensures.value c.publish.ensures.records)
