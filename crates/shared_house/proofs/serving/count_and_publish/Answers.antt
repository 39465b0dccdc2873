use Rattle.std.proofs.Common.{[], subst}
use Rattle.turned_shards.specs.declared.shards.Shard.{Shard}
use Rattle.turned_shards.specs.ShardCalls.{batch_entries}
use Rattle.shared_house.specs.HeldCalls.{RefusesHeld}
use Rattle.shared_house.proofs.serving.count_and_publish.Goals as goal

pub returns-in-Err-clause-refused : goal.returns-in-Err-clause-refused
returns-in-Err-clause-refused g c =
    let q = c.answer_and_publish.new.pass in
    subst (λ (s : Shard g.row.D.Denot). RefusesHeld s
    (batch_entries c.args.config.now c.args.now q.epoch.heard [] s)
    c.args.pass.now q c.in-Err.fault) c.value.ensures.value c.in-Err.ensures.refused
