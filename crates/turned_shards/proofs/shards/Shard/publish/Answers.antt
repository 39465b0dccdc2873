use Rattle.std.proofs.Common.{List, sym, subst}
use Rattle.pcp_base.specs.declared.records.Record.{Record}
use Rattle.turned_shards.specs.Publishing.{MayPush}
use Rattle.turned_shards.proofs.shards.Shard.publish.Goals as goal

pub push_each-count-requires : goal.push_each-count-requires
push_each-count-requires g c = subst (λ (l : List Record). MayPush c.args.self.now.writer l)
    (sym c.deref.ensures.value) c.requires
