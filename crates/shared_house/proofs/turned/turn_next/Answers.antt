use Rattle.std.proofs.Common.{◌∙◌, [], ◌∷◌, ◌++◌, ap}
use Rattle.pcp_base.specs.declared.datagrams.Entry.{Entry}
use Rattle.turned_shards.specs.declared.marks.Mark.{Mark}
use Rattle.turn_lock.specs.Passes.{PassKnowledge}
use Rattle.turned_shards.specs.declared.passes.HousePass.{HousePass}
use Rattle.shared_house.proofs.turned.turn_next.Goals as goal

pub returns-in-Ok-clause-added : goal.returns-in-Ok-clause-added
returns-in-Ok-clause-added g c =
    let with_history : PassKnowledge Entry (Mark g.row.D.Denot) → HousePass g.row.D.Denot =
    λ h. record { shard = c.args.place; history = h; epoch = c.args.epoch } in
    record {
      turn = c.in-Ok.turn;
      lane = c.in-Ok.lane;
      key = c.in-Ok.ensures.key;
      leases = c.in-Ok.ensures.lane;
      turns = c.push_reserved.ensures.items;
      passes = c.push_reserved-in-Ok.ensures.items
          ∙ ap (λ (h : PassKnowledge Entry (Mark g.row.D.Denot)). c.args.made.now.passes.items ++ with_history h ∷ [])
          c.in-Ok.ensures.pass;
      lanes = c.push_reserved-in-Ok-2.ensures.items;
    }
