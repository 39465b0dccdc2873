use Rattle.std.specs.List.{slice_get}
use Rattle.std.proofs.Common.{◌≡◌, ◌∙◌, List, [], Some, ap, subst}
use Rattle.std.proofs.lemmas.Option.{get_or_from_slice_get}
use Rattle.pcp_base.specs.declared.datagrams.Entry.{Entry}
use Rattle.shared_house.specs.HouseCalls.{RefusesHouse, ServesHouse, batch_behind, raised_behind}
use Rattle.shared_house.proofs.HouseLemmas.{begins-with, passes-on}
use Rattle.shared_house.proofs.houses.House.count.Goals as goal

pub returns-in-Ok-clause-pass : goal.returns-in-Ok-clause-pass
returns-in-Ok-clause-pass g c =
    let d = g.D.LeaseDisk in
    let p = c.requires in
    let house = c.args.self.now in
    let shard = c.args.pass.now.shard in
    let turn = c.index-turn.result.now in
    let turns = c.self.inside.turns.items in
    let here : turns ≡ house.turns = ap (λ h. h.turns) c.self.view_is in
    let there : slice_get turns shard ≡ Some p.turn = ap (λ l. slice_get l shard) here ∙ p.there in
    let is : turn ≡ p.turn = c.index-turn.ensures
    ∙ get_or_from_slice_get turns shard p.turn turn there in
    let word : c.self.inside.word ≡ house.word = ap (λ h. h.word) c.self.view_is in
    let new = c.count_behind.new.pass in
    passes-on house c.args.pass.now new turn c.self.inside.word p is word c.in-Ok.ensures.pass
    c.in-Ok.ensures.shard

pub returns-in-Err-clause-pass : goal.returns-in-Err-clause-pass
returns-in-Err-clause-pass g c =
    let d = g.D.LeaseDisk in
    let p = c.requires in
    let house = c.args.self.now in
    let shard = c.args.pass.now.shard in
    let turn = c.index-turn.result.now in
    let turns = c.self.inside.turns.items in
    let here : turns ≡ house.turns = ap (λ h. h.turns) c.self.view_is in
    let there : slice_get turns shard ≡ Some p.turn = ap (λ l. slice_get l shard) here ∙ p.there in
    let is : turn ≡ p.turn = c.index-turn.ensures
    ∙ get_or_from_slice_get turns shard p.turn turn there in
    let word : c.self.inside.word ≡ house.word = ap (λ h. h.word) c.self.view_is in
    let new = c.count_behind.new.pass in
    passes-on house c.args.pass.now new turn c.self.inside.word p is word c.in-Err.ensures.pass
    c.in-Err.ensures.shard

pub returns-in-Ok-clause-counted : goal.returns-in-Ok-clause-counted
returns-in-Ok-clause-counted g c o begins =
    let d = g.D.LeaseDisk in
    let p = c.requires in
    let house = c.args.self.now in
    let shard = c.args.pass.now.shard in
    let turn = c.index-turn.result.now in
    let turns = c.self.inside.turns.items in
    let here : turns ≡ house.turns = ap (λ h. h.turns) c.self.view_is in
    let there : slice_get turns shard ≡ Some p.turn = ap (λ l. slice_get l shard) here ∙ p.there in
    let is : turn ≡ p.turn = c.index-turn.ensures
    ∙ get_or_from_slice_get turns shard p.turn turn there in
    let word : c.self.inside.word ≡ house.word = ap (λ h. h.word) c.self.view_is in
    let new = c.count_behind.new.pass in
    let key : turn.key ≡ o = ap (λ n. n.key) is ∙ begins-with house shard o p.turn p.there begins in
    subst (λ k. ServesHouse k d.tells d.seen d.moment d.left_since d.may_leave d.faults c.args.now
    [] c.args.pass.now new [] c.in-Ok.counted.1)
    key c.in-Ok.ensures.counted

pub returns-in-Err-clause-refused : goal.returns-in-Err-clause-refused
returns-in-Err-clause-refused g c o begins =
    let d = g.D.LeaseDisk in
    let p = c.requires in
    let house = c.args.self.now in
    let shard = c.args.pass.now.shard in
    let turn = c.index-turn.result.now in
    let turns = c.self.inside.turns.items in
    let here : turns ≡ house.turns = ap (λ h. h.turns) c.self.view_is in
    let there : slice_get turns shard ≡ Some p.turn = ap (λ l. slice_get l shard) here ∙ p.there in
    let is : turn ≡ p.turn = c.index-turn.ensures
    ∙ get_or_from_slice_get turns shard p.turn turn there in
    let word : c.self.inside.word ≡ house.word = ap (λ h. h.word) c.self.view_is in
    let new = c.count_behind.new.pass in
    let key : turn.key ≡ o = ap (λ n. n.key) is ∙ begins-with house shard o p.turn p.there begins in (
      c.in-Err.fault,
      c.fault_at.ensures,
      subst (λ k. RefusesHouse k d.tells d.seen d.moment d.left_since d.may_leave d.faults
          c.args.now (λ (log : List Entry). batch_behind k log c.args.now new.epoch.heard
          []) (raised_behind k) c.args.pass.now new c.in-Err.fault)
          key c.in-Err.ensures.refused,
    )
