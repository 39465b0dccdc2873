use Rattle.std.proofs.Common.{◌≡◌, ◌∙◌, List, true, ap, map, refl, sym, subst}
use Rattle.pcp_base.specs.declared.datagrams.Entry.{Entry}
use Rattle.turned_shards.specs.declared.passes.HousePass.{HousePass}
use Rattle.turned_shards.specs.declared.shards.Shard.{Shard}
use Rattle.turned_shards.specs.BatchEntries.{reply_in}
use Rattle.turned_shards.specs.ShardCalls.{batch_entries}
use Rattle.turned_shards.specs.Shards.{StandsFor}
use Rattle.shared_house.specs.HeldCalls.{MarksIfDisk, RefusesHeld}
use Rattle.shared_house.specs.HouseCalls.{batch_behind}
use Rattle.shared_house.proofs.HeldLemmas.{batch-refused, if-err-weaker, if-ok-weaker, marks-batch}
use Rattle.shared_house.proofs.HeldLemmas.{notes-added, on-ok-from}
use Rattle.shared_house.proofs.serving.answer_held.Goals as goal

pub note_added-requires-clause-stands : goal.note_added-requires-clause-stands
note_added-requires-clause-stands g c =
    let d = g.D.LeaseDisk in
    let o = c.args.turn.now.key in
    let p = c.args.pass.now in
    let here : StandsFor d.tells d.seen d.moment d.left_since d.may_leave d.faults o c.value.result.now
    p.history.seen p.history.marks =
    subst (λ (s : Shard g.row.D.Denot). StandsFor d.tells d.seen d.moment d.left_since d.may_leave d.faults
    o s p.history.seen p.history.marks) (sym c.value.ensures.value) c.requires.held.stands in
    c.answer-told.ensures.stands o p.history.seen p.history.marks c.requires.batch here

pub returns-clause-served : goal.returns-clause-served
returns-clause-served g c =
    let d = g.D.LeaseDisk in
    let o = c.args.turn.now.key in
    let p = c.args.pass.now in
    let q : HousePass g.row.D.Denot = record {
      shard = p.shard;
      history = c.note_added.new.pass;
      epoch = c.told-heard.new.seat;
    } in
    let here : StandsFor d.tells d.seen d.moment d.left_since d.may_leave d.faults o c.value.result.now
    p.history.seen p.history.marks =
    subst (λ (s : Shard g.row.D.Denot). StandsFor d.tells d.seen d.moment d.left_since d.may_leave d.faults
    o s p.history.seen p.history.marks) (sym c.value.ensures.value) c.requires.held.stands in
    let heard : c.told-heard.result ≡ c.told-heard.new.seat.heard =
    sym (ap (λ k. k.heard) c.told-heard.ensures.seat) in
    let are : batch_entries c.args.config.now c.args.now c.told-heard.result c.args.batch.now
    c.value.result.now ≡ batch_entries c.args.config.now c.args.now c.told-heard.new.seat.heard
    c.args.batch.now c.args.held.now =
    ap (λ n. batch_entries c.args.config.now c.args.now n c.args.batch.now c.value.result.now) heard
    ∙ ap (λ (s : Shard g.row.D.Denot). batch_entries c.args.config.now c.args.now
    c.told-heard.new.seat.heard c.args.batch.now s) c.value.ensures.value in
    on-ok-from c.answer-told.result _ _
    (c.answer-told.ensures.answered o p.history.seen p.history.marks c.requires.batch here)
    (λ replies answers. notes-added d.tells d.seen d.moment d.left_since d.may_leave d.faults true _
    c.answer-told.new.self p q refl (answers.adds.added ∙ are) c.note_added.ensures.pass)

pub returns-clause-told : goal.returns-clause-told
returns-clause-told g c =
    let d = g.D.LeaseDisk in
    let o = c.args.turn.now.key in
    let p = c.args.pass.now in
    let here : StandsFor d.tells d.seen d.moment d.left_since d.may_leave d.faults o c.value.result.now
    p.history.seen p.history.marks =
    subst (λ (s : Shard g.row.D.Denot). StandsFor d.tells d.seen d.moment d.left_since d.may_leave d.faults
    o s p.history.seen p.history.marks) (sym c.value.ensures.value) c.requires.held.stands in
    let heard : c.told-heard.result ≡ c.told-heard.new.seat.heard =
    sym (ap (λ k. k.heard) c.told-heard.ensures.seat) in
    let are : batch_entries c.args.config.now c.args.now c.told-heard.result c.args.batch.now
    c.value.result.now ≡ batch_entries c.args.config.now c.args.now c.told-heard.new.seat.heard
    c.args.batch.now c.args.held.now =
    ap (λ n. batch_entries c.args.config.now c.args.now n c.args.batch.now c.value.result.now) heard
    ∙ ap (λ (s : Shard g.row.D.Denot). batch_entries c.args.config.now c.args.now
    c.told-heard.new.seat.heard c.args.batch.now s) c.value.ensures.value in
    if-ok-weaker c.answer-told.result _ _
    (c.answer-told.ensures.answered o p.history.seen p.history.marks c.requires.batch here)
    (λ replies answers. answers.told
    ∙ ap (λ (l : List Entry). map reply_in l) (answers.adds.added ∙ are))

pub returns-clause-refused : goal.returns-clause-refused
returns-clause-refused g c =
    let d = g.D.LeaseDisk in
    let o = c.args.turn.now.key in
    let p = c.args.pass.now in
    let q : HousePass g.row.D.Denot = record {
      shard = p.shard;
      history = c.note_added.new.pass;
      epoch = c.told-heard.new.seat;
    } in
    let here : StandsFor d.tells d.seen d.moment d.left_since d.may_leave d.faults o c.value.result.now
    p.history.seen p.history.marks =
    subst (λ (s : Shard g.row.D.Denot). StandsFor d.tells d.seen d.moment d.left_since d.may_leave d.faults
    o s p.history.seen p.history.marks) (sym c.value.ensures.value) c.requires.held.stands in
    let heard : c.told-heard.result ≡ c.told-heard.new.seat.heard =
    sym (ap (λ k. k.heard) c.told-heard.ensures.seat) in
    if-err-weaker c.answer-told.result _ _
    (c.answer-told.ensures.refused o p.history.seen p.history.marks c.requires.batch here)
    (λ fault refused.
    subst (λ (s : Shard g.row.D.Denot). RefusesHeld s (batch_entries c.args.config.now c.args.now
    c.told-heard.new.seat.heard c.args.batch.now s) p q fault) c.value.ensures.value
    (subst (λ n. RefusesHeld c.value.result.now (batch_entries c.args.config.now c.args.now n
    c.args.batch.now c.value.result.now) p q fault) heard
    (batch-refused d.tells d.seen d.moment d.left_since d.may_leave d.faults c.args.config.now
    c.args.now c.told-heard.result c.args.batch.now c.value.result.now c.answer-told.new.self p q
    fault refused c.note_added.ensures.pass)))

pub returns-clause-marked : goal.returns-clause-marked
returns-clause-marked g c =
    let d = g.D.LeaseDisk in
    let o = c.args.turn.now.key in
    let p = c.args.pass.now in
    let q : HousePass g.row.D.Denot = record {
      shard = p.shard;
      history = c.note_added.new.pass;
      epoch = c.told-heard.new.seat;
    } in
    let here : StandsFor d.tells d.seen d.moment d.left_since d.may_leave d.faults o c.value.result.now
    p.history.seen p.history.marks =
    subst (λ (s : Shard g.row.D.Denot). StandsFor d.tells d.seen d.moment d.left_since d.may_leave d.faults
    o s p.history.seen p.history.marks) (sym c.value.ensures.value) c.requires.held.stands in
    let heard : c.told-heard.result ≡ c.told-heard.new.seat.heard =
    sym (ap (λ k. k.heard) c.told-heard.ensures.seat) in
    if-err-weaker c.answer-told.result _ _
    (c.answer-told.ensures.refused o p.history.seen p.history.marks c.requires.batch here)
    (λ fault refused. subst (λ n. MarksIfDisk o
    (λ (log : List Entry). batch_behind o log c.args.now n c.args.batch.now) q fault) heard
    (marks-batch d.tells d.seen d.moment d.left_since d.may_leave d.faults o c.args.config.now
    c.args.now c.told-heard.result c.args.batch.now c.value.result.now c.answer-told.new.self p q
    true fault c.requires.batch.config_is here refused c.note_added.ensures.pass))
