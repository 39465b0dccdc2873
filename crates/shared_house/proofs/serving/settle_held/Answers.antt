use Rattle.std.specs.Prelude.{is_err, IfErr}
use Rattle.std.proofs.Common.{◌≡◌, ◌∙◌, sym, subst, rules}
use Rattle.turned_shards.specs.declared.shards.Shard.{Shard}
use Rattle.turned_shards.specs.declared.passes.HousePass.{HousePass}
use Rattle.turned_shards.specs.ShardCalls.{faults_of}
use Rattle.turned_shards.specs.Shards.{StandsFor}
use Rattle.shared_house.specs.HeldCalls.{NotesOwn}
use Rattle.shared_house.proofs.HeldLemmas.{if-err-weaker, marks-settling, refused-by, settled-by}
use Rattle.shared_house.proofs.serving.settle_held.Goals as goal

pub returns-clause-settled : goal.returns-clause-settled
returns-clause-settled g c =
    let d = g.D.LeaseDisk in
    let told : c.is_err.result ≡ is_err c.settle-told.result = search rules in
    let here : StandsFor d.tells d.seen d.moment d.left_since d.may_leave d.faults c.args.turn.now.key c.value.result.now
    c.args.pass.now.history.seen c.args.pass.now.history.marks =
    subst (λ (s : Shard g.row.D.Denot). StandsFor d.tells d.seen d.moment d.left_since d.may_leave d.faults
    c.args.turn.now.key s c.args.pass.now.history.seen c.args.pass.now.history.marks)
    (sym c.value.ensures.value) c.requires.held.stands in
    settled-by d.tells d.seen d.moment d.left_since d.may_leave d.faults c.args.turn.now.key
    c.args.now c.settle-told.result c.is_err.result c.value.result.now c.settle-told.new.self
    c.value-2.result.now
    c.args.pass.now
    (record {
      shard = c.args.pass.now.shard;
      history = c.note_added.new.pass;
      epoch = c.raise.new.seat;
    }) told here c.settle-told.ensures.settled
    c.note_added.ensures.pass (c.value-2.ensures.value ∙ c.note_added.ensures.held)

pub returns-clause-refused : goal.returns-clause-refused
returns-clause-refused g c =
    let d = g.D.LeaseDisk in
    let p = c.args.pass.now in
    let q : HousePass g.row.D.Denot = record {
      shard = p.shard;
      history = c.note_added.new.pass;
      epoch = c.raise.new.seat;
    } in
    let told : c.is_err.result ≡ is_err c.settle-told.result = search rules in
    subst (λ (s : Shard g.row.D.Denot). IfErr c.settle-told.result
    (λ fault. NotesOwn (faults_of s.moment s.base fault) p q)) c.value.ensures.value
    (refused-by d.tells d.seen d.moment d.left_since d.may_leave d.faults c.settle-told.result
    c.is_err.result c.value.result.now c.settle-told.new.self p q told
    c.settle-told.ensures.refused c.note_added.ensures.pass)

pub returns-clause-marked : goal.returns-clause-marked
returns-clause-marked g c wanted =
    let d = g.D.LeaseDisk in
    let o = c.args.turn.now.key in
    let here : StandsFor d.tells d.seen d.moment d.left_since d.may_leave d.faults o c.value.result.now
    c.args.pass.now.history.seen c.args.pass.now.history.marks =
    subst (λ (s : Shard g.row.D.Denot). StandsFor d.tells d.seen d.moment d.left_since d.may_leave d.faults
    o s c.args.pass.now.history.seen c.args.pass.now.history.marks)
    (sym c.value.ensures.value) c.requires.held.stands in
    if-err-weaker c.settle-told.result _ _ c.settle-told.ensures.refused (λ fault stays.
    marks-settling d.tells d.seen d.moment d.left_since d.may_leave d.faults o c.value.result.now
    c.settle-told.new.self c.args.pass.now
    (record {
      shard = c.args.pass.now.shard;
      history = c.note_added.new.pass;
      epoch = c.raise.new.seat;
    }) c.is_err.result wanted fault here stays c.note_added.ensures.pass)
