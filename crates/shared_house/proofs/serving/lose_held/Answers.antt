use Rattle.std.proofs.Common.{◌≡◌, ◌∙◌, List, max, true, ap, refl, sym, subst, rules}
use Rattle.pcp_base.specs.declared.datagrams.Entry.{Entry}
use Rattle.lease_store.specs.Lookups.{lease_count}
use Rattle.turned_shards.specs.declared.passes.HousePass.{HousePass}
use Rattle.turned_shards.specs.declared.shards.Shard.{Shard}
use Rattle.turned_shards.specs.ShardCalls.{faults_of, loss_entries}
use Rattle.turned_shards.specs.Shards.{StandsFor}
use Rattle.shared_house.specs.HeldCalls.{MarksIfDisk, NotesOwn}
use Rattle.shared_house.specs.HouseCalls.{loss_behind}
use Rattle.shared_house.proofs.HeldLemmas.{if-err-weaker, if-ok-weaker, loss-behind, marks-asked}
use Rattle.shared_house.proofs.HeldLemmas.{notes-added, on-err-from, on-ok-from}
use Rattle.shared_house.proofs.serving.lose_held.Goals as goal

pub note_added-requires-clause-stands : goal.note_added-requires-clause-stands
note_added-requires-clause-stands g c =
    let d = g.D.LeaseDisk in
    let o = c.args.turn.now.key in
    let p = c.args.pass.now in
    let s = c.value.result.now in
    let here : StandsFor d.tells d.seen d.moment d.left_since d.may_leave d.faults o s p.history.seen
    p.history.marks =
    subst (λ (x : Shard g.row.D.Denot). StandsFor d.tells d.seen d.moment d.left_since d.may_leave d.faults
    o x p.history.seen p.history.marks) (sym c.value.ensures.value) c.requires.held.stands in
    c.lose-told.ensures.stands o p.history.seen p.history.marks here

pub returns-clause-lost : goal.returns-clause-lost
returns-clause-lost g c =
    let d = g.D.LeaseDisk in
    let o = c.args.turn.now.key in
    let p = c.args.pass.now in
    let s = c.value.result.now in
    let q : HousePass g.row.D.Denot = record {
      shard = p.shard;
      history = c.note_added.new.pass;
      epoch = c.raise.new.seat;
    } in
    let here : StandsFor d.tells d.seen d.moment d.left_since d.may_leave d.faults o s p.history.seen
    p.history.marks =
    subst (λ (x : Shard g.row.D.Denot). StandsFor d.tells d.seen d.moment d.left_since d.may_leave d.faults
    o x p.history.seen p.history.marks) (sym c.value.ensures.value) c.requires.held.stands in
    let heard : c.told-heard.result ≡ c.raise.new.seat.heard = search rules in
    let are : loss_entries c.args.now c.told-heard.result s
    ≡ loss_entries c.args.now c.raise.new.seat.heard c.args.held.now =
    ap (λ n. loss_entries c.args.now n s) heard
    ∙ ap (λ (x : Shard g.row.D.Denot). loss_entries c.args.now c.raise.new.seat.heard x)
    c.value.ensures.value in
    on-ok-from c.lose-told.result _ _
    (c.lose-told.ensures.lost o p.history.seen p.history.marks here)
    (λ count adds. notes-added d.tells d.seen d.moment d.left_since d.may_leave d.faults true _
    c.lose-told.new.self p q refl (adds.added ∙ are) c.note_added.ensures.pass)

pub returns-clause-counted : goal.returns-clause-counted
returns-clause-counted g c =
    let d = g.D.LeaseDisk in
    let o = c.args.turn.now.key in
    let p = c.args.pass.now in
    let s = c.value.result.now in
    let here : StandsFor d.tells d.seen d.moment d.left_since d.may_leave d.faults o s p.history.seen
    p.history.marks =
    subst (λ (x : Shard g.row.D.Denot). StandsFor d.tells d.seen d.moment d.left_since d.may_leave d.faults
    o x p.history.seen p.history.marks) (sym c.value.ensures.value) c.requires.held.stands in
    if-ok-weaker c.lose-told.result _ _
    (c.lose-told.ensures.lost o p.history.seen p.history.marks here)
    (λ count adds. adds.counted
    ∙ ap (λ (x : Shard g.row.D.Denot). lease_count x.book.state.table (max c.args.now x.moment))
    c.value.ensures.value)

pub returns-clause-refused : goal.returns-clause-refused
returns-clause-refused g c =
    let d = g.D.LeaseDisk in
    let o = c.args.turn.now.key in
    let p = c.args.pass.now in
    let s = c.value.result.now in
    let q : HousePass g.row.D.Denot = record {
      shard = p.shard;
      history = c.note_added.new.pass;
      epoch = c.raise.new.seat;
    } in
    let here : StandsFor d.tells d.seen d.moment d.left_since d.may_leave d.faults o s p.history.seen
    p.history.marks =
    subst (λ (x : Shard g.row.D.Denot). StandsFor d.tells d.seen d.moment d.left_since d.may_leave d.faults
    o x p.history.seen p.history.marks) (sym c.value.ensures.value) c.requires.held.stands in
    if-err-weaker c.lose-told.result _ _
    (c.lose-told.ensures.refused o p.history.seen p.history.marks here)
    (λ fault leaves. subst (λ (x : Shard g.row.D.Denot).
    NotesOwn (faults_of x.moment x.base fault) p q) c.value.ensures.value
    (notes-added d.tells d.seen d.moment d.left_since d.may_leave d.faults true
    (faults_of s.moment s.base fault) c.lose-told.new.self p q refl leaves.added
    c.note_added.ensures.pass))

pub returns-clause-same : goal.returns-clause-same
returns-clause-same g c =
    let d = g.D.LeaseDisk in
    let o = c.args.turn.now.key in
    let p = c.args.pass.now in
    let s = c.value.result.now in
    let here : StandsFor d.tells d.seen d.moment d.left_since d.may_leave d.faults o s p.history.seen
    p.history.marks =
    subst (λ (x : Shard g.row.D.Denot). StandsFor d.tells d.seen d.moment d.left_since d.may_leave d.faults
    o x p.history.seen p.history.marks) (sym c.value.ensures.value) c.requires.held.stands in
    on-err-from c.lose-told.result _ _
    (c.lose-told.ensures.refused o p.history.seen p.history.marks here)
    (λ fault leaves. ap (λ (x : Shard g.row.D.Denot). x.book.state)
    (c.value-2.ensures.value ∙ c.note_added.ensures.held) ∙ leaves.state
    ∙ ap (λ (x : Shard g.row.D.Denot). x.book.state) c.value.ensures.value)

pub returns-clause-marked : goal.returns-clause-marked
returns-clause-marked g c =
    let d = g.D.LeaseDisk in
    let o = c.args.turn.now.key in
    let p = c.args.pass.now in
    let s = c.value.result.now in
    let q : HousePass g.row.D.Denot = record {
      shard = p.shard;
      history = c.note_added.new.pass;
      epoch = c.raise.new.seat;
    } in
    let here : StandsFor d.tells d.seen d.moment d.left_since d.may_leave d.faults o s p.history.seen
    p.history.marks =
    subst (λ (x : Shard g.row.D.Denot). StandsFor d.tells d.seen d.moment d.left_since d.may_leave d.faults
    o x p.history.seen p.history.marks) (sym c.value.ensures.value) c.requires.held.stands in
    let heard : c.told-heard.result ≡ c.raise.new.seat.heard = search rules in
    if-err-weaker c.lose-told.result _ _
    (c.lose-told.ensures.refused o p.history.seen p.history.marks here)
    (λ fault leaves. subst (λ n. MarksIfDisk o
    (λ (log : List Entry). loss_behind o log c.args.now n) q fault) heard
    (marks-asked d.tells d.seen d.moment d.left_since d.may_leave d.faults o s c.lose-told.new.self p q
    true (loss_entries c.args.now c.told-heard.result s)
    (λ (log : List Entry). loss_behind o log c.args.now c.told-heard.result) fault here
    (loss-behind d.tells d.seen d.moment d.left_since d.may_leave d.faults o c.args.now
    c.told-heard.result s p.history.seen p.history.marks here) leaves c.note_added.ensures.pass))
