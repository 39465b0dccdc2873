use Rattle.std.proofs.Common.{◌≡◌, ◌∙◌, ◌++◌, List, [], ◌∷◌, None, max, refl, ap, sym, subst, arith}
use Rattle.std.proofs.Common.{rules}
use Rattle.pcp_base.specs.declared.datagrams.Entry.{Entry}
use Rattle.pcp_base.specs.declared.records.Change.TheVariants.{Lose}
use Rattle.turned_shards.specs.declared.shards.Shard.{Shard}
use Rattle.turned_shards.specs.BatchEntries.{loss_at}
use Rattle.turned_shards.specs.Inside.{asked_shard, come_in_shard, left_shard}
use Rattle.turned_shards.specs.Shards.{StandsFor, marks_added}
use Rattle.turned_shards.proofs.BatchCalls.{fault-adds}
use Rattle.turned_shards.proofs.Keeping.{doubts-shard, keeps-shard, loses-settled, loss-may-come}
use Rattle.turned_shards.proofs.Keeping.{loss-refused}
use Rattle.turned_shards.proofs.LaneLemmas.{stands-adding, stands-moved}
use Rattle.turned_shards.proofs.shards.Shard.lose.Goals as goal

pub returns-in-Ok-clause-stands : goal.returns-in-Ok-clause-stands
returns-in-Ok-clause-stands g c o log marks stands =
    let d = g.D.LeaseDisk in
    let s0 = c.args.self.now in
    let s = c.make_room.new.self in
    let moved = c.make_room.ensures.moved in
    let ready : StandsFor d.tells d.seen d.moment d.left_since d.may_leave d.faults o s log marks =
    stands-moved d.tells d.seen d.moment d.left_since d.may_leave d.faults o s0 s log marks stands moved in
    let settled : s.book.fault ≡ None = ap (λ (x : Shard g.row.D.Denot). x.book.fault) moved.same
    ∙ c.requires.settled in
    let m = c.later-m.result in
    let base = c.later-told.result in
    let b = c.lose.new.self in
    let es : List Entry = loss_at m base ∷ [] in
    let at : m ≡ max c.args.now s.moment = c.later-m.ensures.value in
    let told : base ≡ max c.args.base s.base = c.later-told.ensures.value in
    let early = ready.later in
    let next = c.histories_grow.ensures.next in
    let may = loss-may-come next c.entries_come_next.ensures.servers o s m base
    c.later-m.ensures.bound (omega arith) (omega arith) in
    let keeps = loses-settled d.tells d.seen d.moment d.left_since d.may_leave d.faults m
    c.in-Ok.count s.book b settled (omega arith) c.in-Ok.ensures.lost in
    let t : Shard g.row.D.Denot =
    record (come_in_shard (asked_shard es m (max base m) s)) { book = b } in
    let same : c.come_in.new.self ≡ t = search rules in
    let w = c.await_one.new.waiting in
    let holds = keeps-shard d.tells d.seen d.moment d.left_since d.may_leave d.faults o s b log marks es m
    (max base m) m _ _ ready may keeps (omega arith)
    c.in-Ok.ensures.book c.in-Ok.ensures.cause in
    subst (λ (x : Shard g.row.D.Denot). StandsFor d.tells d.seen d.moment d.left_since d.may_leave d.faults o
    (record x { unpushed = w }) (log ++ x.added) (marks ++ marks_added x)) (sym same)
    (stands-adding d.tells d.seen d.moment d.left_since d.may_leave d.faults o s t
    (record t { unpushed = w }) log marks es ready holds refl refl
    (c.await_one.ensures.items
    ∙ ap (λ (x : Shard g.row.D.Denot). x.unpushed.items
    ++ (record { moment = m; change = Lose }) ∷ []) same) refl)

pub returns-in-Err-clause-stands : goal.returns-in-Err-clause-stands
returns-in-Err-clause-stands g c o log marks stands =
    let d = g.D.LeaseDisk in
    let s0 = c.args.self.now in
    let s = c.make_room.new.self in
    let moved = c.make_room.ensures.moved in
    let ready : StandsFor d.tells d.seen d.moment d.left_since d.may_leave d.faults o s log marks =
    stands-moved d.tells d.seen d.moment d.left_since d.may_leave d.faults o s0 s log marks stands moved in
    let settled : s.book.fault ≡ None = ap (λ (x : Shard g.row.D.Denot). x.book.fault) moved.same
    ∙ c.requires.settled in
    let m = c.later-m.result in
    let base = c.later-told.result in
    let b = c.lose.new.self in
    let fault = c.in-Err.fault in
    let es : List Entry = loss_at m base ∷ [] in
    let at : m ≡ max c.args.now s.moment = c.later-m.ensures.value in
    let told : base ≡ max c.args.base s.base = c.later-told.ensures.value in
    let early = ready.later in
    let next = c.histories_grow.ensures.next in
    let may = loss-may-come next c.entries_come_next.ensures.servers o s m base
    c.later-m.ensures.bound (omega arith) (omega arith) in
    let doubts = loss-refused d.tells d.seen d.moment d.left_since d.may_leave d.faults m s.book b
    fault settled (omega arith) c.in-Err.ensures.refused in
    let t : Shard g.row.D.Denot =
    record (left_shard fault (asked_shard es m (max base m) s)) { book = b } in
    let same : c.leave_in_doubt.new.self ≡ t = search rules in
    let holds = doubts-shard d.tells d.seen d.moment d.left_since d.may_leave d.faults next
    c.entries_come_next.ensures.faults o s b log marks es m
    (max base m) _ fault _ ready may doubts c.in-Err.ensures.book c.in-Err.ensures.cause
    (λ e. search rules) in
    rw same (fault-adds d.tells d.seen d.moment d.left_since d.may_leave d.faults o s t log marks fault ready holds refl refl
    refl)
