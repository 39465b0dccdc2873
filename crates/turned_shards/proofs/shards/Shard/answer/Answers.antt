use Rattle.std.specs.Prelude.{vec_capacity, vec_len}
use Rattle.std.specs.List.{filter_map}
use Rattle.std.proofs.Common.{◌≡◌, ◌≢◌, ◌≤◌, ◌∙◌, ◌++◌, ◌+◌, List, [], None, length, refl, max, ap}
use Rattle.std.proofs.Common.{sym, subst, arith, rules}
use Rattle.std.proofs.lemmas.List.{length-map}
use Rattle.pcp_base.specs.declared.asks.Ask.{Ask}
use Rattle.shard_book.specs.declared.batches.Answered.{Answered}
use Rattle.shard_book.specs.Keepings.{IsRefused, Serves, batch_records}
use Rattle.turned_shards.specs.declared.shards.Shard.{Shard}
use Rattle.turned_shards.specs.BatchEntries.{Asked, asked_in}
use Rattle.turned_shards.specs.Reading.{replies_to}
use Rattle.turned_shards.specs.Shards.{StandsFor}
use Rattle.turned_shards.proofs.BatchCalls.{IsAsked, adds-moved, answered-so, answered-up}
use Rattle.turned_shards.proofs.BatchCalls.{asked-few, refused-up, serves-count}
use Rattle.turned_shards.proofs.LaneLemmas.{stands-moved}
use Rattle.turned_shards.proofs.shards.Shard.answer.Goals as goal

pub ask-requires-clause-few : goal.ask-requires-clause-few
ask-requires-clause-few g c =
    let asked = asked_in c.args.config.now c.args.batch.now in
    let n : length c.deref.result.now ≡ length asked =
    ap (λ (l : List Ask). length l) (c.deref.ensures.value ∙ c.in_ok-requests.ensures.asks)
    ∙ length-map asked (λ (a : Asked). a.request.ask) in
    let few = asked-few c.args.config.now c.args.batch.now in
    let most = c.requires.few in
    omega (arith, n, few, most)

pub returns-in_err-answers-clause-stands : goal.returns-in_err-answers-clause-stands
returns-in_err-answers-clause-stands g c o log marks is stands =
    let d = g.D.LeaseDisk in
    let s0 = c.args.self.now in
    let s = c.make_room.new.self in
    let moved = c.make_room.ensures.moved in
    let ready : StandsFor d.tells d.seen d.moment d.left_since d.may_leave d.faults o s log marks =
    stands-moved d.tells d.seen d.moment d.left_since d.may_leave d.faults o s0 s log marks stands moved in
    let settled : s.book.fault ≡ None = ap (λ (x : Shard g.row.D.Denot). x.book.fault) moved.same
    ∙ c.requires.settled in
    let t = c.ask.new.self in
    let m = c.later-m.result in
    let base = c.later-told.result in
    let requests = c.in_ok-requests.requests in
    let at : m ≡ max c.args.now s.moment = c.later-m.ensures.value in
    let told : base ≡ max c.args.base s.base = c.later-told.ensures.value in
    let some : requests.asks.items ≢ [] = search rules in
    let a : IsAsked d.tells d.seen d.moment d.left_since d.may_leave d.faults c.args.config.now
    c.args.batch.now requests s m base o log marks =
    record {
      is = is;
      read = c.in_ok-requests.ensures;
      some = some;
      stands = ready;
      settled = settled;
      small = c.later-m.ensures.bound;
      later = omega arith;
      told = omega arith;
    } in
    let refused =
    subst (λ (asks : List Ask). IsRefused d.tells d.moment d.left_since d.may_leave m
    (batch_records m asks) s.book t.book c.in_err-answers.field-0.0)
    c.deref.ensures.value c.in_err-answers.ensures.refused in
    refused-up d.tells d.seen d.moment d.left_since d.may_leave d.faults
    c.histories_grow.ensures.next c.entries_come_next.ensures.decisions
    c.entries_come_next.ensures.faults
    c.args.config.now c.args.batch.now requests s t m base c.in_err-answers.field-0.0 o log marks _ a
    c.in_err-answers.ensures.left refused c.in_err-answers.ensures.book
    c.in_err-answers.ensures.cause (λ e. search rules)

pub replies_of-requires-clause-answers : goal.replies_of-requires-clause-answers
replies_of-requires-clause-answers g c =
    let d = g.D.LeaseDisk in
    let n : length c.deref-3.result.now ≡ length c.in_ok-answers.answers.items =
    ap (λ (l : List Answered). length l) c.deref-3.ensures.value in
    let k = serves-count d.tells d.seen d.moment d.left_since d.may_leave d.faults c.later-m.result
    c.later-told.result c.deref.result.now c.make_room.new.self.book c.ask.new.self.book
    c.in_ok-answers.answers.items c.in_ok-answers.ensures.served in
    n ∙ k ∙ ap (λ (l : List Ask). length l) c.deref.ensures.value

pub returns-in_err-replies-clause-stands : goal.returns-in_err-replies-clause-stands
returns-in_err-replies-clause-stands g c o log marks is stands =
    let d = g.D.LeaseDisk in
    let s0 = c.args.self.now in
    let s = c.make_room.new.self in
    let moved = c.make_room.ensures.moved in
    let ready : StandsFor d.tells d.seen d.moment d.left_since d.may_leave d.faults o s log marks =
    stands-moved d.tells d.seen d.moment d.left_since d.may_leave d.faults o s0 s log marks stands moved in
    let settled : s.book.fault ≡ None = ap (λ (x : Shard g.row.D.Denot). x.book.fault) moved.same
    ∙ c.requires.settled in
    let t = c.ask.new.self in
    let m = c.later-m.result in
    let base = c.later-told.result in
    let requests = c.in_ok-requests.requests in
    let at : m ≡ max c.args.now s.moment = c.later-m.ensures.value in
    let told : base ≡ max c.args.base s.base = c.later-told.ensures.value in
    let some : requests.asks.items ≢ [] = search rules in
    let a : IsAsked d.tells d.seen d.moment d.left_since d.may_leave d.faults c.args.config.now
    c.args.batch.now requests s m base o log marks =
    record {
      is = is;
      read = c.in_ok-requests.ensures;
      some = some;
      stands = ready;
      settled = settled;
      small = c.later-m.ensures.bound;
      later = omega arith;
      told = omega arith;
    } in
    let served =
    subst (λ (asks : List Ask). Serves d.tells d.moment d.left_since d.may_leave m base asks
    s.book t.book c.in_ok-answers.answers.items) c.deref.ensures.value
    c.in_ok-answers.ensures.served in
    answered-up d.tells d.seen d.moment d.left_since d.may_leave d.faults
    c.histories_grow.ensures.next c.entries_come_next.ensures.decisions
    c.histories_grow.ensures.greatest
    c.args.config.now c.args.batch.now requests s t
    (record t { unpushed = c.await_kept.new.waiting })
    m base c.in_ok-answers.answers.items o log marks _ a c.in_ok-answers.ensures.added served
    c.in_ok-answers.ensures.book c.in_ok-answers.ensures.cause
    refl (c.await_kept.ensures
    ∙ ap (λ (l : List Answered). t.unpushed.items ++ filter_map (λ (x : Answered). x.kept) l)
    c.deref-2.ensures.value)

pub returns-clause-stands : goal.returns-clause-stands
returns-clause-stands g c o log marks is stands =
    let d = g.D.LeaseDisk in
    let s0 = c.args.self.now in
    let s = c.make_room.new.self in
    let moved = c.make_room.ensures.moved in
    let ready : StandsFor d.tells d.seen d.moment d.left_since d.may_leave d.faults o s log marks =
    stands-moved d.tells d.seen d.moment d.left_since d.may_leave d.faults o s0 s log marks stands moved in
    let settled : s.book.fault ≡ None = ap (λ (x : Shard g.row.D.Denot). x.book.fault) moved.same
    ∙ c.requires.settled in
    let t = c.ask.new.self in
    let m = c.later-m.result in
    let base = c.later-told.result in
    let requests = c.in_ok-requests.requests in
    let at : m ≡ max c.args.now s.moment = c.later-m.ensures.value in
    let told : base ≡ max c.args.base s.base = c.later-told.ensures.value in
    let some : requests.asks.items ≢ [] = search rules in
    let a : IsAsked d.tells d.seen d.moment d.left_since d.may_leave d.faults c.args.config.now
    c.args.batch.now requests s m base o log marks =
    record {
      is = is;
      read = c.in_ok-requests.ensures;
      some = some;
      stands = ready;
      settled = settled;
      small = c.later-m.ensures.bound;
      later = omega arith;
      told = omega arith;
    } in
    let served =
    subst (λ (asks : List Ask). Serves d.tells d.moment d.left_since d.may_leave m base asks
    s.book t.book c.in_ok-answers.answers.items) c.deref.ensures.value
    c.in_ok-answers.ensures.served in
    answered-up d.tells d.seen d.moment d.left_since d.may_leave d.faults
    c.histories_grow.ensures.next c.entries_come_next.ensures.decisions
    c.histories_grow.ensures.greatest
    c.args.config.now c.args.batch.now requests s t
    (record t { unpushed = c.await_kept.new.waiting })
    m base c.in_ok-answers.answers.items o log marks _ a c.in_ok-answers.ensures.added served
    c.in_ok-answers.ensures.book c.in_ok-answers.ensures.cause
    refl (c.await_kept.ensures
    ∙ ap (λ (l : List Answered). t.unpushed.items ++ filter_map (λ (x : Answered). x.kept) l)
    c.deref-2.ensures.value)

pub returns-clause-answered : goal.returns-clause-answered
returns-clause-answered g c o log marks is stands =
    let d = g.D.LeaseDisk in
    let s0 = c.args.self.now in
    let s = c.make_room.new.self in
    let moved = c.make_room.ensures.moved in
    let ready : StandsFor d.tells d.seen d.moment d.left_since d.may_leave d.faults o s log marks =
    stands-moved d.tells d.seen d.moment d.left_since d.may_leave d.faults o s0 s log marks stands moved in
    let settled : s.book.fault ≡ None = ap (λ (x : Shard g.row.D.Denot). x.book.fault) moved.same
    ∙ c.requires.settled in
    let t = c.ask.new.self in
    let m = c.later-m.result in
    let base = c.later-told.result in
    let requests = c.in_ok-requests.requests in
    let at : m ≡ max c.args.now s.moment = c.later-m.ensures.value in
    let told : base ≡ max c.args.base s.base = c.later-told.ensures.value in
    let some : requests.asks.items ≢ [] = search rules in
    let a : IsAsked d.tells d.seen d.moment d.left_since d.may_leave d.faults c.args.config.now
    c.args.batch.now requests s m base o log marks =
    record {
      is = is;
      read = c.in_ok-requests.ensures;
      some = some;
      stands = ready;
      settled = settled;
      small = c.later-m.ensures.bound;
      later = omega arith;
      told = omega arith;
    } in
    let served =
    subst (λ (asks : List Ask). Serves d.tells d.moment d.left_since d.may_leave m base asks
    s.book t.book c.in_ok-answers.answers.items) c.deref.ensures.value
    c.in_ok-answers.ensures.served in
    let both = answered-so d.tells d.seen d.moment d.left_since d.may_leave d.faults
    c.histories_grow.ensures.greatest c.args.config.now c.args.batch.now requests s t c.args.now
    c.args.base m base
    c.in_ok-answers.answers.items o log marks at told a c.in_ok-answers.ensures.added served in
    record {
      adds = adds-moved d.tells d.seen d.moment d.left_since d.may_leave d.faults c.args.config.now
          c.args.now c.args.base c.args.batch.now s0 s t
          (record t { unpushed = c.await_kept.new.waiting }) moved both.0 refl;
      told = c.in_ok-replies.ensures
          ∙ ap (λ (l : List Answered). replies_to t.address
          (asked_in c.args.config.now c.args.batch.now) l) c.deref-3.ensures.value ∙ both.1;
    }

pub await_kept-requires : goal.await_kept-requires
await_kept-requires g c =
    let d = g.D.LeaseDisk in
    let asks = c.in_ok-requests.requests.asks in
    let n : length c.deref-2.result.now ≡ length c.in_ok-answers.answers.items =
    ap (λ (l : List Answered). length l) c.deref-2.ensures.value in
    let k = serves-count d.tells d.seen d.moment d.left_since d.may_leave d.faults c.later-m.result
    c.later-told.result c.deref.result.now c.make_room.new.self.book c.ask.new.self.book
    c.in_ok-answers.answers.items c.in_ok-answers.ensures.served in
    let q : length c.deref.result.now ≡ length asks.items =
    ap (λ (l : List Ask). length l) c.deref.ensures.value in
    let v : vec_len asks ≡ length asks.items = asks.ok.0 in
    let room = c.in_ok-make_room.ensures.room in
    let counted = c.len.ensures in
    let same : c.ask.new.self.unpushed ≡ c.make_room.new.self.unpushed =
    ap (λ (x : Shard g.row.D.Denot). x.unpushed) c.in_ok-answers.ensures.added in
    let small : vec_len c.make_room.new.self.unpushed + length c.deref-2.result.now
    ≤ vec_capacity c.make_room.new.self.unpushed = omega (arith, n, k, q, v, room, counted) in
    subst (λ u. vec_len u + length c.deref-2.result.now ≤ vec_capacity u) (sym same) small
