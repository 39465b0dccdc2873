use Rattle.std.specs.Prelude.{Err}
use Rattle.std.proofs.Common.{◌≡◌, ◌∙◌, ◌++◌, List, [], max, refl, ap, sym, subst, arith, rules}
use Rattle.pcp_base.specs.declared.records.Record.{Record}
use Rattle.lease_histories.specs.Legal.{records_of}
use Rattle.turned_shards.specs.declared.shards.Shard.{Shard}
use Rattle.turned_shards.specs.BatchEntries.{records_found}
use Rattle.turned_shards.specs.Inside.{settled_shard}
use Rattle.turned_shards.specs.ShardCalls.{faults_of}
use Rattle.turned_shards.specs.Shards.{StandsFor, marks_added}
use Rattle.turned_shards.proofs.BatchCalls.{fault-adds, moved-stands}
use Rattle.turned_shards.proofs.LaneLemmas.{stands-adding, stands-moved}
use Rattle.turned_shards.proofs.SettledLanes.{found-records, settled-unpushed, settled-writer}
use Rattle.turned_shards.proofs.SettledLanes.{settles-moved, stays-moved, stays-refused}
use Rattle.turned_shards.proofs.Settling.{refuses-settling, settles-shard}
use Rattle.turned_shards.proofs.shards.Shard.settle.Goals as goal

pub returns-in_err-unsure-clause-stands : goal.returns-in_err-unsure-clause-stands
returns-in_err-unsure-clause-stands g c o log marks stands =
    let d = g.D.LeaseDisk in
    moved-stands d.tells d.seen d.moment d.left_since d.may_leave d.faults c.args.self.now
    c.get_ready.new.self o log marks stands c.requires c.get_ready.ensures.moved

pub returns-in_err-unsure-clause-refused : goal.returns-in_err-unsure-clause-refused
returns-in_err-unsure-clause-refused g c =
    let d = g.D.LeaseDisk in
    let told : c.from_residual.result ≡ Err c.in_err-unsure.field-0.0 = search rules in
    rw told (stays-moved d.tells d.seen d.moment d.left_since d.may_leave d.faults c.args.self.now
    c.get_ready.new.self c.in_err-unsure.field-0.0 c.in_err-unsure.ensures.memory c.requires
    c.get_ready.ensures.moved)

pub returns-in-Ok-clause-stands : goal.returns-in-Ok-clause-stands
returns-in-Ok-clause-stands g c o log marks stands =
    let d = g.D.LeaseDisk in
    let s0 = c.args.self.now in
    let s = c.get_ready.new.self in
    let b = c.settle.new.self in
    let settled = c.in-Ok.settled in
    let unsure = c.in_ok-unsure.unsure in
    let moved = c.get_ready.ensures.moved in
    let ready : StandsFor d.tells d.seen d.moment d.left_since d.may_leave d.faults o s log marks =
    stands-moved d.tells d.seen d.moment d.left_since d.may_leave d.faults o s0 s log marks stands moved in
    let none : s.added ≡ [] = ap (λ (x : Shard g.row.D.Denot). x.added) moved.same ∙ c.requires in
    let m : c.later-m.result ≡ max c.args.now s.moment = c.later-m.ensures.value in
    let t : Shard g.row.D.Denot = settled_shard settled (record s { book = b }) in
    let same : c.take_in.new.self ≡ t = c.take_in.ensures in
    let w = c.await_found.new.waiting in
    let holds = settles-shard d.tells d.seen d.moment d.left_since d.may_leave d.faults
    c.histories_grow.ensures.next c.histories_grow.ensures.greatest
    c.entries_come_next.ensures.servers
    o s b log marks c.later-m.result _ settled ready none
    (omega arith) c.in-Ok.ensures.settled c.in-Ok.ensures.book c.in-Ok.ensures.cause in
    let copied : unsure.items ≡ s.book.unsure = c.in_ok-unsure.ensures.unsure
    ∙ sym (ap (λ (x : Shard g.row.D.Denot). x.book.unsure) moved.same) in
    let found = found-records d.tells d.seen d.moment d.left_since d.may_leave d.faults o s b log marks
    c.later-m.result unsure.items settled ready none c.in-Ok.ensures.settled copied in
    let waiting : w.items ≡ s.unpushed.items ++ records_of t.added =
    c.await_found.ensures
    ∙ ap (λ (x : Shard g.row.D.Denot). x.unpushed.items
    ++ records_found unsure.items settled.address settled.journal) same
    ∙ ap (λ v. v.items ++ records_found unsure.items settled.address settled.journal)
    (settled-unpushed settled (record s { book = b }))
    ∙ ap (λ (l : List Record). s.unpushed.items ++ l) found in
    subst (λ (x : Shard g.row.D.Denot). StandsFor d.tells d.seen d.moment d.left_since d.may_leave d.faults o
    (record x { unpushed = w }) (log ++ x.added) (marks ++ marks_added x)) (sym same)
    (stands-adding d.tells d.seen d.moment d.left_since d.may_leave d.faults o s t
    (record t { unpushed = w }) log marks t.added ready holds refl
    (settled-writer settled (record s { book = b })) waiting refl)

pub returns-in-Ok-clause-settled : goal.returns-in-Ok-clause-settled
returns-in-Ok-clause-settled g c =
    let d = g.D.LeaseDisk in
    let s = c.get_ready.new.self in
    let b = c.settle.new.self in
    let w = c.await_found.new.waiting in
    let x : Shard g.row.D.Denot = record s { book = b } in
    settles-moved d.tells d.seen d.moment d.left_since d.may_leave d.faults c.args.now
    c.later-m.result c.args.self.now s (record c.take_in.new.self { unpushed = w })
    b c.in-Ok.settled
    c.get_ready.ensures.moved c.requires c.later-m.ensures.value c.in-Ok.ensures.settled
    (ap (λ (y : Shard g.row.D.Denot). record y { unpushed = w }) c.take_in.ensures)

pub returns-in-Err-clause-stands : goal.returns-in-Err-clause-stands
returns-in-Err-clause-stands g c o log marks stands =
    let d = g.D.LeaseDisk in
    let s0 = c.args.self.now in
    let s = c.get_ready.new.self in
    let b = c.settle.new.self in
    let moved = c.get_ready.ensures.moved in
    let fault = c.in-Err.fault in
    let ready : StandsFor d.tells d.seen d.moment d.left_since d.may_leave d.faults o s log marks =
    stands-moved d.tells d.seen d.moment d.left_since d.may_leave d.faults o s0 s log marks stands moved in
    let t : Shard g.row.D.Denot = record s { book = b; added = faults_of s.moment s.base fault } in
    rw c.add_fault.ensures
    (fault-adds d.tells d.seen d.moment d.left_since d.may_leave d.faults o s t log marks fault ready
    (refuses-settling d.tells d.seen d.moment d.left_since d.may_leave d.faults
    c.histories_grow.ensures.next c.entries_come_next.ensures.faults
    o s b log marks fault _ ready c.in-Err.ensures.refused c.in-Err.ensures.book c.in-Err.ensures.cause
    (λ e. search rules)) refl refl refl)

pub returns-in-Err-clause-refused : goal.returns-in-Err-clause-refused
returns-in-Err-clause-refused g c =
    let d = g.D.LeaseDisk in
    stays-refused d.tells d.seen d.moment d.left_since d.may_leave d.faults c.args.self.now
    c.get_ready.new.self c.add_fault.new.self c.settle.new.self c.in-Err.fault
    c.get_ready.ensures.moved c.in-Err.ensures.refused c.add_fault.ensures
