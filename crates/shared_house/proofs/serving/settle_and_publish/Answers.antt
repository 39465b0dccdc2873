use Rattle.std.proofs.Common.{◌∙◌, Err, Ok, Result, ap, subst, sym}
use Rattle.turned_shards.specs.declared.shards.Shard.{Shard}
use Rattle.shared_house.specs.HeldCalls.{raised_to}
use Rattle.shared_house.proofs.HeldLemmas.{if-err-weaker, marks-nothing, on-ok, settles-on}
use Rattle.shared_house.proofs.HeldLemmas.{unsettled-held}
use Rattle.shared_house.proofs.HeldLemmas.{unshown-held}
use Rattle.lease_disk.specs.Pairs.{PairIsQuiet}
use Rattle.journal_sides.specs.declared.errors.JournalFault.{JournalFault}
use Rattle.journal_sides.specs.Quiet.{UnlessDisk}
use Rattle.shared_house.proofs.serving.settle_and_publish.Goals as goal

pub returns-in-Ok-clause-epoch : goal.returns-in-Ok-clause-epoch
returns-in-Ok-clause-epoch g c =
    let e = c.in-Ok.ensures in
    e.epoch ∙ ap (λ (x : Shard g.row.D.Denot). raised_to x.book.state.base c.args.pass.now.epoch)
    (sym c.publish_rest.ensures.same)

pub returns-in-Ok-clause-settled : goal.returns-in-Ok-clause-settled
returns-in-Ok-clause-settled g c =
    let d = g.D.LeaseDisk in
    let o = c.args.turn.now.key in
    on-ok c.publish_rest.result _
    (settles-on d.tells d.seen d.moment d.left_since d.may_leave d.faults o c.args.now
    c.args.pass.now c.settle_held.new.pass c.settle_held.new.held c.publish_rest.new.held
    c.publish_rest.ensures.same c.in-Ok.ensures.settled)

pub returns-in-Ok-clause-refused : goal.returns-in-Ok-clause-refused
returns-in-Ok-clause-refused g c own up =
    let d = g.D.LeaseDisk in
    let o = c.args.turn.now.key in
    let e = c.in-Ok.ensures in
    if-err-weaker c.publish_rest.result _ _ c.publish_rest.ensures.memory (λ fault is.
    unshown-held d.tells d.seen d.moment d.left_since d.may_leave d.faults o c.args.now
    c.settle_held.new.held c.args.pass.now c.settle_held.new.pass own up fault is e.settled
    e.held.stands e.epoch)

pub returns-in-Err-clause-refused : goal.returns-in-Err-clause-refused
returns-in-Err-clause-refused g c own up =
    let d = g.D.LeaseDisk in
    let o = c.args.turn.now.key in
    let q = c.settle_held.new.pass in
    let e = c.in-Err.ensures in
    unsettled-held d.tells d.seen d.moment d.left_since d.may_leave d.faults o c.args.now
    c.args.held.now c.settle_held.new.held c.args.pass.now q own up c.in-Err.fault
    c.requires.held.stands e.refused e.epoch e.same

-- what holds whatever the answer is
unless-always : {T A : Type 0} (result : Result T JournalFault) → A → UnlessDisk result A
unless-always (Ok x) always = record { done = always; starved = λ is. always }
unless-always (Err fault) always = record { done = tt; starved = λ is. always }

pub returns-in-Ok-clause-quiet : goal.returns-in-Ok-clause-quiet
returns-in-Ok-clause-quiet g c =
    unless-always c.publish_rest.result
    (subst (λ (s : Shard g.row.D.Denot). PairIsQuiet g.D.LeaseDisk.faults
    c.args.held.now.book.journal.pair s.book.journal.pair)
    (sym c.publish_rest.ensures.same) c.in-Ok.ensures.quiet.done)

pub returns-in-Ok-clause-marked : goal.returns-in-Ok-clause-marked
returns-in-Ok-clause-marked g c wanted =
    let d = g.D.LeaseDisk in
    if-err-weaker c.publish_rest.result _ _ c.publish_rest.ensures.memory (λ fault is.
    marks-nothing d.tells d.seen d.moment d.left_since d.may_leave d.faults c.args.turn.now.key
    c.settle_held.new.pass wanted fault is)
