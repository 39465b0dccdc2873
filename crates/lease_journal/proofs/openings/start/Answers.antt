use Rattle.std.proofs.Common.{◌≡◌, ◌∙◌, ◌<◌, ◌^◌, ap, length, arith, rules}
use Rattle.lease_disk.proofs.PairLemmas.{pair_started, pair_weaker}
use Rattle.journal_sides.specs.Journals.{IsStarting}
use Rattle.lease_journal.proofs.StartLaws.{blank_holds, replayed_start, start_batches, started_by, starts}
use Rattle.lease_journal.proofs.openings.start.Goals as goal

pub returns-in_err-text-clause-moments : goal.returns-in_err-text-clause-moments
returns-in_err-text-clause-moments g c = λ told durable blank.
    let d = g.D.LeaseDisk in
    pair_started d.moment d.left_since d.may_leave c.args.pair.now (IsStarting c.args.m) (blank_holds d.seen d.may_leave c.args.m c.args.pair.now durable blank)

pub returns-in_err-length-clause-moments : goal.returns-in_err-length-clause-moments
returns-in_err-length-clause-moments g c = λ told durable blank.
    let d = g.D.LeaseDisk in
    let pair = c.args.pair.now in
    let is = c.in_ok-text.ensures in
    let within : c.args.m < 2 ^ 40 = search rules in
    pair_weaker d.moment d.left_since d.may_leave pair c.begin_side.new.pair _ (IsStarting c.args.m) (c.begin_side.ensures.moments told 0 is.batches durable (start_batches c.args.m within c.in_ok-text.text.items is) (c.deref.ensures.value ∙ is.text)) (starts c.args.m within c.in_ok-text.text.items is (d.seen pair.a) (d.seen pair.b) blank)

pub returns-in_err-_fits-clause-moments : goal.returns-in_err-_fits-clause-moments
returns-in_err-_fits-clause-moments g c = λ told durable blank.
    let d = g.D.LeaseDisk in
    let pair = c.args.pair.now in
    let is = c.in_ok-text.ensures in
    let within : c.args.m < 2 ^ 40 = search rules in
    pair_weaker d.moment d.left_since d.may_leave pair c.begin_side.new.pair _ (IsStarting c.args.m) (c.in_ok-length.ensures.moments told 0 is.batches durable (start_batches c.args.m within c.in_ok-text.text.items is) (c.deref.ensures.value ∙ is.text)) (starts c.args.m within c.in_ok-text.text.items is (d.seen pair.a) (d.seen pair.b) blank)

pub returns-clause-moments : goal.returns-clause-moments
returns-clause-moments g c = λ told durable blank.
    let d = g.D.LeaseDisk in
    let pair = c.args.pair.now in
    let is = c.in_ok-text.ensures in
    let within : c.args.m < 2 ^ 40 = search rules in
    pair_weaker d.moment d.left_since d.may_leave pair c.begin_side.new.pair _ (IsStarting c.args.m) (c.in_ok-length.ensures.moments told 0 is.batches durable (start_batches c.args.m within c.in_ok-text.text.items is) (c.deref.ensures.value ∙ is.text)) (starts c.args.m within c.in_ok-text.text.items is (d.seen pair.a) (d.seen pair.b) blank)

pub returns-clause-replayed : goal.returns-clause-replayed
returns-clause-replayed g c =
    let within : c.args.m < 2 ^ 40 = search rules in
    replayed_start c.args.m within (g.R.Replay.state c.clear.new.self) (g.R.Replay.state c.admit.new.self) c.admit.result c.in_ok-_fits._fits (search rules) c.clear.ensures.empty c.admit.ensures.applied c.admit.ensures.refused

pub returns-clause-settled : goal.returns-clause-settled
returns-clause-settled g c = λ told durable blank.
    let d = g.D.LeaseDisk in
    let pair = c.args.pair.now in
    let new = c.begin_side.new.pair in
    let is = c.in_ok-text.ensures in
    let within : c.args.m < 2 ^ 40 = search rules in
    let text_is = c.deref.ensures.value ∙ is.text in
    let begun = c.in_ok-length.ensures.begun told 0 is.batches durable (start_batches c.args.m within c.in_ok-text.text.items is) text_is in
    let place : c.len.result ≡ length c.in_ok-text.text.items = search rules in
    record {
      sides = started_by c.args.m within c.in_ok-text.text.items is (d.seen pair.a) (d.seen pair.b) blank c.in_ok-length.length c.len.result (d.seen new.a) (d.seen new.b) place begun;
      durable = c.in_ok-length.ensures.durable told durable;
    }

pub returns-clause-reach : goal.returns-clause-reach
returns-clause-reach g c =
    let place : c.len.result ≡ length c.in_ok-text.text.items = search rules in
    record { ends = omega (arith, place, ap length c.deref.ensures.value, c.in_ok-length.ensures.within); long = c.in_ok-length.ensures.most }

pub returns-clause-left : goal.returns-clause-left
returns-clause-left g c = λ told durable.
    let is = c.in_ok-text.ensures in
    let within : c.args.m < 2 ^ 40 = search rules in
    (c.in_ok-length.ensures.begun told 0 is.batches durable (start_batches c.args.m within c.in_ok-text.text.items is) (c.deref.ensures.value ∙ is.text)).unchanged
