use Rattle.std.proofs.Common.{◌+◌, ◌≤◌, sym, subst, ◌∙◌, arith}
use Rattle.std.specs.Prelude.{OnOk}
use Rattle.pcp_base.specs.Fits.{AllFit}
use Rattle.pcp_base.specs.States.{State}
use Rattle.lease_disk.specs.Pairs.{PairLeavesOnly}
use Rattle.lease_disk.proofs.PairLemmas.{pair_goes_on}
use Rattle.journal_sides.specs.Journals.{StandsFor, StandsForWithOrWithout}
use Rattle.lease_journal.specs.Views.{JournalView}
use Rattle.journal_sides.specs.Frames.{frames_octets}
use Rattle.shard_book.proofs.JournalLemmas.{one_settled, without}
use Rattle.shard_book.proofs.ResultLemmas.{both_ok}
use Rattle.shard_book.proofs.committing.write.Goals as goal

pub compact_by-requires-clause-same : goal.compact_by-requires-clause-same
compact_by-requires-clause-same g c = λ told some s is.
    let d = g.D.LeaseDisk in
    let k = c.requires.known told in
    k.same some ∙ one_settled c.one_journal.ensures.state d.seen d.may_leave c.args.journal.now k.known s k.settled is

pub returns-in_err-compact_by-clause-moments : goal.returns-in_err-compact_by-clause-moments
returns-in_err-compact_by-clause-moments g c = λ told s is.
    let d = g.D.LeaseDisk in
    without d.moment d.left_since d.may_leave c.args.journal.now.pair c.compact_by.new.journal.pair s c.args.records.now (c.compact_by.ensures.moments told s is)

pub returns-in_err-compact_by-clause-before : goal.returns-in_err-compact_by-clause-before
returns-in_err-compact_by-clause-before g c = λ told s is e. c.compact_by.ensures.moments told s is

pub append_all-requires-clause-fit : goal.append_all-requires-clause-fit
append_all-requires-clause-fit g c = λ told s is.
    let d = g.D.LeaseDisk in
    let k = c.requires.known told in
    subst (λ (t : State). AllFit t c.args.records.now) (one_settled c.one_journal.ensures.state d.seen d.may_leave c.compact_by.new.journal k.known s (c.in_ok-compact_by.ensures.settled told k.known k.settled) is) k.fit

pub returns-clause-moments : goal.returns-clause-moments
returns-clause-moments g c = λ told s is.
    let d = g.D.LeaseDisk in
    pair_goes_on d.moment d.left_since d.may_leave c.args.journal.now.pair c.compact_by.new.journal.pair c.append_all.new.journal.pair (StandsForWithOrWithout s c.args.records.now)
    (without d.moment d.left_since d.may_leave c.args.journal.now.pair c.compact_by.new.journal.pair s c.args.records.now (c.compact_by.ensures.moments told s is))
    (c.append_all.ensures.moments told s (c.in_ok-compact_by.ensures.settled told s is))

pub returns-clause-before : goal.returns-clause-before
returns-clause-before g c = λ told s is e.
    let d = g.D.LeaseDisk in
    subst (λ (j : JournalView g.row.D.Denot). PairLeavesOnly d.moment d.left_since d.may_leave c.args.journal.now.pair j.pair (StandsFor s)) (sym (c.append_all.ensures.memory e)) (c.compact_by.ensures.moments told s is)

pub returns-clause-grown : goal.returns-clause-grown
returns-clause-grown g c = λ told s is none.
    subst (λ (j : JournalView g.row.D.Denot). OnOk c.append_all.result (c.append_all.new.journal.standing.length ≤ j.standing.length + frames_octets c.args.records.now)) (c.compact_by.ensures.idle none) (c.append_all.ensures.grown told s (c.in_ok-compact_by.ensures.settled told s is))

pub returns-clause-short : goal.returns-clause-short
returns-clause-short g c = λ told s is some.
    let first = c.in_ok-compact_by.ensures.short some in
    both_ok c.append_all.result _ _ _ (c.append_all.ensures.grown told s (c.in_ok-compact_by.ensures.settled told s is)) c.append_all.ensures.first_length (λ grown kept. omega (arith, grown, kept, first))
