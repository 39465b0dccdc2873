use Rattle.std.proofs.Common.{◌≡◌, length, sym, subst, ◌∙◌, ap, arith}
use Rattle.pcp_base.specs.Apply.{state_of}
use Rattle.pcp_base.specs.Fits.{AllFit}
use Rattle.pcp_base.specs.Snapshots.{snapshot}
use Rattle.pcp_base.specs.States.{empty_state}
use Rattle.journal_sides.specs.Texts.{records_in}
use Rattle.shard_book.specs.KeptTexts.{KeptRecords}
use Rattle.shard_book.proofs.JournalLemmas.{one_settled, still_settled, writable_ok}
use Rattle.shard_book.proofs.committing.use_second.Goals as goal

pub returns-then-format-eq2-clause-moments : goal.returns-then-format-eq2-clause-moments
returns-then-format-eq2-clause-moments g c = λ told.
    let d = g.D.LeaseDisk in
    still_settled d.seen d.may_leave d.moment d.left_since c.args.journal.now (g.S.LeaseStore.state c.args.core.now) (c.requires.settled told)

pub returns-in_err-texts-clause-moments : goal.returns-in_err-texts-clause-moments
returns-in_err-texts-clause-moments g c = λ told.
    let d = g.D.LeaseDisk in
    still_settled d.seen d.may_leave d.moment d.left_since c.args.journal.now (g.S.LeaseStore.state c.args.core.now) (c.requires.settled told)

pub compact-requires-clause-some : goal.compact-requires-clause-some
compact-requires-clause-some g c =
    let whole : records_in c.sure.result.now ≡ snapshot (g.S.LeaseStore.state c.args.core.now) = c.sure.ensures.records ∙ ap (λ (k : KeptRecords). k.sure) c.in_ok-texts.ensures in
    omega (arith, ap length whole)

pub compact-requires-clause-fit : goal.compact-requires-clause-fit
compact-requires-clause-fit g c = λ told.
    let s = g.S.LeaseStore.state c.args.core.now in
    let whole : records_in c.sure.result.now ≡ snapshot s = c.sure.ensures.records ∙ ap (λ (k : KeptRecords). k.sure) c.in_ok-texts.ensures in
    subst (AllFit empty_state) (sym whole) (c.snapshots_stand.ensures s c.requires.reached c.requires.started).0

pub compact-requires-clause-same : goal.compact-requires-clause-same
compact-requires-clause-same g c = λ told t is.
    let d = g.D.LeaseDisk in
    let s = g.S.LeaseStore.state c.args.core.now in
    let whole : records_in c.sure.result.now ≡ snapshot s = c.sure.ensures.records ∙ ap (λ (k : KeptRecords). k.sure) c.in_ok-texts.ensures in
    ap state_of whole ∙ (c.snapshots_stand.ensures s c.requires.reached c.requires.started).1 ∙ one_settled c.one_journal.ensures.state d.seen d.may_leave c.args.journal.now s t (c.requires.settled told) is

pub returns-clause-writable : goal.returns-clause-writable
returns-clause-writable g c =
    let d = g.D.LeaseDisk in
    let s = g.S.LeaseStore.state c.args.core.now in
    writable_ok c.compact.result d.tells d.seen d.may_leave c.compact.new.self s c.compact.ensures.ready c.compact.ensures.format (λ told. c.compact.ensures.settled told s (c.requires.settled told))

pub returns-clause-moments : goal.returns-clause-moments
returns-clause-moments g c = λ told. c.compact.ensures.moments told (g.S.LeaseStore.state c.args.core.now) (c.requires.settled told)
