use Rattle.std.proofs.Common.{◌∷◌, [], List, sym, subst}
use Rattle.std.specs.List.{AllByRecursion}
use Rattle.pcp_base.specs.declared.records.Record.{Record}
use Rattle.pcp_base.specs.Apply.{apply_all}
use Rattle.pcp_base.specs.Fits.{AllFit}
use Rattle.pcp_base.specs.Records.{IsWellFormedRecord}
use Rattle.pcp_base.specs.States.{State}
use Rattle.std.specs.Prelude.{OnOk}
use Rattle.lease_disk.specs.Pairs.{PairLeavesOnly}
use Rattle.journal_sides.specs.Journals.{StandsForWithOrWithout}
use Rattle.lease_journal.specs.Views.{IsSettled}
use Rattle.shard_book.specs.Keepings.{IsAppended}
use Rattle.shard_book.proofs.JournalLemmas.{appended_ok, one_settled, still_settled, without, writable_ok}
use Rattle.shard_book.proofs.committing.keep.Goals as goal

pub append_all-requires-clause-formed : goal.append_all-requires-clause-formed
append_all-requires-clause-formed g c = subst (AllByRecursion IsWellFormedRecord) (sym c.from_ref.ensures.value) (c.requires.fits.formed, tt)

pub append_all-requires-clause-fit : goal.append_all-requires-clause-fit
append_all-requires-clause-fit g c = λ told s is.
    let d = g.D.LeaseDisk in
    let same = one_settled c.one_journal.ensures.state d.seen d.may_leave c.args.journal.now (g.S.LeaseStore.state c.args.core.now) s (c.requires.writable.settled told) is in
    subst (AllFit s) (sym c.from_ref.ensures.value) (subst (λ (t : State). AllFit t (c.args.kept.now ∷ [])) same (c.requires.fits, tt))

pub returns-in_err-apply-clause-moments : goal.returns-in_err-apply-clause-moments
returns-in_err-apply-clause-moments g c = λ told.
    let d = g.D.LeaseDisk in
    let s = g.S.LeaseStore.state c.args.core.now in
    let j = c.args.journal.now in
    without d.moment d.left_since d.may_leave j.pair j.pair s (c.args.kept.now ∷ []) (still_settled d.seen d.may_leave d.moment d.left_since j s (c.requires.writable.settled told))

pub returns-clause-writable : goal.returns-clause-writable
returns-clause-writable g c =
    let d = g.D.LeaseDisk in
    let s = g.S.LeaseStore.state c.args.core.now in
    writable_ok c.append_all.result d.tells d.seen d.may_leave c.append_all.new.journal _ c.append_all.ensures.read c.append_all.ensures.second
    (λ told. subst (λ (l : List Record). OnOk c.append_all.result (IsSettled d.seen d.may_leave c.append_all.new.journal (apply_all s l))) c.from_ref.ensures.value (c.append_all.ensures.settled told s (c.requires.writable.settled told)))

pub returns-clause-moments : goal.returns-clause-moments
returns-clause-moments g c = λ told.
    let d = g.D.LeaseDisk in
    let s = g.S.LeaseStore.state c.args.core.now in
    subst (λ (l : List Record). PairLeavesOnly d.moment d.left_since d.may_leave c.args.journal.now.pair c.append_all.new.journal.pair (StandsForWithOrWithout s l)) c.from_ref.ensures.value (c.append_all.ensures.moments told s (c.requires.writable.settled told))

pub returns-clause-appended : goal.returns-clause-appended
returns-clause-appended g c =
    let d = g.D.LeaseDisk in
    let s = g.S.LeaseStore.state c.args.core.now in
    let old = c.args.journal.now in
    let new = c.append_all.new.journal in
    let first = c.append_all.ensures in
    subst (λ (l : List Record). OnOk c.append_all.result (IsAppended d.tells d.seen l old new)) c.from_ref.ensures.value
    (appended_ok c.append_all.result d.tells d.seen c.from_ref.result.now old new first.idle first.side first.generation first.first_length first.beside (λ told. first.grown told s (c.requires.writable.settled told)))
