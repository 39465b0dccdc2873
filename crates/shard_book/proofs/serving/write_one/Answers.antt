use Rattle.std.proofs.Common.{◌≡◌, ◌≤◌, ◌++◌, List, [], length, subst, sym, ◌∙◌, ap}
use Rattle.std.specs.List.{AllByRecursion}
use Rattle.pcp_base.specs.declared.records.Record.{Record}
use Rattle.pcp_base.specs.Apply.{apply_all, state_of}
use Rattle.pcp_base.specs.Fits.{AllFit}
use Rattle.pcp_base.specs.Records.{IsWellFormedRecord}
use Rattle.pcp_base.specs.Snapshots.{snapshot}
use Rattle.pcp_base.specs.States.{State}
use Rattle.lease_core.specs.Decide.{decide}
use Rattle.lease_disk.specs.Pairs.{PairLeavesOnly}
use Rattle.journal_sides.specs.declared.layout.TheConstants.{MOST_APPENDED}
use Rattle.journal_sides.specs.Journals.{StandsForWithOrWithout}
use Rattle.shard_book.specs.Batches.{kept_before}
use Rattle.shard_book.specs.Books.{IsWritable}
use Rattle.shard_book.specs.Insides.{StandAlone}
use Rattle.shard_book.specs.Keepings.{Journals, unsure_after}
use Rattle.shard_book.specs.KeptTexts.{KeptRecords}
use Rattle.shard_book.proofs.BookLemmas.{stand_more}
use Rattle.shard_book.proofs.DecisionLemmas.{few_one, fit_kept, kept_slice, kept_state}
use Rattle.shard_book.proofs.JournalLemmas.{still_settled, without}
use Rattle.shard_book.proofs.OverlongLemmas.{journals_by, journals_stay, overlong_next}
use Rattle.shard_book.proofs.ResultLemmas.{any_err, at_ok}
use Rattle.shard_book.proofs.StateLemmas.{formed_all}
use Rattle.shard_book.proofs.serving.write_one.Goals as goal

pub returns-in_err-anew-clause-refused_moments : goal.returns-in_err-anew-clause-refused_moments
returns-in_err-anew-clause-refused_moments g c = λ told.
    let d = g.D.LeaseDisk in
    let j = c.args.journal.now in
    let s = g.S.LeaseStore.state c.args.core.now in
    let rs = kept_before (decide (g.S.LeaseStore.terms c.args.core.now) s c.args.m c.args.ask.now).kept [] in
    any_err c.from_residual.result _ (λ fault. without d.moment d.left_since d.may_leave j.pair j.pair s (unsure_after fault rs) (still_settled d.seen d.may_leave d.moment d.left_since j s (c.requires.writable.settled told)))

pub returns-in_err-answer-clause-refused_moments : goal.returns-in_err-answer-clause-refused_moments
returns-in_err-answer-clause-refused_moments g c = λ told.
    let d = g.D.LeaseDisk in
    let j = c.args.journal.now in
    let s = g.S.LeaseStore.state c.args.core.now in
    let rs = kept_before (decide (g.S.LeaseStore.terms c.args.core.now) s c.args.m c.args.ask.now).kept [] in
    any_err c.from_residual-in_err-answer.result _ (λ fault. without d.moment d.left_since d.may_leave j.pair j.pair s (unsure_after fault rs) (still_settled d.seen d.may_leave d.moment d.left_since j s (c.requires.writable.settled told)))

pub returns-in_err-add-clause-refused_moments : goal.returns-in_err-add-clause-refused_moments
returns-in_err-add-clause-refused_moments g c = λ told.
    let d = g.D.LeaseDisk in
    let j = c.args.journal.now in
    let s = g.S.LeaseStore.state c.args.core.now in
    let rs = kept_before (decide (g.S.LeaseStore.terms c.args.core.now) s c.args.m c.args.ask.now).kept [] in
    any_err c.from_residual-in_err-add.result _ (λ fault. without d.moment d.left_since d.may_leave j.pair j.pair s (unsure_after fault rs) (still_settled d.seen d.may_leave d.moment d.left_since j s (c.requires.writable.settled told)))

pub returns-clause-state : goal.returns-clause-state
returns-clause-state g c =
    let s = g.S.LeaseStore.state c.args.core.now in
    let kept = (decide (g.S.LeaseStore.terms c.args.core.now) s c.args.m c.args.ask.now).kept in
    kept_state _ s kept c.in_ok-answer.ensures.state

pub returns-then-is_idle-clause-state : goal.returns-then-is_idle-clause-state
returns-then-is_idle-clause-state g c =
    let s = g.S.LeaseStore.state c.args.core.now in
    let kept = (decide (g.S.LeaseStore.terms c.args.core.now) s c.args.m c.args.ask.now).kept in
    kept_state _ s kept c.in_ok-answer.ensures.state

pub returns-then-is_idle-clause-texts : goal.returns-then-is_idle-clause-texts
returns-then-is_idle-clause-texts g c =
    let s = g.S.LeaseStore.state c.args.core.now in
    let kept = (decide (g.S.LeaseStore.terms c.args.core.now) s c.args.m c.args.ask.now).kept in
    let told : c.as_slice-records.result.now ≡ kept_before kept [] = kept_slice _ kept _ c.as_slice-records.ensures c.decide_applied.ensures.kept in
    let same : g.S.LeaseStore.state c.decide_applied.new.core ≡ s = kept_state _ s kept c.in_ok-answer.ensures.state ∙ ap (λ (l : List Record). apply_all s l) (sym told ∙ (c.is_idle.ensures.0 c.if-is_idle.true).1) in
    subst (StandAlone c.renew_if_overlong.new.texts.sure) (sym same) (record { fit = c.renew_if_overlong.ensures.fit; state = c.renew_if_overlong.ensures.state })

pub returns-then-is_idle-clause-writable : goal.returns-then-is_idle-clause-writable
returns-then-is_idle-clause-writable g c =
    let d = g.D.LeaseDisk in
    let s = g.S.LeaseStore.state c.args.core.now in
    let kept = (decide (g.S.LeaseStore.terms c.args.core.now) s c.args.m c.args.ask.now).kept in
    let told : c.as_slice-records.result.now ≡ kept_before kept [] = kept_slice _ kept _ c.as_slice-records.ensures c.decide_applied.ensures.kept in
    let same : g.S.LeaseStore.state c.decide_applied.new.core ≡ s = kept_state _ s kept c.in_ok-answer.ensures.state ∙ ap (λ (l : List Record). apply_all s l) (sym told ∙ (c.is_idle.ensures.0 c.if-is_idle.true).1) in
    subst (IsWritable d.tells d.seen d.may_leave c.args.journal.now) (sym same) c.requires.writable

pub returns-then-is_idle-clause-moments : goal.returns-then-is_idle-clause-moments
returns-then-is_idle-clause-moments g c = λ told.
    let d = g.D.LeaseDisk in
    let j = c.args.journal.now in
    let s = g.S.LeaseStore.state c.args.core.now in
    let kept = (decide (g.S.LeaseStore.terms c.args.core.now) s c.args.m c.args.ask.now).kept in
    without d.moment d.left_since d.may_leave j.pair j.pair s (kept_before kept []) (still_settled d.seen d.may_leave d.moment d.left_since j s (c.requires.writable.settled told))

pub returns-then-is_idle-clause-journal : goal.returns-then-is_idle-clause-journal
returns-then-is_idle-clause-journal g c =
    let kept = (decide (g.S.LeaseStore.terms c.args.core.now) (g.S.LeaseStore.state c.args.core.now) c.args.m c.args.ask.now).kept in
    journals_stay g.D.LeaseDisk.tells (kept_before kept []) c.args.journal.now (sym c.in_ok-anew.ensures.overlong ∙ (c.is_idle.ensures.0 c.if-is_idle.true).0)

pub add-requires : goal.add-requires
add-requires g c =
    let s = g.S.LeaseStore.state c.args.core.now in
    let kept = (decide (g.S.LeaseStore.terms c.args.core.now) s c.args.m c.args.ask.now).kept in
    let told : c.as_slice-records.result.now ≡ kept_before kept [] = kept_slice _ kept _ c.as_slice-records.ensures c.decide_applied.ensures.kept in
    subst (AllByRecursion IsWellFormedRecord) (sym told) (formed_all s (kept_before kept []) (fit_kept s [] kept tt c.decide_applied.ensures.fits))

pub commit-requires-clause-few : goal.commit-requires-clause-few
commit-requires-clause-few g c =
    let s = g.S.LeaseStore.state c.args.core.now in
    let kept = (decide (g.S.LeaseStore.terms c.args.core.now) s c.args.m c.args.ask.now).kept in
    let told : c.as_slice-records.result.now ≡ kept_before kept [] = kept_slice _ kept _ c.as_slice-records.ensures c.decide_applied.ensures.kept in
    subst (λ (l : List Record). length l ≤ MOST_APPENDED) (sym told) (few_one kept)

pub commit-requires-clause-fit : goal.commit-requires-clause-fit
commit-requires-clause-fit g c =
    let s = g.S.LeaseStore.state c.args.core.now in
    let kept = (decide (g.S.LeaseStore.terms c.args.core.now) s c.args.m c.args.ask.now).kept in
    let told : c.as_slice-records.result.now ≡ kept_before kept [] = kept_slice _ kept _ c.as_slice-records.ensures c.decide_applied.ensures.kept in
    let first : state_of c.add.new.self.sure ≡ s = ap (λ (k : KeptRecords). state_of k.sure) c.in_ok-add.ensures.ok ∙ c.renew_if_overlong.ensures.state in
    subst (λ (u : State). AllFit u c.as_slice-records.result.now) (sym first) (subst (AllFit s) (sym told) (fit_kept s [] kept tt c.decide_applied.ensures.fits))

pub commit-requires-clause-snapshot : goal.commit-requires-clause-snapshot
commit-requires-clause-snapshot g c = λ anew.
    let same : c.add.new.self.sure ≡ c.renew_if_overlong.new.texts.sure = ap (λ (k : KeptRecords). k.sure) c.in_ok-add.ensures.ok in
    same ∙ c.in_ok-anew.ensures.snapshot anew ∙ ap snapshot (sym (ap state_of same ∙ c.renew_if_overlong.ensures.state))

pub commit-requires-clause-next : goal.commit-requires-clause-next
commit-requires-clause-next g c = λ anew. overlong_next c.args.journal.now (sym c.in_ok-anew.ensures.overlong ∙ anew)

pub returns-clause-texts : goal.returns-clause-texts
returns-clause-texts g c =
    let s = g.S.LeaseStore.state c.args.core.now in
    let kept = (decide (g.S.LeaseStore.terms c.args.core.now) s c.args.m c.args.ask.now).kept in
    let rs = kept_before kept [] in
    let first = c.renew_if_overlong.new.texts.sure in
    let told : c.as_slice-records.result.now ≡ rs = kept_slice _ kept _ c.as_slice-records.ensures c.decide_applied.ensures.kept in
    let applied : g.S.LeaseStore.state c.decide_applied.new.core ≡ apply_all s rs = kept_state _ s kept c.in_ok-answer.ensures.state in
    let stand : StandAlone first s = record { fit = c.renew_if_overlong.ensures.fit; state = c.renew_if_overlong.ensures.state } in
    let sure : c.add.new.self.sure ≡ first = ap (λ (k : KeptRecords). k.sure) c.in_ok-add.ensures.ok in
    let whole : c.commit.new.texts.sure ≡ first ++ rs = ap (λ (k : KeptRecords). k.sure) c.in_ok-commit.ensures.kept ∙ ap (λ (l : List Record). l ++ c.as_slice-records.result.now) sure ∙ ap (λ (l : List Record). first ++ l) told in
    subst (λ (l : List Record). StandAlone l (g.S.LeaseStore.state c.decide_applied.new.core)) (sym whole) (subst (StandAlone (first ++ rs)) (sym applied) (stand_more first s rs stand (fit_kept s [] kept tt c.decide_applied.ensures.fits)))

pub returns-clause-writable : goal.returns-clause-writable
returns-clause-writable g c =
    let d = g.D.LeaseDisk in
    let s = g.S.LeaseStore.state c.args.core.now in
    let kept = (decide (g.S.LeaseStore.terms c.args.core.now) s c.args.m c.args.ask.now).kept in
    let told : c.as_slice-records.result.now ≡ kept_before kept [] = kept_slice _ kept _ c.as_slice-records.ensures c.decide_applied.ensures.kept in
    let first : state_of c.add.new.self.sure ≡ s = ap (λ (k : KeptRecords). state_of k.sure) c.in_ok-add.ensures.ok ∙ c.renew_if_overlong.ensures.state in
    let applied : g.S.LeaseStore.state c.decide_applied.new.core ≡ apply_all s (kept_before kept []) = kept_state _ s kept c.in_ok-answer.ensures.state in
    subst (IsWritable d.tells d.seen d.may_leave c.commit.new.journal) (ap (λ (u : State). apply_all u c.as_slice-records.result.now) first ∙ ap (λ (l : List Record). apply_all s l) told ∙ sym applied) c.in_ok-commit.ensures.writable

pub returns-clause-moments : goal.returns-clause-moments
returns-clause-moments g c = λ tells.
    let d = g.D.LeaseDisk in
    let s = g.S.LeaseStore.state c.args.core.now in
    let kept = (decide (g.S.LeaseStore.terms c.args.core.now) s c.args.m c.args.ask.now).kept in
    let told : c.as_slice-records.result.now ≡ kept_before kept [] = kept_slice _ kept _ c.as_slice-records.ensures c.decide_applied.ensures.kept in
    let first : state_of c.add.new.self.sure ≡ s = ap (λ (k : KeptRecords). state_of k.sure) c.in_ok-add.ensures.ok ∙ c.renew_if_overlong.ensures.state in
    subst (λ (l : List Record). PairLeavesOnly d.moment d.left_since d.may_leave c.args.journal.now.pair c.commit.new.journal.pair (StandsForWithOrWithout s l)) told
    (subst (λ (u : State). PairLeavesOnly d.moment d.left_since d.may_leave c.args.journal.now.pair c.commit.new.journal.pair (StandsForWithOrWithout u c.as_slice-records.result.now)) first (c.commit.ensures.moments tells))

pub returns-clause-journal : goal.returns-clause-journal
returns-clause-journal g c =
    let d = g.D.LeaseDisk in
    let old = c.args.journal.now in
    let new = c.commit.new.journal in
    let kept = (decide (g.S.LeaseStore.terms c.args.core.now) (g.S.LeaseStore.state c.args.core.now) c.args.m c.args.ask.now).kept in
    let told : c.as_slice-records.result.now ≡ kept_before kept [] = kept_slice _ kept _ c.as_slice-records.ensures c.decide_applied.ensures.kept in
    subst (λ (l : List Record). Journals d.tells l old new) told
    (journals_by d.tells c.as_slice-records.result.now old new c.in_ok-anew.anew c.in_ok-anew.ensures.overlong c.commit.ensures.idle
    (λ e. at_ok _ _ _ c.in_ok-commit.was (c.commit.ensures.plain e)) (λ e. at_ok _ _ _ c.in_ok-commit.was (c.commit.ensures.plain_first e))
    (λ told e. at_ok _ _ _ c.in_ok-commit.was (c.commit.ensures.grown told e))
    (λ e. at_ok _ _ _ c.in_ok-commit.was (c.commit.ensures.compacted e)) (λ told e. at_ok _ _ _ c.in_ok-commit.was (c.commit.ensures.short told e)))
