use Rattle.std.proofs.Common.{◌≡◌, ◌++◌, List, [], false, refl, subst, sym, ◌∙◌, ap, arith}
use Rattle.std.specs.List.{AllByRecursion}
use Rattle.pcp_base.specs.declared.records.Record.{Record}
use Rattle.pcp_base.specs.Apply.{apply_all, state_of}
use Rattle.pcp_base.specs.Records.{IsWellFormedRecord}
use Rattle.pcp_base.specs.Snapshots.{snapshot}
use Rattle.pcp_base.specs.States.{State}
use Rattle.lease_disk.specs.Pairs.{PairLeavesOnly}
use Rattle.journal_sides.specs.Journals.{StandsForWithOrWithout}
use Rattle.shard_book.specs.Batches.{decide_all, records_kept}
use Rattle.shard_book.specs.Books.{IsWritable}
use Rattle.shard_book.specs.Insides.{StandAlone}
use Rattle.shard_book.specs.Keepings.{Journals, unsure_after}
use Rattle.shard_book.specs.KeptTexts.{KeptRecords}
use Rattle.shard_book.proofs.BookLemmas.{stand_more}
use Rattle.shard_book.proofs.JournalLemmas.{still_settled, without}
use Rattle.shard_book.proofs.OverlongLemmas.{journals_by, journals_stay, overlong_next}
use Rattle.shard_book.proofs.ResultLemmas.{any_err, at_ok}
use Rattle.shard_book.proofs.StateLemmas.{formed_all}
use Rattle.shard_book.proofs.serving.write_batch.Goals as goal

pub returns-in_err-anew-clause-refused_moments : goal.returns-in_err-anew-clause-refused_moments
returns-in_err-anew-clause-refused_moments g c = λ told.
    let d = g.D.LeaseDisk in
    let j = c.args.journal.now in
    let s = g.S.LeaseStore.state c.args.core.now in
    any_err c.from_residual.result _ (λ fault. without d.moment d.left_since d.may_leave j.pair j.pair s (unsure_after fault (records_kept (decide_all (g.S.LeaseStore.terms c.args.core.now) s c.args.m c.args.asks.now))) (still_settled d.seen d.may_leave d.moment d.left_since j s (c.requires.writable.settled told)))

pub returns-in_err-batch-clause-refused_moments : goal.returns-in_err-batch-clause-refused_moments
returns-in_err-batch-clause-refused_moments g c = λ told.
    let d = g.D.LeaseDisk in
    let j = c.args.journal.now in
    let s = g.S.LeaseStore.state c.args.core.now in
    any_err c.from_residual-in_err-batch.result _ (λ fault. without d.moment d.left_since d.may_leave j.pair j.pair s (unsure_after fault (records_kept (decide_all (g.S.LeaseStore.terms c.args.core.now) s c.args.m c.args.asks.now))) (still_settled d.seen d.may_leave d.moment d.left_since j s (c.requires.writable.settled told)))

pub returns-in_err-add-clause-refused_moments : goal.returns-in_err-add-clause-refused_moments
returns-in_err-add-clause-refused_moments g c = λ told.
    let d = g.D.LeaseDisk in
    let j = c.args.journal.now in
    let s = g.S.LeaseStore.state c.args.core.now in
    any_err c.from_residual-in_err-add.result _ (λ fault. without d.moment d.left_since d.may_leave j.pair j.pair s (unsure_after fault (records_kept (decide_all (g.S.LeaseStore.terms c.args.core.now) s c.args.m c.args.asks.now))) (still_settled d.seen d.may_leave d.moment d.left_since j s (c.requires.writable.settled told)))

pub returns-then-is_idle-clause-texts : goal.returns-then-is_idle-clause-texts
returns-then-is_idle-clause-texts g c =
    let s = g.S.LeaseStore.state c.args.core.now in
    let same : g.S.LeaseStore.state c.decide_batch.new.core ≡ s = c.in_ok-batch.ensures.state ∙ ap (λ (l : List Record). apply_all s l) (sym c.deref.ensures.value ∙ (c.is_idle.ensures.0 c.if-is_idle.true).1) in
    subst (StandAlone c.renew_if_overlong.new.texts.sure) (sym same) (record { fit = c.renew_if_overlong.ensures.fit; state = c.renew_if_overlong.ensures.state })

pub returns-then-is_idle-clause-writable : goal.returns-then-is_idle-clause-writable
returns-then-is_idle-clause-writable g c =
    let d = g.D.LeaseDisk in
    let s = g.S.LeaseStore.state c.args.core.now in
    let same : g.S.LeaseStore.state c.decide_batch.new.core ≡ s = c.in_ok-batch.ensures.state ∙ ap (λ (l : List Record). apply_all s l) (sym c.deref.ensures.value ∙ (c.is_idle.ensures.0 c.if-is_idle.true).1) in
    subst (IsWritable d.tells d.seen d.may_leave c.args.journal.now) (sym same) c.requires.writable

pub returns-then-is_idle-clause-moments : goal.returns-then-is_idle-clause-moments
returns-then-is_idle-clause-moments g c = λ told.
    let d = g.D.LeaseDisk in
    let j = c.args.journal.now in
    let s = g.S.LeaseStore.state c.args.core.now in
    without d.moment d.left_since d.may_leave j.pair j.pair s (records_kept (decide_all (g.S.LeaseStore.terms c.args.core.now) s c.args.m c.args.asks.now)) (still_settled d.seen d.may_leave d.moment d.left_since j s (c.requires.writable.settled told))

pub returns-then-is_idle-clause-journal : goal.returns-then-is_idle-clause-journal
returns-then-is_idle-clause-journal g c =
    let rs = records_kept (decide_all (g.S.LeaseStore.terms c.args.core.now) (g.S.LeaseStore.state c.args.core.now) c.args.m c.args.asks.now) in
    journals_stay g.D.LeaseDisk.tells rs c.args.journal.now (sym c.in_ok-anew.ensures.overlong ∙ (c.is_idle.ensures.0 c.if-is_idle.true).0)

pub add-requires : goal.add-requires
add-requires g c = subst (AllByRecursion IsWellFormedRecord) (sym c.deref-2.ensures.value) (formed_all (g.S.LeaseStore.state c.args.core.now) c.in_ok-batch.batch.records.items c.in_ok-batch.ensures.fit)

pub commit-requires-clause-snapshot : goal.commit-requires-clause-snapshot
commit-requires-clause-snapshot g c = λ anew.
    let same : c.add.new.self.sure ≡ c.renew_if_overlong.new.texts.sure = ap (λ (k : KeptRecords). k.sure) c.in_ok-add.ensures.ok in
    same ∙ c.in_ok-anew.ensures.snapshot anew ∙ ap snapshot (sym (ap state_of same ∙ c.renew_if_overlong.ensures.state))

pub commit-requires-clause-next : goal.commit-requires-clause-next
commit-requires-clause-next g c = λ anew. overlong_next c.args.journal.now (sym c.in_ok-anew.ensures.overlong ∙ anew)

pub returns-clause-texts : goal.returns-clause-texts
returns-clause-texts g c =
    let s = g.S.LeaseStore.state c.args.core.now in
    let rs = c.in_ok-batch.batch.records.items in
    let first = c.renew_if_overlong.new.texts.sure in
    let stand : StandAlone first s = record { fit = c.renew_if_overlong.ensures.fit; state = c.renew_if_overlong.ensures.state } in
    let sure : c.add.new.self.sure ≡ first = ap (λ (k : KeptRecords). k.sure) c.in_ok-add.ensures.ok in
    let whole : c.commit.new.texts.sure ≡ first ++ rs = ap (λ (k : KeptRecords). k.sure) c.in_ok-commit.ensures.kept ∙ ap (λ (l : List Record). l ++ c.deref-3.result.now) sure ∙ ap (λ (l : List Record). first ++ l) c.deref-3.ensures.value in
    subst (λ (l : List Record). StandAlone l (g.S.LeaseStore.state c.decide_batch.new.core)) (sym whole) (subst (StandAlone (first ++ rs)) (sym c.in_ok-batch.ensures.state) (stand_more first s rs stand c.in_ok-batch.ensures.fit))

pub returns-clause-moments : goal.returns-clause-moments
returns-clause-moments g c = λ told.
    let d = g.D.LeaseDisk in
    let first : state_of c.add.new.self.sure ≡ g.S.LeaseStore.state c.args.core.now = ap (λ (k : KeptRecords). state_of k.sure) c.in_ok-add.ensures.ok ∙ c.renew_if_overlong.ensures.state in
    subst (λ (l : List Record). PairLeavesOnly d.moment d.left_since d.may_leave c.args.journal.now.pair c.commit.new.journal.pair (StandsForWithOrWithout (g.S.LeaseStore.state c.args.core.now) l)) (c.deref-3.ensures.value ∙ c.in_ok-batch.ensures.records)
    (subst (λ (s : State). PairLeavesOnly d.moment d.left_since d.may_leave c.args.journal.now.pair c.commit.new.journal.pair (StandsForWithOrWithout s c.deref-3.result.now)) first (c.commit.ensures.moments told))

pub returns-clause-journal : goal.returns-clause-journal
returns-clause-journal g c =
    let d = g.D.LeaseDisk in
    let old = c.args.journal.now in
    let new = c.commit.new.journal in
    subst (λ (l : List Record). Journals d.tells l old new) (c.deref-3.ensures.value ∙ c.in_ok-batch.ensures.records)
    (journals_by d.tells c.deref-3.result.now old new c.in_ok-anew.anew c.in_ok-anew.ensures.overlong c.commit.ensures.idle
    (λ e. at_ok _ _ _ c.in_ok-commit.was (c.commit.ensures.plain e)) (λ e. at_ok _ _ _ c.in_ok-commit.was (c.commit.ensures.plain_first e))
    (λ told e. at_ok _ _ _ c.in_ok-commit.was (c.commit.ensures.grown told e))
    (λ e. at_ok _ _ _ c.in_ok-commit.was (c.commit.ensures.compacted e)) (λ told e. at_ok _ _ _ c.in_ok-commit.was (c.commit.ensures.short told e)))
