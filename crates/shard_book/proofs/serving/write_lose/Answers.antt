use Rattle.std.proofs.Common.{◌≡◌, ◌++◌, ◌∷◌, [], List, sym, subst, ◌∙◌, ap}
use Rattle.pcp_base.specs.declared.records.Change.TheVariants.{Lose}
use Rattle.pcp_base.specs.declared.records.Record.{Record}
use Rattle.pcp_base.specs.Apply.{state_of}
use Rattle.pcp_base.specs.Fits.{Fits}
use Rattle.pcp_base.specs.States.{State}
use Rattle.lease_disk.specs.Pairs.{PairLeavesOnly}
use Rattle.journal_sides.specs.Journals.{StandsForWithOrWithout}
use Rattle.shard_book.specs.Insides.{StandAlone}
use Rattle.shard_book.specs.Keepings.{unsure_after}
use Rattle.shard_book.specs.KeptTexts.{KeptRecords}
use Rattle.shard_book.proofs.BookLemmas.{stand_more}
use Rattle.shard_book.proofs.JournalLemmas.{still_settled, without}
use Rattle.shard_book.proofs.OpenLemmas.{lose_fits}
use Rattle.shard_book.proofs.ResultLemmas.{any_err}
use Rattle.shard_book.proofs.serving.write_lose.Goals as goal

pub returns-in_err-apply-clause-refused_moments : goal.returns-in_err-apply-clause-refused_moments
returns-in_err-apply-clause-refused_moments g c = λ told.
    let d = g.D.LeaseDisk in
    let j = c.args.journal.now in
    let s = g.S.LeaseStore.state c.args.core.now in
    any_err c.from_residual.result _ (λ fault. without d.moment d.left_since d.may_leave j.pair j.pair s (unsure_after fault (record { moment = c.args.m; change = Lose } ∷ [])) (still_settled d.seen d.may_leave d.moment d.left_since j s (c.requires.writable.settled told)))

pub returns-in_err-add-clause-refused_moments : goal.returns-in_err-add-clause-refused_moments
returns-in_err-add-clause-refused_moments g c = λ told.
    let d = g.D.LeaseDisk in
    let j = c.args.journal.now in
    let s = g.S.LeaseStore.state c.args.core.now in
    any_err c.from_residual-in_err-add.result _ (λ fault. without d.moment d.left_since d.may_leave j.pair j.pair s (unsure_after fault (record { moment = c.args.m; change = Lose } ∷ [])) (still_settled d.seen d.may_leave d.moment d.left_since j s (c.requires.writable.settled told)))

pub returns-clause-texts : goal.returns-clause-texts
returns-clause-texts g c =
    let s = g.S.LeaseStore.state c.args.core.now in
    let lose : Record = record { moment = c.args.m; change = Lose } in
    let rs : List Record = lose ∷ [] in
    let first = c.args.texts.now.sure in
    let may = c.requires.ready in
    let fits : Fits s lose = lose_fits c.new_leases_need_room.ensures.fits s c.args.m may.made may.started may.last c.requires.bound in
    let sure : c.add.new.self.sure ≡ first = ap (λ (k : KeptRecords). k.sure) c.in_ok-add.ensures.ok in
    let whole : c.commit.new.texts.sure ≡ first ++ rs = ap (λ (k : KeptRecords). k.sure) c.in_ok-commit.ensures.kept ∙ ap (λ (l : List Record). l ++ rs) sure in
    subst (λ (l : List Record). StandAlone l (g.S.LeaseStore.state c.apply.new.self)) (sym whole) (subst (StandAlone (first ++ rs)) (sym c.in_ok-apply.ensures.applied) (stand_more first s rs c.requires.texts (fits, tt)))

pub returns-clause-moments : goal.returns-clause-moments
returns-clause-moments g c = λ told.
    let d = g.D.LeaseDisk in
    let lose : Record = record { moment = c.args.m; change = Lose } in
    let first : state_of c.add.new.self.sure ≡ g.S.LeaseStore.state c.args.core.now = ap (λ (k : KeptRecords). state_of k.sure) c.in_ok-add.ensures.ok ∙ c.requires.texts.state in
    subst (λ (s : State). PairLeavesOnly d.moment d.left_since d.may_leave c.args.journal.now.pair c.commit.new.journal.pair (StandsForWithOrWithout s (lose ∷ []))) first (c.commit.ensures.moments told)
