use Rattle.std.proofs.Common.{◌≡◌, inl, inr, ⊎_elim, ◌<◌, ◌^◌, [], Some, refl, sym, subst, ◌∙◌, ap, arith}
use Rattle.std.proofs.lemmas.Result.{err_from_is_err_and}
use Rattle.pcp_base.specs.declared.addresses.Address.{Address}
use Rattle.pcp_base.specs.Apply.{apply_all, is_another}
use Rattle.pcp_base.specs.Snapshots.{snapshot}
use Rattle.pcp_base.specs.States.{State}
use Rattle.pcp_base.proofs.SnapshotLaws.{snapshot-stands}
use Rattle.lease_disk.specs.declared.disks.DiskPair.{DiskPair}
use Rattle.lease_store.specs.declared.terms.Terms.{Terms}
use Rattle.lease_store.specs.LeaseTerms.{AreTerms}
use Rattle.shard_book.specs.Addresses.{renumbering}
use Rattle.shard_book.specs.Insides.{MayDecideAt, StandAlone}
use Rattle.shard_book.specs.KeptTexts.{KeptRecords}
use Rattle.shard_book.specs.Openings.{IsFirstLength, OpensBook}
use Rattle.shard_book.proofs.BookLemmas.{settled_book}
use Rattle.shard_book.proofs.StandLemmas.{stand_snapshot}
use Rattle.shard_book.proofs.OpenLemmas.{replay_reached}
use Rattle.shard_book.proofs.ReadingRuns.{opening_runs, opens_book, started_start, written_anew}
use Rattle.shard_book.proofs.books.LeaseBook.open.Goals as goal

pub returns-in_err-journal-clause-refused_moments : goal.returns-in_err-journal-clause-refused_moments
returns-in_err-journal-clause-refused_moments g c = λ told.
    let d = g.D.LeaseDisk in
    let p = err_from_is_err_and c.from_residual.result c.from_residual.ensures.1 in
    rw (p.1, p.2) (⊎_elim (λ opens. inl (opens_book d.seen d.moment d.left_since d.may_leave c.args.m c.args.address c.args.pair _ opens)) (λ old. inr old) (c.in_err-journal.ensures.refused_moments told))

pub finish-requires-clause-reached : goal.finish-requires-clause-reached
finish-requires-clause-reached g c =
    let st = g.S.LeaseStore in
    (replay_reached st.state st.reached st.replaying st.replaying_first st.made st.made_first c.in_ok-journal.journal.standing.format c.recover.new.replay c.in_ok-journal.ensures.replaying).0

pub invariant_of-result : goal.invariant_of-result
invariant_of-result g c =
    let d = g.D.LeaseDisk in
    let st = g.S.LeaseStore in
    let core = c.finish.new.core in
    let texts = c.in-Ok.opening.texts in
    let s = st.state core in
    let terms : st.terms core ≡ st.terms c.args.core = c.finish.ensures.terms ∙ c.recover.ensures.lasting in
    let configured : c.args.address ≡ (st.terms core).external.address = c.requires.address ∙ ap (λ (t : Terms). t.external.address) (sym terms) in
    let sure : texts.sure ≡ snapshot s = ap (λ (k : KeptRecords). k.sure) c.in-Ok.ensures.texts in
    let none : texts.added ≡ [] = ap (λ (k : KeptRecords). k.added) c.in-Ok.ensures.texts in
    let stand : StandAlone texts.sure s = stand_snapshot snapshot-stands s texts.sure c.in-Ok.ensures.kept c.in-Ok.ensures.started sure in
    let may : MayDecideAt (st.terms core) s (st.reached core) c.last-last.result = record {
      allowed = subst AreTerms (sym terms) c.requires.terms;
      made = c.in-Ok.ensures.kept;
      started = c.in-Ok.ensures.started;
      passed = omega (arith, c.in-Ok.ensures.past, c.last-last.ensures.value);
      last = omega (arith, c.last-last.ensures.value);
    } in
    let bound : c.last-last.result < 2 ^ 40 = omega (arith, c.last-last.ensures.value, c.in-Ok.ensures.kept.last) in
    let named : s.address ≡ Some (st.terms core).external.address = c.in-Ok.ensures.named ∙ ap (λ (a : Address). Some a) configured in
    settled_book d.tells d.seen d.may_leave texts c.last-last.result c.base-base.result c.args.address (st.terms core) c.in-Ok.opening.renumbered c.finish.new.journal s (st.reached core) may stand none c.in-Ok.ensures.writable named bound c.base-base.ensures configured

pub returns-in-Ok-clause-book : goal.returns-in-Ok-clause-book
returns-in-Ok-clause-book g c =
    let d = g.D.LeaseDisk in
    let st = g.S.LeaseStore in
    let core = c.finish.new.core in
    let texts = c.in-Ok.opening.texts in
    let s = st.state core in
    let terms : st.terms core ≡ st.terms c.args.core = c.finish.ensures.terms ∙ c.recover.ensures.lasting in
    let configured : c.args.address ≡ (st.terms core).external.address = c.requires.address ∙ ap (λ (t : Terms). t.external.address) (sym terms) in
    let sure : texts.sure ≡ snapshot s = ap (λ (k : KeptRecords). k.sure) c.in-Ok.ensures.texts in
    let none : texts.added ≡ [] = ap (λ (k : KeptRecords). k.added) c.in-Ok.ensures.texts in
    let stand : StandAlone texts.sure s = stand_snapshot snapshot-stands s texts.sure c.in-Ok.ensures.kept c.in-Ok.ensures.started sure in
    let may : MayDecideAt (st.terms core) s (st.reached core) c.last-last.result = record {
      allowed = subst AreTerms (sym terms) c.requires.terms;
      made = c.in-Ok.ensures.kept;
      started = c.in-Ok.ensures.started;
      passed = omega (arith, c.in-Ok.ensures.past, c.last-last.ensures.value);
      last = omega (arith, c.last-last.ensures.value);
    } in
    let bound : c.last-last.result < 2 ^ 40 = omega (arith, c.last-last.ensures.value, c.in-Ok.ensures.kept.last) in
    let named : s.address ≡ Some (st.terms core).external.address = c.in-Ok.ensures.named ∙ ap (λ (a : Address). Some a) configured in
    (settled_book d.tells d.seen d.may_leave texts c.last-last.result c.base-base.result c.args.address (st.terms core) c.in-Ok.opening.renumbered c.finish.new.journal s (st.reached core) may stand none c.in-Ok.ensures.writable named bound c.base-base.ensures configured).is

pub returns-in-Ok-clause-opened : goal.returns-in-Ok-clause-opened
returns-in-Ok-clause-opened g c =
    let d = g.D.LeaseDisk in
    let st = g.S.LeaseStore in
    let core = c.finish.new.core in
    let texts = c.in-Ok.opening.texts in
    let s = st.state core in
    let terms : st.terms core ≡ st.terms c.args.core = c.finish.ensures.terms ∙ c.recover.ensures.lasting in
    let configured : c.args.address ≡ (st.terms core).external.address = c.requires.address ∙ ap (λ (t : Terms). t.external.address) (sym terms) in
    let sure : texts.sure ≡ snapshot s = ap (λ (k : KeptRecords). k.sure) c.in-Ok.ensures.texts in
    let none : texts.added ≡ [] = ap (λ (k : KeptRecords). k.added) c.in-Ok.ensures.texts in
    let stand : StandAlone texts.sure s = stand_snapshot snapshot-stands s texts.sure c.in-Ok.ensures.kept c.in-Ok.ensures.started sure in
    let opened = st.state c.recover.new.replay in
    record {
      opened = opened;
      «from» = λ told. c.in_ok-journal.ensures.found told;
      start = started_start c.args.m c.in_ok-journal.journal.side c.in_ok-journal.journal.standing opened c.in_ok-journal.found c.in_ok-journal.ensures.started;
      state = stand.state ∙ c.in-Ok.ensures.state ∙ ap (λ (a : Address). apply_all opened (renumbering c.args.m a opened)) c.requires.address;
      last = c.last-last.ensures.value ∙ ap (λ (u : State). u.last) (sym stand.state);
      on_terms = terms;
      renumbered = c.in-Ok.ensures.renumbered ∙ ap (λ (a : Address). is_another a opened.address) c.requires.address;
      settled = refl;
      sure = none;
      anew = written_anew d.tells d.seen d.may_leave c.args.pair c.in_ok-journal.journal c.finish.new.journal opened c.in_ok-journal.found c.in_ok-journal.ensures.still c.in_ok-journal.ensures.settled c.in-Ok.ensures.anew c.in-Ok.ensures.beside;
      first_length = subst (λ (a : Address). IsFirstLength d.tells (renumbering c.args.m a opened) c.finish.new.journal) c.requires.address c.in-Ok.ensures.first_length;
    }

pub returns-in-Ok-clause-moments : goal.returns-in-Ok-clause-moments
returns-in-Ok-clause-moments g c = λ told.
    let d = g.D.LeaseDisk in
    opening_runs d.seen d.moment d.left_since d.may_leave c.args.m c.args.address c.args.pair c.in_ok-journal.journal.pair c.finish.new.journal.pair (g.S.LeaseStore.state c.recover.new.replay) c.in_ok-journal.found (c.in_ok-journal.ensures.found told) (c.in_ok-journal.ensures.moments told) (c.finish.ensures.moments told)

pub returns-in-Err-clause-refused_moments : goal.returns-in-Err-clause-refused_moments
returns-in-Err-clause-refused_moments g c = λ told.
    let d = g.D.LeaseDisk in
    inl (subst (λ (p : DiskPair g.row.D.Denot). OpensBook d.seen d.moment d.left_since d.may_leave c.args.m c.args.address c.args.pair p) (sym c.close.ensures)
    (opening_runs d.seen d.moment d.left_since d.may_leave c.args.m c.args.address c.args.pair c.in_ok-journal.journal.pair c.finish.new.journal.pair (g.S.LeaseStore.state c.recover.new.replay) c.in_ok-journal.found (c.in_ok-journal.ensures.found told) (c.in_ok-journal.ensures.moments told) (c.finish.ensures.moments told)))
