use Rattle.std.proofs.Common.{◌≡◌, max, [], Some, refl, sym, subst, ◌∙◌, ap, arith}
use Rattle.pcp_base.specs.declared.addresses.Address.{Address}
use Rattle.pcp_base.specs.Apply.{apply_all, state_of}
use Rattle.pcp_base.specs.Snapshots.{snapshot}
use Rattle.pcp_base.specs.States.{State}
use Rattle.pcp_base.proofs.SnapshotLaws.{snapshot-stands}
use Rattle.lease_store.specs.declared.terms.Terms.{Terms}
use Rattle.lease_store.specs.LeaseTerms.{AreTerms}
use Rattle.journal_sides.specs.Journals.{StandsForWithOrWithout}
use Rattle.shard_book.specs.Books.{BookView}
use Rattle.shard_book.specs.Insides.{MayDecideAt, StandAlone}
use Rattle.shard_book.specs.KeptTexts.{KeptRecords}
use Rattle.shard_book.proofs.BookLemmas.{settled_book}
use Rattle.shard_book.proofs.CallLemmas.{means_address, means_same}
use Rattle.shard_book.proofs.DoubtLemmas.{kept_doubt, not_none}
use Rattle.shard_book.proofs.PairRuns.{holds_after}
use Rattle.shard_book.proofs.ResultLemmas.{any_err}
use Rattle.shard_book.proofs.StandLemmas.{stand_snapshot}
use Rattle.shard_book.proofs.books.LeaseBook.resume.Goals as goal

pub invariant_of-self : goal.invariant_of-self
invariant_of-self g c =
    let d = g.D.LeaseDisk in
    let laws = g.met.D.LeaseDisk in
    let st = g.S.LeaseStore in
    let inside = c.self.inside in
    let inv = c.self.invariant in
    let f_is : inside.fault ≡ Some c.args.fault = ap (λ (v : BookView g.row.D.Denot). v.fault) c.self.view_is ∙ c.requires in
    let core = c.find.new.core in
    let journal = c.find.new.journal in
    kept_doubt d.tells d.seen d.may_leave inside.texts inside.last inside.base inside.address inside.renumbered inside.fault (st.state inside.core) (st.state core) (st.reached inside.core) (st.reached core) (st.terms inside.core) (st.terms core) inside.journal journal c.args.fault f_is c.find.ensures.terms
    (λ told. holds_after d.moment d.left_since d.may_leave laws.counts_now laws.only_now (StandsForWithOrWithout (state_of inside.texts.sure) inside.texts.added) inside.journal.pair journal.pair (c.find.ensures.moments told (inv.is.images told)))
    inv

pub returns-in_err-outcome-clause-refused : goal.returns-in_err-outcome-clause-refused
returns-in_err-outcome-clause-refused g c =
    let d = g.D.LeaseDisk in
    let laws = g.met.D.LeaseDisk in
    let st = g.S.LeaseStore in
    let inside = c.self.inside in
    let inv = c.self.invariant in
    let f_is : inside.fault ≡ Some c.args.fault = ap (λ (v : BookView g.row.D.Denot). v.fault) c.self.view_is ∙ c.requires in
    let core = c.find.new.core in
    let journal = c.find.new.journal in
    rw (← c.self.view_is) (any_err c.from_residual.result _ (λ fault. record {
      doubt = rw f_is refl;
      same = ap (λ (t : Terms). record {
        state = state_of inside.texts.sure;
        last = inside.last;
        terms = t;
        renumbered = inside.renumbered;
        fault = inside.fault;
        unsure = inside.texts.added;
        journal = journal;
      }) c.find.ensures.terms;
      moments = λ told. c.find.ensures.moments told (inv.is.images told);
    }))

pub returns-in_err-outcome-clause-book : goal.returns-in_err-outcome-clause-book
returns-in_err-outcome-clause-book g c =
    let d = g.D.LeaseDisk in
    let laws = g.met.D.LeaseDisk in
    let st = g.S.LeaseStore in
    let inside = c.self.inside in
    let inv = c.self.invariant in
    let f_is : inside.fault ≡ Some c.args.fault = ap (λ (v : BookView g.row.D.Denot). v.fault) c.self.view_is ∙ c.requires in
    let core = c.find.new.core in
    let journal = c.find.new.journal in
    (kept_doubt d.tells d.seen d.may_leave inside.texts inside.last inside.base inside.address inside.renumbered inside.fault (st.state inside.core) (st.state core) (st.reached inside.core) (st.reached core) (st.terms inside.core) (st.terms core) inside.journal journal c.args.fault f_is c.find.ensures.terms
    (λ told. holds_after d.moment d.left_since d.may_leave laws.counts_now laws.only_now (StandsForWithOrWithout (state_of inside.texts.sure) inside.texts.added) inside.journal.pair journal.pair (c.find.ensures.moments told (inv.is.images told)))
    inv).is

pub invariant_of-self-2 : goal.invariant_of-self-2
invariant_of-self-2 g c =
    let d = g.D.LeaseDisk in
    let laws = g.met.D.LeaseDisk in
    let st = g.S.LeaseStore in
    let inside = c.self.inside in
    let inv = c.self.invariant in
    let f_is : inside.fault ≡ Some c.args.fault = ap (λ (v : BookView g.row.D.Denot). v.fault) c.self.view_is ∙ c.requires in
    let core = c.find.new.core in
    let journal = c.find.new.journal in
    let texts = c.in_ok-outcome.outcome.texts in
    let s = st.state core in
    let m = c.later-self-inside.result in
    let configured : inside.address ≡ (st.terms core).external.address = inv.named ∙ ap (λ (t : Terms). t.external.address) (sym c.find.ensures.terms) in
    let sure : texts.sure ≡ snapshot s = ap (λ (k : KeptRecords). k.sure) c.in_ok-outcome.ensures.texts in
    let none : texts.added ≡ [] = ap (λ (k : KeptRecords). k.added) c.in_ok-outcome.ensures.texts in
    let stand : StandAlone texts.sure s = stand_snapshot snapshot-stands s texts.sure c.in_ok-outcome.ensures.reached c.in_ok-outcome.ensures.started sure in
    let known : (state_of inside.texts.sure).address ≡ Some inside.address = inv.is.address ∙ ap (λ (a : Address). Some a) (sym inv.named) in
    let known_with : (apply_all (state_of inside.texts.sure) inside.texts.added).address ≡ Some inside.address = inv.is.unsure_address ∙ ap (λ (a : Address). Some a) (sym inv.named) in
    let named : s.address ≡ Some (st.terms core).external.address = means_address c.later-m.result inside.address _ s c.in_ok-outcome.outcome.settled.address c.in_ok-outcome.outcome.settled.journal known known_with c.in_ok-outcome.ensures.means ∙ ap (λ (a : Address). Some a) configured in
    let may : MayDecideAt (st.terms core) s (st.reached core) m = record {
      allowed = subst AreTerms (sym c.find.ensures.terms) inv.is.terms;
      made = c.in_ok-outcome.ensures.reached;
      started = c.in_ok-outcome.ensures.started;
      passed = omega (arith, c.in_ok-outcome.ensures.past, c.later-self-inside.ensures.value, c.last.ensures.value);
      last = omega (arith, c.later-self-inside.ensures.value, c.last.ensures.value);
    } in
    settled_book d.tells d.seen d.may_leave texts m c.base-self-inside.result inside.address (st.terms core) inside.renumbered journal s (st.reached core) may stand none c.in_ok-outcome.ensures.writable named c.later-self-inside.ensures.bound c.base-self-inside.ensures configured

pub returns-clause-settled : goal.returns-clause-settled
returns-clause-settled g c =
    let d = g.D.LeaseDisk in
    let laws = g.met.D.LeaseDisk in
    let st = g.S.LeaseStore in
    let inside = c.self.inside in
    let inv = c.self.invariant in
    let f_is : inside.fault ≡ Some c.args.fault = ap (λ (v : BookView g.row.D.Denot). v.fault) c.self.view_is ∙ c.requires in
    let core = c.find.new.core in
    let journal = c.find.new.journal in
    let texts = c.in_ok-outcome.outcome.texts in
    let s = st.state core in
    let m = c.later-self-inside.result in
    let configured : inside.address ≡ (st.terms core).external.address = inv.named ∙ ap (λ (t : Terms). t.external.address) (sym c.find.ensures.terms) in
    let sure : texts.sure ≡ snapshot s = ap (λ (k : KeptRecords). k.sure) c.in_ok-outcome.ensures.texts in
    let none : texts.added ≡ [] = ap (λ (k : KeptRecords). k.added) c.in_ok-outcome.ensures.texts in
    let stand : StandAlone texts.sure s = stand_snapshot snapshot-stands s texts.sure c.in_ok-outcome.ensures.reached c.in_ok-outcome.ensures.started sure in
    rw (← c.self.view_is) (record {
      means = means_same c.later-m.result (max c.args.now inside.last) inside.address (st.terms inside.core).external.address (Some c.args.fault) inside.fault (state_of inside.texts.sure) (apply_all (state_of inside.texts.sure) inside.texts.added) s (state_of texts.sure) c.in_ok-outcome.outcome.settled.address c.in_ok-outcome.outcome.settled.journal c.later-m.ensures.value inv.named (sym f_is) (sym stand.state) c.in_ok-outcome.ensures.means;
      clean = λ e. absurd (not_none c.args.fault inside.fault f_is e);
      expected = λ told. c.in_ok-outcome.ensures.expected told (inv.is.images told);
      last = c.later-self-inside.ensures.value ∙ ap (max inside.last) (c.last.ensures.value ∙ ap (λ (u : State). u.last) (sym stand.state));
      terms = c.find.ensures.terms;
      renumbered = refl;
      fault = refl;
      sure = none;
      moments = λ told. c.find.ensures.moments told (inv.is.images told);
    })

pub returns-clause-book : goal.returns-clause-book
returns-clause-book g c =
    let d = g.D.LeaseDisk in
    let laws = g.met.D.LeaseDisk in
    let st = g.S.LeaseStore in
    let inside = c.self.inside in
    let inv = c.self.invariant in
    let f_is : inside.fault ≡ Some c.args.fault = ap (λ (v : BookView g.row.D.Denot). v.fault) c.self.view_is ∙ c.requires in
    let core = c.find.new.core in
    let journal = c.find.new.journal in
    let texts = c.in_ok-outcome.outcome.texts in
    let s = st.state core in
    let m = c.later-self-inside.result in
    let configured : inside.address ≡ (st.terms core).external.address = inv.named ∙ ap (λ (t : Terms). t.external.address) (sym c.find.ensures.terms) in
    let sure : texts.sure ≡ snapshot s = ap (λ (k : KeptRecords). k.sure) c.in_ok-outcome.ensures.texts in
    let none : texts.added ≡ [] = ap (λ (k : KeptRecords). k.added) c.in_ok-outcome.ensures.texts in
    let stand : StandAlone texts.sure s = stand_snapshot snapshot-stands s texts.sure c.in_ok-outcome.ensures.reached c.in_ok-outcome.ensures.started sure in
    let known : (state_of inside.texts.sure).address ≡ Some inside.address = inv.is.address ∙ ap (λ (a : Address). Some a) (sym inv.named) in
    let known_with : (apply_all (state_of inside.texts.sure) inside.texts.added).address ≡ Some inside.address = inv.is.unsure_address ∙ ap (λ (a : Address). Some a) (sym inv.named) in
    let named : s.address ≡ Some (st.terms core).external.address = means_address c.later-m.result inside.address _ s c.in_ok-outcome.outcome.settled.address c.in_ok-outcome.outcome.settled.journal known known_with c.in_ok-outcome.ensures.means ∙ ap (λ (a : Address). Some a) configured in
    let may : MayDecideAt (st.terms core) s (st.reached core) m = record {
      allowed = subst AreTerms (sym c.find.ensures.terms) inv.is.terms;
      made = c.in_ok-outcome.ensures.reached;
      started = c.in_ok-outcome.ensures.started;
      passed = omega (arith, c.in_ok-outcome.ensures.past, c.later-self-inside.ensures.value, c.last.ensures.value);
      last = omega (arith, c.later-self-inside.ensures.value, c.last.ensures.value);
    } in
    (settled_book d.tells d.seen d.may_leave texts m c.base-self-inside.result inside.address (st.terms core) inside.renumbered journal s (st.reached core) may stand none c.in_ok-outcome.ensures.writable named c.later-self-inside.ensures.bound c.base-self-inside.ensures configured).is
