use Rattle.std.proofs.Common.{◌≡◌, [], ◌∷◌, Option, Some, None, refl, sym, subst, ◌∙◌, ap}
use Rattle.pcp_base.specs.States.{State}
use Rattle.journal_sides.specs.declared.errors.JournalFault.{JournalFault}
use Rattle.journal_sides.specs.Journals.{StandsForWithOrWithout}
use Rattle.lease_store.specs.declared.terms.Terms.{Terms}
use Rattle.shard_book.specs.Batches.{decide_all, records_kept}
use Rattle.shard_book.specs.Books.{BookView, IsBook}
use Rattle.shard_book.specs.Insides.{IsKeptBook}
use Rattle.shard_book.specs.Keepings.{unsure_after}
use Rattle.shard_book.proofs.BookLemmas.{book_of, doubtful_book, settled_book}
use Rattle.shard_book.proofs.PairRuns.{holds_after}
use Rattle.shard_book.proofs.books.LeaseBook.serve_one.Goals as goal

pub invariant_of-self : goal.invariant_of-self
invariant_of-self g c =
    let d = g.D.LeaseDisk in
    let st = g.S.LeaseStore in
    let inside = c.self.inside in
    let inv = c.self.invariant in
    let core = c.write_one-served.new.core in
    let texts = c.write_one-served.new.texts in
    let journal = c.write_one-served.new.journal in
    let settled : inside.fault ≡ None = ap (λ (v : BookView g.row.D.Denot). v.fault) c.self.view_is ∙ c.requires.settled in
    let held = inv.held settled in
    let terms = c.write_one-served.ensures.terms in
    let named : (st.state core).address ≡ Some (st.terms core).external.address = c.in-Ok.ensures.address ∙ ap (λ (u : State). u.address) held.same ∙ inv.is.address ∙ ap (λ (t : Terms). Some t.external.address) (sym terms) in
    let configured : inside.address ≡ (st.terms core).external.address = inv.named ∙ ap (λ (t : Terms). t.external.address) (sym terms) in
    subst (λ (f : Option JournalFault). IsKeptBook d.tells d.seen d.may_leave (st.state core) (st.reached core) texts c.base-self-inside.result inside.address (book_of d.tells d.seen d.may_leave texts c.later-m.result c.base-self-inside.result inside.address (st.terms core) inside.renumbered journal f)) (sym settled)
    (settled_book d.tells d.seen d.may_leave texts c.later-m.result c.base-self-inside.result inside.address (st.terms core) inside.renumbered journal (st.state core) (st.reached core) c.in-Ok.ensures.ready c.in-Ok.ensures.texts c.in-Ok.ensures.none c.in-Ok.ensures.writable named c.later-m.ensures.bound c.base-self-inside.ensures configured)

pub returns-in-Ok-clause-book : goal.returns-in-Ok-clause-book
returns-in-Ok-clause-book g c =
    let d = g.D.LeaseDisk in
    let st = g.S.LeaseStore in
    let inside = c.self.inside in
    let inv = c.self.invariant in
    let core = c.write_one-served.new.core in
    let texts = c.write_one-served.new.texts in
    let journal = c.write_one-served.new.journal in
    let settled : inside.fault ≡ None = ap (λ (v : BookView g.row.D.Denot). v.fault) c.self.view_is ∙ c.requires.settled in
    let held = inv.held settled in
    let terms = c.write_one-served.ensures.terms in
    let named : (st.state core).address ≡ Some (st.terms core).external.address = c.in-Ok.ensures.address ∙ ap (λ (u : State). u.address) held.same ∙ inv.is.address ∙ ap (λ (t : Terms). Some t.external.address) (sym terms) in
    let configured : inside.address ≡ (st.terms core).external.address = inv.named ∙ ap (λ (t : Terms). t.external.address) (sym terms) in
    subst (λ (f : Option JournalFault). IsBook d.tells d.seen d.may_leave (book_of d.tells d.seen d.may_leave texts c.later-m.result c.base-self-inside.result inside.address (st.terms core) inside.renumbered journal f)) (sym settled)
    (settled_book d.tells d.seen d.may_leave texts c.later-m.result c.base-self-inside.result inside.address (st.terms core) inside.renumbered journal (st.state core) (st.reached core) c.in-Ok.ensures.ready c.in-Ok.ensures.texts c.in-Ok.ensures.none c.in-Ok.ensures.writable named c.later-m.ensures.bound c.base-self-inside.ensures configured).is

pub invariant_of-self-in-Err : goal.invariant_of-self-in-Err
invariant_of-self-in-Err g c =
    let d = g.D.LeaseDisk in
    let laws = g.met.D.LeaseDisk in
    let st = g.S.LeaseStore in
    let inside = c.self.inside in
    let inv = c.self.invariant in
    let core = c.write_one-served.new.core in
    let texts = c.write_one-served.new.texts in
    let journal = c.write_one-served.new.journal in
    let settled : inside.fault ≡ None = ap (λ (v : BookView g.row.D.Denot). v.fault) c.self.view_is ∙ c.requires.settled in
    let held = inv.held settled in
    let terms = c.write_one-served.ensures.terms in
    let s = st.state inside.core in
    let rs = records_kept (decide_all (st.terms inside.core) s c.later-m.result (c.args.ask.now ∷ [])) in
    let configured : inside.address ≡ (st.terms core).external.address = inv.named ∙ ap (λ (t : Terms). t.external.address) (sym terms) in
    doubtful_book d.tells d.seen d.may_leave texts inside.last inside.base inside.address (st.terms core) inside.renumbered journal s (st.state core) (st.reached core) c.in-Err.fault rs _ inv.is (sym held.same) refl (sym terms) c.in-Err.ensures.refused_texts c.in-Err.ensures.refused_added c.in-Err.ensures.refused_fit
    (λ told. holds_after d.moment d.left_since d.may_leave laws.counts_now laws.only_now (StandsForWithOrWithout s (unsure_after c.in-Err.fault rs)) inside.journal.pair journal.pair (c.in-Err.ensures.refused_moments told))
    (inv.based ∙ ap (λ (u : State). u.base) (sym held.same)) configured

pub returns-in-Err-clause-book : goal.returns-in-Err-clause-book
returns-in-Err-clause-book g c =
    let d = g.D.LeaseDisk in
    let laws = g.met.D.LeaseDisk in
    let st = g.S.LeaseStore in
    let inside = c.self.inside in
    let inv = c.self.invariant in
    let core = c.write_one-served.new.core in
    let texts = c.write_one-served.new.texts in
    let journal = c.write_one-served.new.journal in
    let settled : inside.fault ≡ None = ap (λ (v : BookView g.row.D.Denot). v.fault) c.self.view_is ∙ c.requires.settled in
    let held = inv.held settled in
    let terms = c.write_one-served.ensures.terms in
    let s = st.state inside.core in
    let rs = records_kept (decide_all (st.terms inside.core) s c.later-m.result (c.args.ask.now ∷ [])) in
    let configured : inside.address ≡ (st.terms core).external.address = inv.named ∙ ap (λ (t : Terms). t.external.address) (sym terms) in
    (doubtful_book d.tells d.seen d.may_leave texts inside.last inside.base inside.address (st.terms core) inside.renumbered journal s (st.state core) (st.reached core) c.in-Err.fault rs _ inv.is (sym held.same) refl (sym terms) c.in-Err.ensures.refused_texts c.in-Err.ensures.refused_added c.in-Err.ensures.refused_fit
    (λ told. holds_after d.moment d.left_since d.may_leave laws.counts_now laws.only_now (StandsForWithOrWithout s (unsure_after c.in-Err.fault rs)) inside.journal.pair journal.pair (c.in-Err.ensures.refused_moments told))
    (inv.based ∙ ap (λ (u : State). u.base) (sym held.same)) configured).is
