-- What makes a book.
use Rattle.std.proofs.Common.{◌≡◌, ◌≢◌, inl, Bool, ℕ, ◌≤◌, ◌<◌, ◌^◌, true, List, [], ◌++◌, Option, Some, None, refl, sym, ◌∙◌, ap, subst}
use Rattle.pcp_base.specs.declared.addresses.Address.{Address}
use Rattle.pcp_base.specs.declared.records.Record.{Record}
use Rattle.pcp_base.specs.Apply.{apply_all, state_of}
use Rattle.pcp_base.specs.Fits.{AllFit}
use Rattle.pcp_base.specs.Reached.{IsReached}
use Rattle.pcp_base.specs.States.{State, empty_state}
use Rattle.lease_store.specs.declared.terms.Terms.{Terms}
use Rattle.lease_store.specs.LeaseTerms.{AreTerms}
use Rattle.lease_disk.specs.Pairs.{HoldsNow}
use Rattle.journal_sides.specs.declared.errors.JournalFault.{JournalFault}
use Rattle.journal_sides.specs.declared.errors.JournalFault.TheVariants.{Disk, Memory}
use Rattle.journal_sides.specs.Journals.{StandsForWithOrWithout}
use Rattle.lease_journal.specs.Views.{JournalView}
use Rattle.lease_journal.proofs.StandingLaws.{apply_all-append}
use Rattle.shard_book.specs.Books.{BookView, IsBook, IsWritable}
use Rattle.shard_book.specs.Insides.{IsKeptBook, MayDecideAt, MayFollow, StandAlone}
use Rattle.shard_book.specs.Keepings.{unsure_after}
use Rattle.shard_book.specs.KeptTexts.{KeptRecords}
use Rattle.shard_book.proofs.JournalLemmas.{holds_settled}
use Rattle.shard_book.proofs.StateLemmas.{fit_append}

pub stand_more : (rs : List Record) (s : State) (qs : List Record) → StandAlone rs s → AllFit s qs → StandAlone (rs ++ qs) (apply_all s qs)
stand_more rs s qs is fit = record {
  fit = fit_append empty_state rs qs is.fit (subst (λ (t : State). AllFit t qs) (sym is.state) fit);
  state = apply_all-append empty_state rs qs ∙ ap (λ (t : State). apply_all t qs) is.state;
}

pub nothing_follows : (s : State) (rs : List Record) → rs ≡ [] → MayFollow s rs
nothing_follows s rs none = subst (MayFollow s) (sym none) (record { fit = tt; address = refl })

pub unsure_follows : (fault : JournalFault) (s : State) (rs : List Record) → MayFollow s rs → MayFollow s (unsure_after fault rs)
unsure_follows Disk s rs may = may
unsure_follows Memory s rs may = record { fit = tt; address = refl }

pub unsure_if_disk : (fault : JournalFault) (rs : List Record) → ◌≢◌ {A = Option JournalFault} (Some fault) (Some Disk) → unsure_after fault rs ≡ []
unsure_if_disk Disk rs not_disk = absurd (not_disk refl)
unsure_if_disk Memory rs not_disk = refl

module _ {D : Type 0} (tells : Type 0) (seen : D → List ℕ) (may_leave : D → List ℕ → Type 0) (texts : KeptRecords) (last base : ℕ) (address : Address) (terms : Terms) (renumbered : Bool) (journal : JournalView D) where
  abbrev pub book_of : Option JournalFault → BookView D
  book_of fault = record {
    state = state_of texts.sure;
    last = last;
    terms = terms;
    renumbered = renumbered;
    fault = fault;
    unsure = texts.added;
    journal = journal;
  }

  -- a book in which nothing is in doubt
  pub settled_book : (s : State) (reached : ℕ) → MayDecideAt terms s reached last → StandAlone texts.sure s → texts.added ≡ [] → IsWritable tells seen may_leave journal s → s.address ≡ Some terms.external.address → last < 2 ^ 40 → base ≡ s.base → address ≡ terms.external.address
      → IsKeptBook tells seen may_leave s reached texts base address (book_of None)
  settled_book s reached may stand none writable named bound based configured =
      let t : State = state_of texts.sure in
      let same : s ≡ t = sym stand.state in
      let writable_t : IsWritable tells seen may_leave journal t = subst (IsWritable tells seen may_leave journal) same writable in
      let named_t : t.address ≡ Some terms.external.address = subst (λ (u : State). u.address ≡ Some terms.external.address) same named in
      record {
        is = record {
          terms = may.allowed;
          reached = subst IsReached same may.made;
          started = subst (λ (u : State). u.started ≡ true) same may.started;
          address = named_t;
          later = subst (λ (u : State). u.last ≤ last) same may.last;
          last = bound;
          fit = subst (AllFit t) (sym none) tt;
          unsure_address = subst (λ (l : List Record). (apply_all t l).address ≡ Some terms.external.address) (sym none) named_t;
          sure = λ _. none;
          writable = λ _. writable_t;
          images = λ told x y left_a left_b. inl (holds_settled seen may_leave journal t (writable_t.settled told) x y left_a left_b);
        };
        fit = stand.fit;
        held = λ _. record { same = same; passed = may.passed };
        based = based ∙ ap (λ (u : State). u.base) same;
        named = configured;
      }

  -- a book after a call that was refused
  pub doubtful_book : (s held : State) (reached : ℕ) (fault : JournalFault) (rs : List Record) (old : BookView D) → IsBook tells seen may_leave old → old.state ≡ s → old.last ≡ last → old.terms ≡ terms → StandAlone texts.sure s → texts.added ≡ unsure_after fault rs → MayFollow s texts.added
      → (tells → HoldsNow may_leave (StandsForWithOrWithout s (unsure_after fault rs)) journal.pair) → base ≡ s.base → address ≡ terms.external.address
      → IsKeptBook tells seen may_leave held reached texts base address (book_of (Some fault))
  doubtful_book s held reached fault rs old is state_is last_is terms_is stand added may images based configured =
      let t : State = state_of texts.sure in
      let same : s ≡ t = sym stand.state in
      let old_is : old.state ≡ t = state_is ∙ same in
      let named : t.address ≡ Some terms.external.address = subst (λ (x : Terms). t.address ≡ Some x.external.address) terms_is (subst (λ (u : State). u.address ≡ Some old.terms.external.address) old_is is.address) in
      let follows : MayFollow t texts.added = subst (λ (u : State). MayFollow u texts.added) same may in
      record {
        is = record {
          terms = subst AreTerms terms_is is.terms;
          reached = subst IsReached old_is is.reached;
          started = subst (λ (u : State). u.started ≡ true) old_is is.started;
          address = named;
          later = subst (λ (n : ℕ). t.last ≤ n) last_is (subst (λ (u : State). u.last ≤ old.last) old_is is.later);
          last = subst (λ (n : ℕ). n < 2 ^ 40) last_is is.last;
          fit = follows.fit;
          unsure_address = follows.address ∙ named;
          sure = λ not_disk. added ∙ unsure_if_disk fault rs not_disk;
          writable = λ e. absurd cc;
          images = λ told. subst (λ (l : List Record). HoldsNow may_leave (StandsForWithOrWithout t l) journal.pair) (sym added) (subst (λ (u : State). HoldsNow may_leave (StandsForWithOrWithout u (unsure_after fault rs)) journal.pair) same (images told));
        };
        fit = stand.fit;
        held = λ e. absurd cc;
        based = based ∙ ap (λ (u : State). u.base) same;
        named = configured;
      }
