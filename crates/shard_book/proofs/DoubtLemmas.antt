-- A book whose settling was refused.
use Rattle.std.proofs.Common.{◌≡◌, ◌≢◌, Bool, ℕ, List, Option, Some, None, sym, ◌∙◌, subst}
use Rattle.pcp_base.specs.declared.addresses.Address.{Address}
use Rattle.pcp_base.specs.Apply.{state_of}
use Rattle.pcp_base.specs.States.{State}
use Rattle.lease_store.specs.declared.terms.Terms.{Terms}
use Rattle.lease_disk.specs.Pairs.{HoldsNow}
use Rattle.journal_sides.specs.declared.errors.JournalFault.{JournalFault}
use Rattle.journal_sides.specs.declared.errors.JournalFault.TheVariants.{Disk}
use Rattle.journal_sides.specs.Journals.{StandsForWithOrWithout}
use Rattle.lease_journal.specs.Views.{JournalView}
use Rattle.shard_book.specs.Books.{BookView}
use Rattle.shard_book.specs.Insides.{IsKeptBook}
use Rattle.shard_book.specs.KeptTexts.{KeptRecords}

pub some_disk : (fault : JournalFault) (f : Option JournalFault) → f ≡ Some fault → (fault ≡ Disk → ⊥) → f ≢ Some Disk
some_disk fault f is not_disk e = not_disk (same fault (sym is ∙ e))
  where
    same : (x : JournalFault) → ◌≡◌ {A = Option JournalFault} (Some x) (Some Disk) → x ≡ Disk
    same x e = cc

pub not_none : (fault : JournalFault) (f : Option JournalFault) → f ≡ Some fault → f ≡ None → ⊥
not_none fault f is e = clash (sym is ∙ e)
  where
    clash : ◌≡◌ {A = Option JournalFault} (Some fault) None → ⊥
    clash h = cc

module _ {D : Type 0} (tells : Type 0) (seen : D → List ℕ) (may_leave : D → List ℕ → Type 0) (texts : KeptRecords) (last base : ℕ) (address : Address) (renumbered : Bool) (f : Option JournalFault) where
  abbrev pub held_as : Terms → JournalView D → BookView D
  held_as terms journal = record {
    state = state_of texts.sure;
    last = last;
    terms = terms;
    renumbered = renumbered;
    fault = f;
    unsure = texts.added;
    journal = journal;
  }

  pub kept_doubt : (old_state new_state : State) (old_reached new_reached : ℕ) (old_terms new_terms : Terms) (old new : JournalView D) (fault : JournalFault) → f ≡ Some fault → new_terms ≡ old_terms
      → (tells → HoldsNow may_leave (StandsForWithOrWithout (state_of texts.sure) texts.added) new.pair)
      → IsKeptBook tells seen may_leave old_state old_reached texts base address (held_as old_terms old) → IsKeptBook tells seen may_leave new_state new_reached texts base address (held_as new_terms new)
  kept_doubt old_state new_state old_reached new_reached old_terms new_terms old new fault is terms_is images k =
      subst (λ (t : Terms). IsKeptBook tells seen may_leave new_state new_reached texts base address (held_as t new)) (sym terms_is) (record {
        is = record {
          terms = k.is.terms;
          reached = k.is.reached;
          started = k.is.started;
          address = k.is.address;
          later = k.is.later;
          last = k.is.last;
          fit = k.is.fit;
          unsure_address = k.is.unsure_address;
          sure = k.is.sure;
          writable = λ e. absurd (not_none fault f is e);
          images = images;
        };
        fit = k.fit;
        held = λ e. absurd (not_none fault f is e);
        based = k.based;
        named = k.named;
      })
