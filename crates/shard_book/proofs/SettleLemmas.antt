-- Settling a book, over plain values.
use Rattle.std.proofs.Common.{◌≡◌, inl, ℕ, Bool, true, false, cond, List, [], Option, Some, None, refl, sym, ◌∙◌, ap, subst, arith}
use Rattle.std.specs.Prelude.{not}
use Rattle.pcp_base.specs.declared.addresses.Address.{Address}
use Rattle.pcp_base.specs.declared.leases.End.{End}
use Rattle.pcp_base.specs.declared.records.Change.TheVariants.{Start, Lose}
use Rattle.pcp_base.specs.Apply.{apply}
use Rattle.pcp_base.specs.States.{State}
use Rattle.pcp_base.specs.Tables.{Table, empty_table, same_address}
use Rattle.lease_disk.proofs.PairLemmas.{pair_started}
use Rattle.lease_journal.specs.declared.errors.Found.{Found}
use Rattle.lease_journal.specs.declared.errors.Found.TheVariants.{Recovered, Blank, Damaged}
use Rattle.journal_sides.specs.declared.errors.JournalFault.{JournalFault}
use Rattle.journal_sides.specs.declared.errors.JournalFault.TheVariants.{Disk}
use Rattle.journal_sides.specs.Journals.{StandsForWithOrWithout, fresh_state}
use Rattle.shard_book.specs.declared.standings.Standing.TheVariants.{Clean}
use Rattle.shard_book.specs.Addresses.{renumber_at, state_anew}
use Rattle.shard_book.specs.Books.{BookView, IsBook}
use Rattle.shard_book.specs.Openings.{IsStartUnless}
use Rattle.shard_book.specs.Settlings.{BeginsAnew, HasSettled, IsEmptySince, Settles}
use Rattle.shard_book.proofs.StateLemmas.{started_on}

pub start_unless : (m : ℕ) (s : State) (found : Found) → (found ≡ Recovered → ⊥) → IsStartUnless m s found → s ≡ fresh_state m
start_unless m s Recovered not is = absurd (not refl)
start_unless m s Blank not is = is
start_unless m s Damaged not is = is

pub empty_start : (m : ℕ) (s : State) → s ≡ fresh_state m → IsEmptySince m s
empty_start m s is = subst (IsEmptySince m) (sym is) (record { table = refl; ends = refl; base = refl; last = refl; started = refl })

pub begins_start : (m : ℕ) (s : State) → s ≡ fresh_state m → BeginsAnew m s (record { moment = m; change = Start })
begins_start m s is = record { begins = inl (refl, is); no_sooner = omega arith; later = omega (arith, ap (λ (t : State). t.last) is) }

pub empty_lose : (m : ℕ) (s : State) → s.started ≡ true → IsEmptySince m (apply s (record { moment = m; change = Lose }))
empty_lose m s is = record { table = refl; ends = refl; base = refl; last = refl; started = started_on s (record { moment = m; change = Lose }) is }

same_either_way : (b : Bool) (m : ℕ) → cond {A = ℕ} b m m ≡ m
same_either_way true m = refl
same_either_way false m = refl

renamed_bare : (m : ℕ) (a : Address) (told : Option Address) → apply (record { table = empty_table; ends = []; base = m; address = told; last = m; started = true }) (renumber_at m a) ≡ state_anew m a
renamed_bare m a None = refl
renamed_bare m a (Some b) = ap (λ (n : ℕ). record { table = empty_table; ends = []; base = n; address = Some a; last = m; started = true }) (same_either_way (not (same_address a b)) m)

bare : (m : ℕ) (s : State) → IsEmptySince m s → s ≡ record { table = empty_table; ends = []; base = m; address = s.address; last = m; started = true }
bare m s is =
    ap (λ (t : Table). record { table = t; ends = s.ends; base = s.base; address = s.address; last = s.last; started = s.started }) is.table
    ∙ ap (λ (l : List End). record { table = empty_table; ends = l; base = s.base; address = s.address; last = s.last; started = s.started }) is.ends
    ∙ ap (λ (n : ℕ). record { table = empty_table; ends = []; base = n; address = s.address; last = s.last; started = s.started }) is.base
    ∙ ap (λ (n : ℕ). record { table = empty_table; ends = []; base = m; address = s.address; last = n; started = s.started }) is.last
    ∙ ap (λ (b : Bool). record { table = empty_table; ends = []; base = m; address = s.address; last = m; started = b }) is.started

-- an emptied journal that is told the address
pub renamed : (m : ℕ) (a : Address) (s : State) → IsEmptySince m s → apply s (renumber_at m a) ≡ state_anew m a
renamed m a s is = ap (λ (t : State). apply t (renumber_at m a)) (bare m s is) ∙ renamed_bare m a s.address

-- ---- a book of which no call was refused

not_disk : (f : Option JournalFault) → f ≡ None → f ≡ Some Disk → ⊥
not_disk f none disk = cc

pub clean_settles : {D : Type 0} (tells : Type 0) (seen : D → List ℕ) (moment : D → ℕ) (left_since : D → ℕ → List ℕ → Type 0) (may_leave : D → List ℕ → Type 0) (now : ℕ) (b : BookView D) →
    IsBook tells seen may_leave b → b.fault ≡ None → Settles tells moment left_since may_leave now b b (record { journal = Clean; address = None })
clean_settles tells seen moment left_since may_leave now b is none = record {
  means = record { settled = none; same = refl; unnamed = refl };
  clean = λ _. refl;
  expected = λ _. tt;
  last = omega (arith, is.later);
  terms = refl;
  renumbered = refl;
  fault = none;
  sure = is.sure (not_disk b.fault none);
  moments = λ told. pair_started moment left_since may_leave b.journal.pair (StandsForWithOrWithout b.state b.unsure) (is.images told);
}

pub clean_has_settled : {D : Type 0} (tells : Type 0) (seen : D → List ℕ) (moment : D → ℕ) (left_since : D → ℕ → List ℕ → Type 0) (may_leave : D → List ℕ → Type 0) (now : ℕ) (b : BookView D) →
    IsBook tells seen may_leave b → b.fault ≡ None → HasSettled tells moment left_since may_leave now b b
clean_has_settled tells seen moment left_since may_leave now b is none =
    (record { journal = Clean; address = None }, clean_settles tells seen moment left_since may_leave now b is none)
