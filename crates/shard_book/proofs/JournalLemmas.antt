-- Journals in which nothing is in doubt.
use Rattle.std.proofs.Common.{◌≡◌, inl, ℕ, ◌+◌, ◌-◌, ◌^◌, ◌<◌, ◌≤◌, false, List, [], ◌∷◌, length, refl, arith}
use Rattle.std.specs.Prelude.{Result, Ok, Err, OnOk}
use Rattle.pcp_base.specs.declared.records.Record.{Record}
use Rattle.pcp_base.specs.States.{State}
use Rattle.lease_disk.specs.declared.disks.DiskPair.{DiskPair}
use Rattle.lease_disk.specs.Pairs.{HoldsNow, PairLeavesOnly}
use Rattle.lease_disk.proofs.PairLemmas.{pair_started, pair_weaker}
use Rattle.journal_sides.specs.declared.formats.Format.{Format}
use Rattle.journal_sides.specs.declared.formats.Format.TheVariants.{First, Second}
use Rattle.journal_sides.specs.Formats.{HasNext, format_octet}
use Rattle.journal_sides.specs.Frames.{frames_octets}
use Rattle.journal_sides.specs.Journals.{StandsFor, StandsForWithOrWithout}
use Rattle.journal_sides.specs.Laws.{OneState}
use Rattle.lease_journal.specs.Views.{JournalView, IsSettled}
use Rattle.lease_journal.proofs.StandingLaws.{settled_holds, stands_for}
use Rattle.shard_book.specs.Books.{IsWritable}
use Rattle.shard_book.specs.Keepings.{IsAppended, IsBeside}

pub one_settled : {D : Type 0} → OneState → (seen : D → List ℕ) (may_leave : D → List ℕ → Type 0) (j : JournalView D) (s t : State) → IsSettled seen may_leave j s → IsSettled seen may_leave j t → s ≡ t
one_settled one seen may_leave j s t is_s is_t =
    one (seen j.pair.a) (seen j.pair.b) s t (stands_for j.side j.standing s (seen j.pair.a) (seen j.pair.b) is_s.sides) (stands_for j.side j.standing t (seen j.pair.a) (seen j.pair.b) is_t.sides)

-- each image stands for its state
pub holds_settled : {D : Type 0} (seen : D → List ℕ) (may_leave : D → List ℕ → Type 0) (j : JournalView D) (s : State) → IsSettled seen may_leave j s → HoldsNow may_leave (StandsFor s) j.pair
holds_settled seen may_leave j s is = settled_holds seen may_leave j.side j.standing j.pair s is

-- while nothing is written
pub still_settled : {D : Type 0} (seen : D → List ℕ) (may_leave : D → List ℕ → Type 0) (moment : D → ℕ) (left_since : D → ℕ → List ℕ → Type 0) (j : JournalView D) (s : State) → IsSettled seen may_leave j s → PairLeavesOnly moment left_since may_leave j.pair j.pair (StandsFor s)
still_settled seen may_leave moment left_since j s is = pair_started moment left_since may_leave j.pair (StandsFor s) (holds_settled seen may_leave j s is)

-- standing for a state is standing for it with or without records
pub without : {D : Type 0} (moment : D → ℕ) (left_since : D → ℕ → List ℕ → Type 0) (may_leave : D → List ℕ → Type 0) (old new : DiskPair D) (s : State) (rs : List Record) → PairLeavesOnly moment left_since may_leave old new (StandsFor s) → PairLeavesOnly moment left_since may_leave old new (StandsForWithOrWithout s rs)
without moment left_since may_leave old new s rs run = pair_weaker moment left_since may_leave old new (StandsFor s) (StandsForWithOrWithout s rs) run (λ x y is. inl is)

pub is_second : (f : Format) → format_octet f ≡ 2 → f ≡ Second
is_second First is = absurd (omega (arith, is))
is_second Second is = refl

pub next_of_first : (f : Format) (g : ℕ) → (format_octet f ≡ 2 → ⊥) → HasNext f g → g < 2 ^ 64 - 1
next_of_first First g not_second next = omega (arith, next)
next_of_first Second g not_second next = absurd (not_second refl)

pub last_second : (f : Format) (g : ℕ) → HasNext f g → g ≡ 2 ^ 64 - 1 → f ≡ Second
last_second First g next last = absurd (omega (arith, next, last))
last_second Second g next last = refl

pub none_left : {A : Type 0} (xs : List A) → length xs ≡ 0 → xs ≡ []
none_left [] is = refl
none_left (x ∷ xs) is = absurd (omega (arith, is))

pub appended_ok : {D T E : Type 0} → (r : Result T E) (tells : Type 0) (seen : D → List ℕ) (rs : List Record) (old new : JournalView D) → (rs ≡ [] → new ≡ old) → OnOk r (new.side ≡ old.side) → OnOk r (new.standing.generation ≡ old.standing.generation) → OnOk r (new.first_length ≡ old.first_length)
    → (tells → OnOk r (IsBeside seen old new)) → (tells → OnOk r (new.standing.length ≤ old.standing.length + frames_octets rs)) → OnOk r (IsAppended tells seen rs old new)
appended_ok (Ok x) tells seen rs old new idle side generation first beside grown = record { idle = idle; side = side; generation = generation; first_length = first; beside = beside; grown = grown }
appended_ok (Err e) tells seen rs old new idle side generation first beside grown = tt

-- no record was
pub none_appended : {D : Type 0} (tells : Type 0) (seen : D → List ℕ) (rs : List Record) (j : JournalView D) → IsAppended tells seen rs j j
none_appended tells seen rs j = record { idle = λ _. refl; side = refl; generation = refl; first_length = refl; beside = λ _. refl; grown = λ _. omega arith }

pub writable_ok : {D T E : Type 0} → (r : Result T E) (tells : Type 0) (seen : D → List ℕ) (may_leave : D → List ℕ → Type 0) (j : JournalView D) (s : State) → OnOk r (j.unread ≡ false) → OnOk r (j.standing.format ≡ Second) → (tells → OnOk r (IsSettled seen may_leave j s)) → OnOk r (IsWritable tells seen may_leave j s)
writable_ok (Ok x) tells seen may_leave j s read second settled = record { read = read; second = second; settled = settled }
writable_ok (Err e) tells seen may_leave j s read second settled = tt
