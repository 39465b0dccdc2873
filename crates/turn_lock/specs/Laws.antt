-- What follows from the rule, and from what passes know (our own).
use Rattle.std.specs.Prelude.{◌≡◌, ◌≢◌, ℕ, ◌+◌, ◌%◌, ◌^◌, ◌≤◌, ◌⊎◌, Bool, not, List, length, Option, Some, slice_get, slice_index}
use Rattle.std.specs.List.{range_with_len}
use mathlib.Core.Option.{some}
use mathlib.Core.List.{IsPrefix}
use lib.ListN.{get_elem?}
use Rattle.atomic_table.specs.Table.{State}
use Rattle.turn_lock.specs.declared.layout.TheConstants.{TICKET, SERVING}
use Rattle.turn_lock.specs.declared.views.TurnView.{TurnView}
use Rattle.turn_lock.specs.Places.{one_if, occurrences}
use Rattle.turn_lock.specs.Views.{count_in_view, tickets}
use Rattle.turn_lock.specs.Rule.{IsRuled}
use Rattle.turn_lock.specs.Passes.{PassKnowledge, IsPlaced, after_note}

-- what one has seen begins what the other has seen
abbrev pub ShareHistory : {E : Type 0} → TurnView E → TurnView E → Type 0
ShareHistory v w = IsPrefix v.seen w.seen ⊎ IsPrefix w.seen v.seen

-- any two views of one turn share the history
abbrev pub ViewsShareHistory : (X E : Type 0) → (X → List E → Type 0) → (X → List E) → Type 0
ViewsShareHistory X E stands added =
    (s : State (Option X) (TurnView E)) → IsRuled stands added s
    → (i j : ℕ) (v w : TurnView E) → get_elem? s.views i ≡ some v → get_elem? s.views j ≡ some w
    → ShareHistory v w

-- no place stands in the lists of two views of one turn
abbrev pub ViewsShareNoPlace : (X E : Type 0) → (X → List E → Type 0) → (X → List E) → Type 0
ViewsShareNoPlace X E stands added =
    (s : State (Option X) (TurnView E)) → IsRuled stands added s
    → (i j : ℕ) (v w : TurnView E) → get_elem? s.views i ≡ some v → get_elem? s.views j ≡ some w
    → i ≢ j → (x : ℕ) → count_in_view x v + count_in_view x w ≤ 1

-- the numbers of the list are n numbers from the first on, each once
abbrev pub AreNumbersFrom : ℕ → List ℕ → Type 0
AreNumbersFrom first xs =
    (n : ℕ) → occurrences n xs ≡ occurrences n (range_with_len first (length xs))

-- the tickets out are the numbers from `served` on, each once; SERVING shows `served`, and TICKET
-- the number behind the last of them
pub record TicketsGoOn {E : Type 0} (words : List ℕ) (views : List (TurnView E)) : Type 0 where
  pub served : ℕ
  pub serving : slice_index words SERVING ≡ served % 2 ^ 64
  pub ticket : slice_index words TICKET ≡ (served + length (tickets views)) % 2 ^ 64
  pub out : AreNumbersFrom served (tickets views)

abbrev pub TicketsGoOnInTurn : (X E : Type 0) → (X → List E → Type 0) → (X → List E) → Type 0
TicketsGoOnInTurn X E stands added =
    (s : State (Option X) (TurnView E)) → IsRuled stands added s → TicketsGoOn s.words s.views

-- a pass knows all that it knew, and maybe more
pub record KnowsMore {E M : Type 0} (old new : PassKnowledge E M) : Type 0 where
  pub seen : IsPrefix old.seen new.seen
  pub marks : IsPrefix old.marks new.marks
  pub mine : (x : ℕ) → occurrences x old.mine ≤ occurrences x new.mine
  pub settled : (x : ℕ) → occurrences x old.settled ≤ occurrences x new.settled

-- the entry stands at this place, and the place once in `mine` where it is the pass's own, else
-- once in `settled`
pub record StandsOnce {E M : Type 0} (own : Bool) (entry : E) (place : ℕ) (p : PassKnowledge E M)
    : Type 0 where
  pub there : slice_get p.seen place ≡ Some entry
  pub mine : occurrences place p.mine ≡ one_if own
  pub settled : occurrences place p.settled ≡ one_if (not own)

-- an entry that a pass noted stands once in all that the pass, or one that it met, knows from then
-- on
abbrev pub NotedStandsOnce : (E M : Type 0) → Type 0
NotedStandsOnce E M =
    (own : Bool) (xs : List E) (mark : M) (old new : PassKnowledge E M) (k : ℕ) (entry : E)
    → KnowsMore (after_note own xs mark old) new → IsPlaced new → slice_get xs k ≡ Some entry
    → StandsOnce own entry (length old.seen + k) new
