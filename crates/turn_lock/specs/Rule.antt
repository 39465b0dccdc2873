-- The rule of a turn's table (our own). The word HISTORY is the length of the history, TICKET the
-- number of tickets drawn, and SERVING the number of turns that are over, each modulo 2^64. The
-- slot has the value.
use Rattle.std.specs.Prelude.{◌≡◌, ℕ, ◌+◌, ◌%◌, ◌^◌, ◌<◌, ◌≤◌, ◌⊎◌, true, false, List, [], length, slice_index, Option, Some}
use mathlib.Core.Option.{some}
use mathlib.Core.Option as maybe
use mathlib.Core.List.{IsPrefix}
use lib.ListN.{get_elem?}
use Rattle.atomic_table.specs.Table.{State}
use Rattle.turn_lock.specs.declared.layout.TheConstants.{HISTORY, TICKET, SERVING, VALUE}
use Rattle.turn_lock.specs.declared.views.TurnView.{TurnView}
use Rattle.turn_lock.specs.Places.{total}
use Rattle.turn_lock.specs.Views.{tickets_held, room_of, count_in_view}

-- a view that waits has a ticket that is out, and room
pub record HasTicket (served drawn ticket room : ℕ) : Type 0 where
  pub unserved : served ≤ ticket
  pub is_drawn : ticket < drawn
  pub some_room : 0 < room

-- the value is out with the view: its ticket is served, and it has seen the whole history
pub record HasValue {E : Type 0} (log : List E) (served : ℕ) (v : TurnView E) : Type 0 where
  pub waits : v.waits ≡ true
  pub is_served : v.ticket ≡ served
  pub all : v.seen ≡ log

module _ {E : Type 0} where
  -- What the rule says of one view. What it has seen begins the history, and what it is told begins
  -- that.
  pub record FitsHistory (log : List E) (served drawn : ℕ) (v : TurnView E) : Type 0 where
    pub begins : IsPrefix v.seen log
    pub heard : IsPrefix v.told v.seen
    pub waiting : v.waits ≡ true → HasTicket served drawn v.ticket v.room
    pub holding : v.out ≡ true → HasValue log served v
    pub below : (x : ℕ) → 0 < count_in_view x v → x < length v.seen

  -- no two views have one ticket
  abbrev pub HaveOwnTickets : List (TurnView E) → Type 0
  HaveOwnTickets views =
      (i j : ℕ) (v w : TurnView E) → get_elem? views i ≡ some v → get_elem? views j ≡ some w
      → v.waits ≡ true → w.waits ≡ true → v.ticket ≡ w.ticket → i ≡ j

  -- the value is out with one view
  abbrev pub IsOut : List (TurnView E) → Type 0
  IsOut views = (o : ℕ) × (v : TurnView E) × (get_elem? views o ≡ some v) × (v.out ≡ true)

  -- a view with room has seen the whole history
  abbrev pub IsKnown : List E → List (TurnView E) → Type 0
  IsKnown log views =
      (k : ℕ) × (v : TurnView E) × (get_elem? views k ≡ some v) × (0 < v.room) × (v.seen ≡ log)

  -- the value is out with none
  abbrev pub NoneIsOut : List (TurnView E) → Type 0
  NoneIsOut views = (j : ℕ) (v : TurnView E) → get_elem? views j ≡ some v → v.out ≡ false

module _ {X E : Type 0} (stands : X → List E → Type 0) (added : X → List E) where
  -- the value is at home, stands for the history, and has added nothing
  abbrev pub IsHomeFor : List E → List (maybe.Option (Option X)) → Type 0
  IsHomeFor log homes =
      (x : X) × (get_elem? homes VALUE ≡ some (some (Some x))) × stands x log × (added x ≡ [])

  -- The rule. `log` is the history, and `served` the number of turns that are over.
  pub record IsRuled (s : State (Option X) (TurnView E)) : Type 0 where
    pub log : List E
    pub served : ℕ
    pub wide : length s.words ≡ 3
    pub single : length s.homes ≡ 1
    pub history_is : slice_index s.words HISTORY ≡ length log % 2 ^ 64
    pub ticket_is : slice_index s.words TICKET ≡ (served + total tickets_held s.views) % 2 ^ 64
    pub serving_is : slice_index s.words SERVING ≡ served % 2 ^ 64
    pub each : (j : ℕ) (v : TurnView E) → get_elem? s.views j ≡ some v
        → FitsHistory log served (served + total tickets_held s.views) v
    pub apart : HaveOwnTickets s.views
    pub value : (IsHomeFor log s.homes × NoneIsOut s.views) ⊎ IsOut s.views
    pub known : IsKnown log s.views
    -- each place stands once at most in all the lists of all views
    pub once : (x : ℕ) → total (count_in_view x) s.views ≤ 1
    -- each view that waits has room, so fewer than 2^64 wait
    pub few : total room_of s.views < 2 ^ 64
