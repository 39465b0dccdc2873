-- What a seat at a turn's table knows, and what its steps make of that (our own).
use Rattle.std.specs.Prelude.{ℕ, ◌+◌, ◌-◌, ◌*◌, ◌/◌, nat_lt, if◌then◌else◌, Bool, true, false, not, List, [], ◌∷◌, ◌++◌, length}
use Rattle.std.specs.List.{range_with_len}
use Rattle.atomic_table.specs.Table.{Me}
use Rattle.turn_lock.specs.declared.layout.TheConstants.{FIRST_ROOM, NEW_ROOM}
use Rattle.turn_lock.specs.declared.views.TurnView.{TurnView}
use Rattle.turn_lock.specs.Lengths.{longer, shorter}
use Rattle.turn_lock.specs.Places.{one_if, occurrences, ArePlaces, behind_if}

-- what a seat knows, and the slots that it has taken
abbrev pub SeatState : Type 0 → Type 0 → Type 0
SeatState S E = Me S (TurnView E)

-- how much room a new pass gets of this room: NEW_ROOM, but at most a half
abbrev pub new_room : ℕ → ℕ
new_room n = if nat_lt (2 * NEW_ROOM) n then NEW_ROOM else n / 2

module _ {E : Type 0} where
  abbrev pub tickets_held : TurnView E → ℕ
  tickets_held v = one_if v.waits

  -- the tickets that are out
  abbrev pub tickets : List (TurnView E) → List ℕ
  tickets [] = []
  tickets (v ∷ vs) = if v.waits then v.ticket ∷ tickets vs else tickets vs

  abbrev pub room_of : TurnView E → ℕ
  room_of v = v.room

  -- how often a place stands in the two lists of a view
  abbrev pub count_in_view : ℕ → TurnView E → ℕ
  count_in_view x v = occurrences x v.mine + occurrences x v.settled

  -- its places are below the length of what it has seen, each once
  abbrev pub IsPlacedView : TurnView E → Type 0
  IsPlacedView v = ArePlaces v.mine v.settled (length v.seen)

  -- the first view
  abbrev pub founding_view : TurnView E
  founding_view = record {
    waits = false;
    out = false;
    ticket = 0;
    room = FIRST_ROOM;
    seen = [];
    told = [];
    mine = [];
    settled = [];
  }

  -- it waits with this ticket
  abbrev pub waiting_view : ℕ → TurnView E → TurnView E
  waiting_view ticket v = record {
    waits = true;
    out = false;
    ticket = ticket;
    room = v.room;
    seen = v.seen;
    told = v.told;
    mine = v.mine;
    settled = v.settled;
  }

  -- its turn has come, and it has seen this list
  abbrev pub out_view : List E → TurnView E → TurnView E
  out_view seen v = record {
    waits = true;
    out = true;
    ticket = v.ticket;
    room = v.room;
    seen = seen;
    told = v.told;
    mine = v.mine;
    settled = v.settled;
  }

  -- the entries stand behind what was seen, and their places join `mine` or `settled`
  abbrev pub noting_view : Bool → List E → TurnView E → TurnView E
  noting_view own xs v =
      let new : List ℕ = range_with_len (length v.seen) (length xs) in
      record {
        waits = v.waits;
        out = v.out;
        ticket = v.ticket;
        room = v.room;
        seen = v.seen ++ xs;
        told = v.told;
        mine = behind_if own v.mine new;
        settled = behind_if (not own) v.settled new;
      }

  -- its turn is over
  abbrev pub idle_view : TurnView E → TurnView E
  idle_view v = record {
    waits = false;
    out = false;
    ticket = v.ticket;
    room = v.room;
    seen = v.seen;
    told = v.told;
    mine = v.mine;
    settled = v.settled;
  }

  -- it has given a part of its room away
  abbrev pub keeper_view : TurnView E → TurnView E
  keeper_view v = record {
    waits = v.waits;
    out = v.out;
    ticket = v.ticket;
    room = v.room - new_room v.room;
    seen = v.seen;
    told = v.told;
    mine = v.mine;
    settled = v.settled;
  }

  -- the new view, to which that part was given
  abbrev pub newcomer_view : TurnView E → TurnView E
  newcomer_view v = record {
    waits = false;
    out = false;
    ticket = 0;
    room = new_room v.room;
    seen = v.seen;
    told = [];
    mine = [];
    settled = [];
  }

  -- it has seen the longer of two lists, is told the shorter, and has what both have noted
  abbrev pub meeting_view : TurnView E → TurnView E → TurnView E
  meeting_view v w = record {
    waits = v.waits;
    out = v.out;
    ticket = v.ticket;
    room = v.room + w.room;
    seen = longer v.seen w.seen;
    told = shorter v.seen w.seen;
    mine = v.mine ++ w.mine;
    settled = v.settled ++ w.settled;
  }

  -- the view that was taken in has nothing left
  abbrev pub spent_view : TurnView E
  spent_view = record {
    waits = false;
    out = false;
    ticket = 0;
    room = 0;
    seen = [];
    told = [];
    mine = [];
    settled = [];
  }

  -- it has found that what it is told begins what it has seen
  abbrev pub looked_view : TurnView E → TurnView E
  looked_view v = record {
    waits = v.waits;
    out = v.out;
    ticket = v.ticket;
    room = v.room;
    seen = v.seen;
    told = [];
    mine = v.mine;
    settled = v.settled;
  }
