-- What a pass knows of its turn (our own).
use Rattle.std.specs.Prelude.{◌≡◌, ℕ, ◌+◌, ◌-◌, ◌<◌, ◌%◌, ◌^◌, ◌∷◌, [], Bool, true, false, not, List, ◌++◌, length, Option, None}
use Rattle.std.specs.List.{range_with_len}
use mathlib.Core.List.{IsPrefix}
use Rattle.atomic_table.specs.Seated.{TableId}
use Rattle.turn_lock.specs.declared.layout.TheConstants.{VALUE}
use Rattle.turn_lock.specs.declared.views.TurnView.{TurnView}
use Rattle.turn_lock.specs.Places.{ArePlaces, behind_if}
use Rattle.turn_lock.specs.declared.views.Noted.{Noted}
use Rattle.turn_lock.specs.Marks.{marks_beside, noted_entries, noted_marks}
use Rattle.turn_lock.specs.Views.{SeatState, IsPlacedView, new_room, out_view}

-- a turn, as contracts see it: its name, and what it was told when it was made
pub record TurnName (K : Type 0) : Type 0 where
  pub id : TableId
  pub key : K

-- a pass, as contracts see it: its turn, whether its held value is out, how many passes may come of
-- it, itself among them, the entries that it has seen, with their marks, and the places of those that
-- it noted, its own and those of settlings
pub record PassKnowledge (E M : Type 0) : Type 0 where
  pub turn : TableId
  pub out : Bool
  pub room : ℕ
  pub seen : List E
  pub marks : List M
  pub mine : List ℕ
  pub settled : List ℕ

module _ {E M : Type 0} where
  abbrev pub knowledge_of : TableId → TurnView (Noted E M) → PassKnowledge E M
  knowledge_of turn v = record {
    turn = turn;
    out = v.out;
    room = v.room;
    seen = noted_entries v.seen;
    marks = noted_marks v.seen;
    mine = v.mine;
    settled = v.settled;
  }

  -- its places are below the length of what it has seen, each once
  abbrev pub IsPlaced : PassKnowledge E M → Type 0
  IsPlaced p = ArePlaces p.mine p.settled (length p.seen)

  -- it has seen the same, and maybe more, and has noted the same
  pub record SeesMore (old new : PassKnowledge E M) : Type 0 where
    pub turn : new.turn ≡ old.turn
    pub room : new.room ≡ old.room
    pub seen : IsPrefix old.seen new.seen
    pub marks : IsPrefix old.marks new.marks
    pub mine : new.mine ≡ old.mine
    pub settled : new.settled ≡ old.settled

  -- the entries xs stand behind what it had seen, each with this mark, and their places join one of
  -- its lists
  abbrev pub after_note : Bool → List E → M → PassKnowledge E M → PassKnowledge E M
  after_note own xs mark p =
      let new : List ℕ = range_with_len (length p.seen) (length xs) in
      record {
        turn = p.turn;
        out = p.out;
        room = p.room;
        seen = p.seen ++ xs;
        marks = p.marks ++ marks_beside mark xs;
        mine = behind_if own p.mine new;
        settled = behind_if (not own) p.settled new;
      }

  -- its value is back
  abbrev pub after_give : PassKnowledge E M → PassKnowledge E M
  after_give p = record {
    turn = p.turn;
    out = false;
    room = p.room;
    seen = p.seen;
    marks = p.marks;
    mine = p.mine;
    settled = p.settled;
  }

  -- a pass that has noted nothing
  abbrev pub new_pass : TableId → ℕ → List E → List M → PassKnowledge E M
  new_pass turn room seen marks = record {
    turn = turn;
    out = false;
    room = room;
    seen = seen;
    marks = marks;
    mine = [];
    settled = [];
  }

  -- a pass was split in two, which have its room together; the new one has noted nothing
  pub record SplitsPass (old kept new : PassKnowledge E M) : Type 0 where
    pub kept_is : kept ≡ record old { room = old.room - new_room old.room }
    pub new_is : new ≡ new_pass old.turn (new_room old.room) old.seen old.marks
    pub whole : kept.room + new.room ≡ old.room

-- the slots that a seat has taken
abbrev pub carried_slots : {S : Type 0} → Bool → List (ℕ × Option S)
carried_slots true = (VALUE, None) ∷ []
carried_slots false = []

module _ {S E : Type 0} where
  -- the seat of a pass, whose room this is
  pub record IsPass (room : ℕ) (m : SeatState (Option S) E) : Type 0 where
    pub room_is : room ≡ m.0.room
    pub some : 0 < room
    pub rests : m.0.waits ≡ m.0.out
    pub carries : m.1 ≡ carried_slots m.0.out
    pub placed : IsPlacedView m.0

  -- it has no ticket, but room for one
  pub record IsIdle (m : SeatState (Option S) E) : Type 0 where
    pub carries : m.1 ≡ []
    pub rests : m.0.waits ≡ false
    pub home : m.0.out ≡ false
    pub room : 0 < m.0.room

  -- it has drawn this ticket, and its turn has not come
  pub record IsWaiting (ticket : ℕ) (m : SeatState (Option S) E) : Type 0 where
    pub carries : m.1 ≡ []
    pub waits : m.0.waits ≡ true
    pub home : m.0.out ≡ false
    pub ticket_is : ticket ≡ m.0.ticket % 2 ^ 64

  -- its turn has come, and this value was taken out
  pub record TakesOut (stands : S → List E → Type 0) (added : S → List E)
      (old new : SeatState (Option S) E) (value : S) : Type 0 where
    pub next : new ≡ (out_view new.0.seen old.0, (VALUE, None) ∷ [])
    pub begins : IsPrefix old.0.seen new.0.seen
    pub stands_for : stands value new.0.seen
    pub clean : added value ≡ []
    pub placed : IsPlacedView new.0
