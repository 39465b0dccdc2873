-- Entries with their marks, as a pass shows them.
use Rattle.std.proofs.Common.{◌≡◌, ◌∙◌, ℕ, zero, suc, Bool, true, false, not, List, [], ◌∷◌, ◌++◌, length, map}
use Rattle.std.proofs.Common.{nat_lt, if◌then◌else◌, refl, ap, sym, subst}
use Rattle.std.specs.List.{range_with_len}
use Rattle.std.proofs.lemmas.List.{append-nil, length-map, map-append}
use mathlib.Core.List.{IsPrefix}
use Rattle.atomic_table.specs.Seated.{TableId}
use Rattle.turn_lock.specs.declared.views.Noted.{Noted}
use Rattle.turn_lock.specs.declared.views.TurnView.{TurnView}
use Rattle.turn_lock.specs.Lengths.{longer, shorter}
use Rattle.turn_lock.specs.Marks.{marks_beside, noted_entries, noted_marks, with_mark}
use Rattle.turn_lock.specs.Passes.{IsPlaced, PassKnowledge, after_note, knowledge_of}
use Rattle.turn_lock.specs.Places.{ArePlaces, behind_if}
use Rattle.turn_lock.specs.Views.{IsPlacedView, noting_view}

module _ {E M : Type 0} where
  pub entries_with : (mark : M) (xs : List E) → noted_entries (with_mark mark xs) ≡ xs
  entries_with mark [] = refl
  entries_with mark (x ∷ xs) = ap (λ (l : List E). x ∷ l) (entries_with mark xs)

  pub marks_with : (mark : M) (xs : List E) →
      noted_marks (with_mark mark xs) ≡ marks_beside mark xs
  marks_with mark [] = refl
  marks_with mark (x ∷ xs) = ap (λ (l : List M). mark ∷ l) (marks_with mark xs)

  pub none_with : (mark : M) (xs : List E) → with_mark mark xs ≡ [] → xs ≡ []
  none_with mark xs none = sym (entries_with mark xs) ∙ ap noted_entries none

  -- the knowledge of a view, by its lists
  abbrev knows : TableId → TurnView (Noted E M) → (seen : List E) (marks : List M) (mine settled : List ℕ)
      → PassKnowledge E M
  knows turn v seen marks mine settled = record {
    turn = turn;
    out = v.out;
    room = v.room;
    seen = seen;
    marks = marks;
    mine = mine;
    settled = settled;
  }

  -- the view that notes entries with this mark shows what a note makes of its knowledge
  pub notes_after : (turn : TableId) (own : Bool) (xs : List E) (mark : M) (v : TurnView (Noted E M)) →
      knowledge_of turn (noting_view own (with_mark mark xs) v)
      ≡ after_note own xs mark (knowledge_of turn v)
  notes_after turn own xs mark v =
      let seen : noted_entries (v.seen ++ with_mark mark xs) ≡ noted_entries v.seen ++ xs =
      map-append (λ (n : Noted E M). n.entry) v.seen (with_mark mark xs)
      ∙ ap (λ (l : List E). noted_entries v.seen ++ l) (entries_with mark xs) in
      let marks : noted_marks (v.seen ++ with_mark mark xs) ≡ noted_marks v.seen ++ marks_beside mark xs =
      map-append (λ (n : Noted E M). n.mark) v.seen (with_mark mark xs)
      ∙ ap (λ (l : List M). noted_marks v.seen ++ l) (marks_with mark xs) in
      let here : length v.seen ≡ length (noted_entries v.seen) =
      sym (length-map v.seen (λ (n : Noted E M). n.entry)) in
      let many : length (with_mark mark xs) ≡ length xs =
      length-map xs (λ (e : E). record { entry = e; mark = mark }) in
      let new : range_with_len (length v.seen) (length (with_mark mark xs))
      ≡ range_with_len (length (noted_entries v.seen)) (length xs) =
      ap (λ (n : ℕ). range_with_len n (length (with_mark mark xs))) here
      ∙ ap (range_with_len (length (noted_entries v.seen))) many in
      ap (λ (l : List E). knows turn v l (noted_marks (v.seen ++ with_mark mark xs))
      (behind_if own v.mine (range_with_len (length v.seen) (length (with_mark mark xs))))
      (behind_if (not own) v.settled (range_with_len (length v.seen) (length (with_mark mark xs))))) seen
      ∙ ap (λ (l : List M). knows turn v (noted_entries v.seen ++ xs) l
      (behind_if own v.mine (range_with_len (length v.seen) (length (with_mark mark xs))))
      (behind_if (not own) v.settled (range_with_len (length v.seen) (length (with_mark mark xs))))) marks
      ∙ ap (λ (l : List ℕ). knows turn v (noted_entries v.seen ++ xs) (noted_marks v.seen ++ marks_beside mark xs)
      (behind_if own v.mine l) (behind_if (not own) v.settled l)) new

  -- places in what a view has seen are places in what it shows
  pub placed_shown : (turn : TableId) (v : TurnView (Noted E M)) → IsPlacedView v →
      IsPlaced (knowledge_of turn v)
  placed_shown turn v placed = subst (ArePlaces v.mine v.settled)
      (sym (length-map v.seen (λ (n : Noted E M). n.entry))) placed

pub prefix_mapped : {X Y : Type 0} (f : X → Y) (xs ys : List X) → IsPrefix xs ys →
    IsPrefix (map f xs) (map f ys)
prefix_mapped f xs ys (more, is) = (map f more, sym (map-append f xs more) ∙ ap (map f) is)

longer_by : {X Y : Type 0} (f : X → Y) (xs ys : List X) (b : Bool) →
    map f (if b then ys else xs) ≡ if b then map f ys else map f xs
longer_by f xs ys true = refl
longer_by f xs ys false = refl

pub longer_mapped : {X Y : Type 0} (f : X → Y) (xs ys : List X) →
    map f (longer xs ys) ≡ longer (map f xs) (map f ys)
longer_mapped f xs ys =
    longer_by f xs ys (nat_lt (length xs) (length ys))
    ∙ ap (λ n. if nat_lt n (length ys) then map f ys else map f xs) (sym (length-map xs f))
    ∙ ap (λ n. if nat_lt (length (map f xs)) n then map f ys else map f xs) (sym (length-map ys f))

begin_by : {X : Type 0} (xs ys : List X) (b : Bool) →
    IsPrefix (if b then xs else ys) (if b then ys else xs) →
    IsPrefix xs (if b then ys else xs) × IsPrefix ys (if b then ys else xs)
begin_by xs ys true begins = (begins, ([], append-nil ys))
begin_by xs ys false begins = (([], append-nil xs), begins)

-- where the shorter of two lists begins the longer, both do
pub both_begin : {X : Type 0} (xs ys : List X) → IsPrefix (shorter xs ys) (longer xs ys) →
    IsPrefix xs (longer xs ys) × IsPrefix ys (longer xs ys)
both_begin xs ys begins = begin_by xs ys (nat_lt (length xs) (length ys)) begins
