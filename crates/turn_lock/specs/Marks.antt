-- Entries of a history, each with its mark (our own).
use Rattle.std.specs.Prelude.{List, map}
use Rattle.turn_lock.specs.declared.views.Noted.{Noted}

module _ {E M : Type 0} where
  abbrev pub noted_entries : List (Noted E M) → List E
  noted_entries noted = map (λ n. n.entry) noted

  abbrev pub noted_marks : List (Noted E M) → List M
  noted_marks noted = map (λ n. n.mark) noted

  -- each entry with this mark
  abbrev pub with_mark : M → List E → List (Noted E M)
  with_mark mark entries = map (λ e. record { entry = e; mark = mark }) entries

  -- this mark once for each entry
  abbrev pub marks_beside : M → List E → List M
  marks_beside mark entries = map (λ e. mark) entries

  -- what a value stands for, and what it has added, with the marks
  module _ {X : Type 0} where
    abbrev pub stands_noted : (X → List E → List M → Type 0) → X → List (Noted E M) → Type 0
    stands_noted stands x noted = stands x (noted_entries noted) (noted_marks noted)

    abbrev pub added_noted : (X → List E) → (X → M) → X → List (Noted E M)
    added_noted added mark x = with_mark (mark x) (added x)
