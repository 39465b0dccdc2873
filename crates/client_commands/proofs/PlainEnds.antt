-- What a parse makes of plain words at their end.
use Rattle.std.proofs.Common.{◌≡◌, List, [], ◌∷◌, ◌++◌, map, Option, Some, None, inl, inr, refl, sym, ap, ◌∙◌, codes, true, false}
use Rattle.std.specs.Prelude.{⊤, Bool, ◌||◌, ◌⊎◌, fold, find, flat_map, if◌then◌else◌, option_map, is_some, option_and_then, slice_get}
use Rattle.std.specs.Option.{option_map_or}
use Rattle.clap.specs.Facts.{explicit_source}
use Rattle.std.proofs.lemmas.List.Folds.{list_any-append}
use Rattle.std.proofs.lemmas.Slice.Eq.{bytes_eq-Decides}
use Rattle.std.specs.Str.{bytes_eq}
use Rattle.clap.specs.Walk.{Held, Row, Rule, Text, finished, first_of, has_row, more_values, nothing_held, settled, walk, walk_from, walked, with_default, with_values}
use Rattle.clap.specs.Simple.{Shape, filled, help_rule, with_index}
use Rattle.clap.specs.Takes.{is_given}
use Rattle.clap.specs.Faults.{built_fault, check_fault, defaults_fault, settle_fault, walk_fault}
use Rattle.clap.specs.Kinds.{or_else}
use Rattle.clap.specs.declared.builder.value_parser.Reading.TheVariants as reading
use Rattle.clap.specs.declared.parser.matches.ValueSource.TheVariants.{DefaultValue}
use Rattle.client_commands.specs.Values.{flag_at}
use Rattle.client_commands.specs.PlainWords.{AreOnce, Given, name_of, value_given, value_of, words_of}
use Rattle.client_commands.proofs.PlainWalks.{AreFresh, AreGood, at_row-missing, built_flag, built_option, cond_same, row_of, walks}

-- ---- names

pub other_name : (a b : Text) → (a ≡ b → ⊥) → bytes_eq a b ≡ false
other_name a b differ = either (bytes_eq a b) refl
  where
    either : (t : Bool) → bytes_eq a b ≡ t → bytes_eq a b ≡ false
    either true same = absurd (differ ((bytes_eq-Decides a b).0 same))
    either false differs = differs

pub same_name : (a : Text) → bytes_eq a a ≡ true
same_name a = (bytes_eq-Decides a a).1 refl

-- ---- values that are given

given_none : (g : Given) (gs : List Given) (name : Text) → value_given (g ∷ gs) name ≡ None → (bytes_eq (name_of g) name ≡ false) × (value_given gs name ≡ None)
given_none g gs name none = either (bytes_eq (name_of g) name) refl none
  where
    either : (b : Bool) → bytes_eq (name_of g) name ≡ b → option_map value_of (if b then Some g else find (λ g. bytes_eq (name_of g) name) gs) ≡ None
        → (bytes_eq (name_of g) name ≡ false) × (value_given gs name ≡ None)
    either true same none = absurd (cc)
    either false differs none = (differs, none)

-- each of the second list is found in the first
abbrev pub AreFound : List Given → List Given → Type 0
AreFound all [] = ⊤
AreFound all (g ∷ gs) = (value_given all (name_of g) ≡ Some (value_of g)) × AreFound all gs

found_later : (g : Given) (all gs : List Given) → value_given all (name_of g) ≡ None → AreFound all gs → AreFound (g ∷ all) gs
found_later g all [] none found = tt
found_later g all (h ∷ hs) none found = (rw other found.0, found_later g all hs none found.1)
  where
    other : bytes_eq (name_of g) (name_of h) ≡ false
    other = other_name (name_of g) (name_of h) (λ same. absurd (cc (sym none ∙ ap (value_given all) same ∙ found.0)))

pub all_found : (gs : List Given) → AreOnce gs → AreFound gs gs
all_found [] once = tt
all_found (g ∷ gs) once = (rw (same_name (name_of g)) refl, found_later g gs gs once.0 (all_found gs once.1))

-- ---- rows

-- none has a row yet
abbrev AreNew : List Row → List Given → Type 0
AreNew rows [] = ⊤
AreNew rows (g ∷ gs) = (has_row (name_of g) rows ≡ false) × AreNew rows gs

still_new : (rows : List Row) (g : Given) (gs : List Given) → AreNew rows gs → value_given gs (name_of g) ≡ None → AreNew (rows ++ row_of g ∷ []) gs
still_new rows g [] new none = tt
still_new rows g (h ∷ hs) new none =
    let apart = given_none h hs (name_of g) none in
    let other : bytes_eq (name_of g) (name_of h) ≡ false = other_name (name_of g) (name_of h) (λ same. absurd (cc (sym apart.0 ∙ ap (λ (t : Text). bytes_eq (name_of h) t) same ∙ same_name (name_of h)))) in (
      list_any-append (λ (r : Row). bytes_eq r.id (name_of h)) rows (row_of g ∷ []) ∙ rw (new.0, other) refl,
      still_new rows g hs new.1 apart.1,
    )

pub all_fresh : (rows : List Row) (gs : List Given) → AreNew rows gs → AreOnce gs → AreFresh rows gs
all_fresh rows [] new once = tt
all_fresh rows (g ∷ gs) new once = (new.0, all_fresh (rows ++ row_of g ∷ []) gs (still_new rows g gs new.1 once.0) once.1)

none_new : (gs : List Given) → AreNew [] gs
none_new [] = tt
none_new (g ∷ gs) = (refl, none_new gs)

-- the rows have the values
pub rows_say : (gs : List Given) (name : Text) → first_of name (map row_of gs) ≡ value_given gs name
rows_say [] name = refl
rows_say (g ∷ gs) name = either (bytes_eq (name_of g) name) (rows_say gs name)
  where
    either : (b : Bool) → first_of name (map row_of gs) ≡ value_given gs name → option_and_then (λ (r : Row). slice_get r.values 0) (if b then Some (row_of g) else find (λ (r : Row). bytes_eq r.id name) (map row_of gs))
        ≡ option_map value_of (if b then Some g else find (λ g. bytes_eq (name_of g) name) gs)
    either true h = refl
    either false h = h

pub rows_have : (gs : List Given) (name : Text) → is_given name (map row_of gs) ≡ is_some (value_given gs name)
rows_have [] name = refl
rows_have (g ∷ gs) name = either (bytes_eq (name_of g) name) (rows_have gs name)
  where
    either : (b : Bool) → is_given name (map row_of gs) ≡ is_some (value_given gs name) → option_map_or (λ (r : Row). explicit_source r.source) (if b then Some (row_of g) else find (λ (r : Row). bytes_eq r.id name) (map row_of gs)) false
        ≡ is_some (option_map value_of (if b then Some g else find (λ g. bytes_eq (name_of g) name) gs))
    either true h = refl
    either false h = h

-- ---- a flag that isn't given is `false`

abbrev pub default_row : Text → Row
default_row name = record { id = name; values = codes "false" ∷ []; count = None; source = Some DefaultValue; reading = reading.AsWritten }

abbrev pub with_flag : Text → List Row → List Row
with_flag name rows =
    if has_row name rows then rows else with_values name reading.AsWritten DefaultValue (codes "false" ∷ []) rows

pub flag_adds : (name : Text) (rows : List Row) → (with_flag name rows ≡ rows) ⊎ ((has_row name rows ≡ false) × (with_flag name rows ≡ rows ++ default_row name ∷ []))
flag_adds name rows = either (has_row name rows) refl
  where
    either : (b : Bool) → has_row name rows ≡ b
        → (with_flag name rows ≡ rows) ⊎ ((has_row name rows ≡ false) × (with_flag name rows ≡ rows ++ default_row name ∷ []))
    either true has = inl (rw has refl)
    either false none = inr (none, rw none (at_row-missing name (more_values DefaultValue (codes "false" ∷ [])) (default_row name ∷ []) rows none))

find_miss : {X : Type 0} (p : X → Bool) (xs : List X) (x : X) → p x ≡ false → find p (xs ++ x ∷ []) ≡ find p xs
find_miss p [] x none = rw none refl
find_miss p (y ∷ xs) x none = either (p y) (find_miss p xs x none)
  where
    either : (b : Bool) → find p (xs ++ x ∷ []) ≡ find p xs → (if b then Some y else find p (xs ++ x ∷ [])) ≡ (if b then Some y else find p xs)
    either true h = refl
    either false h = h

-- what is found of another name stays
pub others_say : (one name : Text) (rows : List Row) → bytes_eq one name ≡ false → first_of name (with_flag one rows) ≡ first_of name rows
others_say one name rows other = elim (flag_adds one rows) [
  | inl same ↦ ap (first_of name) same
  | inr more ↦
      ap (first_of name) more.1
      ∙ ap (option_and_then (λ (r : Row). slice_get r.values 0)) (find_miss (λ (r : Row). bytes_eq r.id name) rows (default_row one) other)
]

pub others_have : (one name : Text) (rows : List Row) → bytes_eq one name ≡ false → is_given name (with_flag one rows) ≡ is_given name rows
others_have one name rows other = elim (flag_adds one rows) [
  | inl same ↦ ap (is_given name) same
  | inr more ↦
      ap (is_given name) more.1
      ∙ ap (λ (o : Option Row). option_map_or (λ (r : Row). explicit_source r.source) o false) (find_miss (λ (r : Row). bytes_eq r.id name) rows (default_row one) other)
]

find_none : (name : Text) (rows : List Row) (r : Row) → has_row name rows ≡ false → bytes_eq r.id name ≡ true → (find (λ (r : Row). bytes_eq r.id name) rows ≡ None) × (find (λ (r : Row). bytes_eq r.id name) (rows ++ r ∷ []) ≡ Some r)
find_none name [] r none same = (refl, rw same refl)
find_none name (x ∷ xs) r none same = either (bytes_eq x.id name) none (λ h. find_none name xs r h same)
  where
    either : (b : Bool) → (b || has_row name xs) ≡ false
        → (has_row name xs ≡ false → (find (λ (r : Row). bytes_eq r.id name) xs ≡ None) × (find (λ (r : Row). bytes_eq r.id name) (xs ++ r ∷ []) ≡ Some r))
        → ((if b then Some x else find (λ (r : Row). bytes_eq r.id name) xs) ≡ None) × ((if b then Some x else find (λ (r : Row). bytes_eq r.id name) (xs ++ r ∷ [])) ≡ Some r)
    either true none h = absurd (cc)
    either false none h = h none

pub flag_says : (one : Text) (rows : List Row) → flag_at (first_of one (with_flag one rows)) ≡ flag_at (first_of one rows)
flag_says one rows = elim (flag_adds one rows) [
  | inl same ↦ ap (λ rows. flag_at (first_of one rows)) same
  | inr more ↦
      let found = find_none one rows (default_row one) more.0 (same_name one) in
      let of_row : Option Row → Bool = λ o. flag_at (option_and_then (λ (r : Row). slice_get r.values 0) o) in
      ap (λ rows. flag_at (first_of one rows)) more.1 ∙ ap of_row found.1 ∙ sym (ap of_row found.0)
]

-- ---- defaults

abbrev pub built_help : Rule
built_help = with_index 1 (filled help_rule)

-- options, of which each is needed or not
abbrev pub built_all : List (Bool × Text) → List Rule
built_all [] = []
built_all (o ∷ os) = built_option o.0 o.1 ∷ built_all os

pub or_true : (b : Bool) → (b || true) ≡ true
or_true true = refl
or_true false = refl

pub options_add_none : (os : List (Bool × Text)) (rest : List Rule) (rows : List Row) → fold with_default rows (built_all os ++ rest) ≡ fold with_default rows rest
options_add_none [] rest rows = refl
options_add_none (o ∷ os) rest rows =
    ap (λ (r : List Row). fold with_default r (built_all os ++ rest)) (cond_same (has_row o.1 rows) rows) ∙ options_add_none os rest rows

pub options_default_well : (os : List (Bool × Text)) (rest : List Rule) (rows : List Row) → defaults_fault rows (built_all os ++ rest) ≡ defaults_fault rows rest
unfolding defaults_fault
options_default_well [] rest rows = refl
options_default_well (o ∷ os) rest rows =
    rw (or_true (has_row o.1 rows), cond_same (has_row o.1 rows) rows) (options_default_well os rest rows)

pub help_adds_none : (rows : List Row) → fold with_default rows (built_help ∷ []) ≡ rows
help_adds_none rows = cond_same (has_row (codes "help") rows) rows

pub help_defaults_well : (rows : List Row) → defaults_fault rows (built_help ∷ []) ≡ []
unfolding defaults_fault
help_defaults_well rows = rw (or_true (has_row (codes "help") rows)) refl

pub flag_adds_one : (name : Text) (rows : List Row) → fold with_default rows (built_flag name ∷ built_help ∷ []) ≡ with_flag name rows
flag_adds_one name rows = help_adds_none (with_flag name rows)

pub flag_defaults_well : (name : Text) (rows : List Row) → defaults_fault rows (built_flag name ∷ built_help ∷ []) ≡ []
unfolding defaults_fault
flag_defaults_well name rows = either (has_row name rows)
  where
    either : (b : Bool) → or_else (if b || false then [] else []) (defaults_fault (if b then rows else with_values name reading.AsWritten DefaultValue (codes "false" ∷ []) rows) (built_help ∷ [])) ≡ []
    either true = help_defaults_well rows
    either false = help_defaults_well (with_values name reading.AsWritten DefaultValue (codes "false" ∷ []) rows)

-- ---- one level

pub level_well : (s : Shape) (words : List Text) (after : Held) → fold (walked s.rules []) (walk_from nothing_held) words ≡ walk_from after
    → walk_fault s [] (walk_from nothing_held) words ≡ [] → settle_fault s.rules s.args_override_self after ≡ []
    → defaults_fault (settled s.rules after).rows s.rules ≡ [] → check_fault s (finished s.rules after) false ≡ []
    → built_fault (record { top = s; subs = [] }) nothing_held words ≡ []
level_well s words after goes passes calm defaults checks = rw (goes, passes, calm, defaults, checks) refl

-- words of which each is good, and none is given twice: nothing is wrong with them, and this is found
pub record IsReadAs (s : Shape) (gs : List Given) (end : List Row) : Type 0 where
  pub takes : built_fault (record { top = s; subs = [] }) nothing_held (flat_map words_of gs) ≡ []
  pub finds : finished s.rules (walk s.rules [] nothing_held (flat_map words_of gs)).held ≡ end

pub is_read : (s : Shape) (gs : List Given) (end : List Row) → AreGood s.rules gs → AreOnce gs → defaults_fault (map row_of gs) s.rules ≡ []
    → fold with_default (map row_of gs) s.rules ≡ end → check_fault s end false ≡ [] → IsReadAs s gs end
is_read s gs end good once defaults adds checks =
    let w = walks s gs nothing_held good refl (all_fresh [] gs (none_new gs) once) in
    let ends : finished s.rules w.after ≡ end = ap (λ rows. fold with_default rows s.rules) w.rows ∙ adds in
    record {
      takes = level_well s (flat_map words_of gs) w.after w.goes w.passes w.calm (ap (λ rows. defaults_fault rows s.rules) w.rows ∙ defaults)
          (ap (λ rows. check_fault s rows false) ends ∙ checks);
      finds = ap (λ w. finished s.rules w.held) w.goes ∙ ends;
    }
