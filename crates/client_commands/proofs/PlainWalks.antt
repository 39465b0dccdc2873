-- What a walk makes of options with their values.
use Rattle.std.proofs.Common.{◌≡◌, List, [], ◌∷◌, ◌++◌, map, Some, None, refl, sym, subst, ap, ◌∙◌, codes, true, false}
use Rattle.std.specs.Prelude.{⊤, Bool, ◌||◌, fold, flat_map, if◌then◌else◌}
use Rattle.std.proofs.lemmas.List.{append-nil, append_assoc}
use Rattle.std.specs.Str.{bytes_eq}
use Rattle.clap.specs.Lexer.{long_of, short_of}
use Rattle.clap.specs.Walk.{Held, Row, Rule, Text, Walk, arg_by_id, arg_by_long, at_row, has_row, more_values, option as waits_for, settled, reacted, walk_from, walked, without, with_values}
use Rattle.clap.specs.Simple.{Shape, filled, with_index}
use Rattle.clap.specs.Faults.{settle_fault, walk_fault, use_fault}
use Rattle.clap.specs.declared.builder.value_parser.Reading.TheVariants as reading
use Rattle.clap.specs.declared.parser.matches.ValueSource.TheVariants.{CommandLine}
use Rattle.client_commands.specs.Options.{flag_rule, option_rule}
use Rattle.client_commands.specs.PlainWords.{Given, flag, name_of, option, value_of, words_of}

abbrev pub built_option : Bool → Text → Rule
built_option needed name = with_index 1 (filled (option_rule needed name))

abbrev pub built_flag : Text → Rule
built_flag name = with_index 1 (filled (flag_rule name))

abbrev dashes : Text
dashes = 45 ∷ 45 ∷ []

-- the row of a value that is given
abbrev pub row_for : Text → Text → Row
row_for name value = record { id = name; values = value ∷ []; count = None; source = Some CommandLine; reading = reading.AsWritten }

-- ---- rows

pub cond_same : {X : Type 0} (b : Bool) (x : X) → (if b then x else x) ≡ x
cond_same true x = refl
cond_same false x = refl

pub at_row-missing : (id : Text) (change : Row → List Row) (missing rows : List Row) → has_row id rows ≡ false → at_row id change missing rows ≡ rows ++ missing
at_row-missing id change missing [] none = refl
at_row-missing id change missing (r ∷ rows) none = other (bytes_eq r.id id) none (λ h. at_row-missing id change missing rows h)
  where
    other : (b : Bool) → (b || has_row id rows) ≡ false → (has_row id rows ≡ false → at_row id change missing rows ≡ rows ++ missing)
        → (if b then change r ++ rows else r ∷ at_row id change missing rows) ≡ r ∷ rows ++ missing
    other true h k = absurd (cc)
    other false h k = ap (λ xs. r ∷ xs) (k h)

-- ---- an option with its value

-- after an option and its value
abbrev pub held_with : List Rule → Text → Text → Held → Held
held_with c name value h = record (settled c h) { pending = Some (name, value ∷ []) }

abbrev waiting_for : List Rule → Text → Held → Walk
waiting_for c name h = record {
  held = record (settled c h) { pending = Some (name, []) };
  waiting = waits_for name;
  position = 1;
  is_trailing = false;
  stopped = None;
}

name_walks : (c : List Rule) (h : Held) (word name : Text) (needed : Bool) → bytes_eq word dashes ≡ false → long_of word ≡ Some (name, None)
    → arg_by_long c name ≡ Some (built_option needed name) → walked c [] (walk_from h) word ≡ waiting_for c name h
unfolding walked
name_walks c h word name needed a b d = rw (a, b, d) refl

value_walks : (c : List Rule) (h : Held) (name value : Text) (needed : Bool) → bytes_eq value dashes ≡ false → long_of value ≡ None → short_of value ≡ None
    → arg_by_id c name ≡ Some (built_option needed name) → bytes_eq name name ≡ true → walked c [] (waiting_for c name h) value ≡ walk_from (held_with c name value h)
unfolding walked
value_walks c h name value needed a b d e f = rw (a, b, d, e, f) refl

-- ---- and what is wrong with them: nothing, where nothing is wrong with what is held

name_passes : (s : Shape) (h : Held) (word name : Text) (needed : Bool) (rest : List Text) → bytes_eq word dashes ≡ false → long_of word ≡ Some (name, None)
    → arg_by_long s.rules name ≡ Some (built_option needed name) → settle_fault s.rules s.args_override_self h ≡ []
    → walk_fault s [] (walk_from h) (word ∷ rest) ≡ walk_fault s [] (walked s.rules [] (walk_from h) word) rest
unfolding walk_fault
name_passes s h word name needed rest a b d e = rw (a, b, d, e) refl

value_passes : (s : Shape) (h : Held) (name value : Text) (rest : List Text) → bytes_eq value dashes ≡ false → long_of value ≡ None → short_of value ≡ None
    → walk_fault s [] (waiting_for s.rules name h) (value ∷ rest) ≡ walk_fault s [] (walked s.rules [] (waiting_for s.rules name h) value) rest
unfolding walk_fault
value_passes s h name value rest a b d = rw (a, b, d) refl

-- ---- one use, of rows in which there is none of it

use_passes : (again : Bool) (needed : Bool) (name value : Text) (rows : List Row) → has_row name rows ≡ false → use_fault again (built_option needed name) (value ∷ []) rows ≡ []
use_passes again needed name value rows none = rw none refl

flag_passes : (again : Bool) (name : Text) (rows : List Row) → has_row name rows ≡ false → use_fault again (built_flag name) [] rows ≡ []
flag_passes again name rows none = rw none refl

fresh_row : (name value : Text) (rows : List Row) → has_row name rows ≡ false
    → with_values name reading.AsWritten CommandLine (value ∷ []) (without name rows) ≡ rows ++ row_for name value ∷ []
fresh_row name value rows none =
    let same : without name rows ≡ rows = at_row-missing name (λ _. []) [] rows none ∙ append-nil rows in
    ap (with_values name reading.AsWritten CommandLine (value ∷ [])) same ∙ at_row-missing name (more_values CommandLine (value ∷ [])) (row_for name value ∷ []) rows none

-- ---- options and flags, one after the other

abbrev pub row_of : Given → Row
row_of given = row_for (name_of given) (value_of given)

-- `--name` is read as that name alone
pub record IsWord (name : Text) : Type 0 where
  pub long : long_of (45 ∷ 45 ∷ name) ≡ Some (name, None)
  pub more : bytes_eq (45 ∷ 45 ∷ name) dashes ≡ false
  pub same : bytes_eq name name ≡ true

pub record IsOption (c : List Rule) (needed : Bool) (name : Text) : Type 0 where
  pub word : IsWord name
  pub long : arg_by_long c name ≡ Some (built_option needed name)
  pub id : arg_by_id c name ≡ Some (built_option needed name)

pub record IsFlag (c : List Rule) (name : Text) : Type 0 where
  pub word : IsWord name
  pub long : arg_by_long c name ≡ Some (built_flag name)

-- a value begins with no hyphen
pub record IsValue (value : Text) : Type 0 where
  pub long : long_of value ≡ None
  pub short : short_of value ≡ None
  pub more : bytes_eq value dashes ≡ false

abbrev pub IsGood : List Rule → Given → Type 0
IsGood c (option name value) = (needed : Bool) × IsOption c needed name × IsValue value
IsGood c (flag name) = IsFlag c name

abbrev pub AreGood : List Rule → List Given → Type 0
AreGood c [] = ⊤
AreGood c (g ∷ gs) = IsGood c g × AreGood c gs

-- none of them has a row yet, nor two of them the same
abbrev pub AreFresh : List Row → List Given → Type 0
AreFresh rows [] = ⊤
AreFresh rows (g ∷ gs) = (has_row (name_of g) rows ≡ false) × AreFresh (rows ++ row_of g ∷ []) gs

-- after them all
pub record Walks (s : Shape) (h : Held) (ps : List Given) : Type 0 where
  pub after : Held
  pub passes : walk_fault s [] (walk_from h) (flat_map words_of ps) ≡ []
  pub goes : fold (walked s.rules []) (walk_from h) (flat_map words_of ps) ≡ walk_from after
  pub calm : settle_fault s.rules s.args_override_self after ≡ []
  pub rows : (settled s.rules after).rows ≡ (settled s.rules h).rows ++ map row_of ps

option_calm : (s : Shape) (h : Held) (needed : Bool) (name value : Text) → IsOption s.rules needed name → has_row name (settled s.rules h).rows ≡ false
    → settle_fault s.rules s.args_override_self (held_with s.rules name value h) ≡ []
option_calm s h needed name value is none = rw is.id (use_passes s.args_override_self needed name value (settled s.rules h).rows none)

option_rows : (c : List Rule) (h : Held) (needed : Bool) (name value : Text) → IsOption c needed name → has_row name (settled c h).rows ≡ false
    → (settled c (held_with c name value h)).rows ≡ (settled c h).rows ++ row_for name value ∷ []
option_rows c h needed name value is none = rw is.id (fresh_row name value (settled c h).rows none)

option_step : (s : Shape) (h : Held) (needed : Bool) (name value : Text) (ps : List Given) → IsOption s.rules needed name → IsValue value
    → settle_fault s.rules s.args_override_self h ≡ [] → has_row name (settled s.rules h).rows ≡ false
    → Walks s (held_with s.rules name value h) ps → Walks s h (option name value ∷ ps)
option_step s h needed name value ps is v calm none w =
    let c = s.rules in
    let one = name_walks c h (45 ∷ 45 ∷ name) name needed is.word.more is.word.long is.long in
    let two = value_walks c h name value needed v.more v.long v.short is.id is.word.same in
    let both : walked c [] (walked c [] (walk_from h) (45 ∷ 45 ∷ name)) value ≡ walk_from (held_with c name value h) = ap (λ w. walked c [] w value) one ∙ two in
    record {
      after = w.after;
      passes = name_passes s h (45 ∷ 45 ∷ name) name needed (value ∷ flat_map words_of ps) is.word.more is.word.long is.long calm
          ∙ ap (λ w. walk_fault s [] w (value ∷ flat_map words_of ps)) one
          ∙ value_passes s h name value (flat_map words_of ps) v.more v.long v.short
          ∙ ap (λ w. walk_fault s [] w (flat_map words_of ps)) two ∙ w.passes;
      goes = ap (λ x. fold (walked c []) x (flat_map words_of ps)) both ∙ w.goes;
      calm = w.calm;
      rows = w.rows ∙ ap (λ rows. rows ++ map row_of ps) (option_rows c h needed name value is none)
          ∙ append_assoc (settled c h).rows (row_for name value ∷ []) (map row_of ps);
    }

-- ---- a flag

abbrev held_after : List Rule → Text → Held → Held
held_after c name h = reacted c (built_flag name) [] h

flag_walks : (c : List Rule) (h : Held) (word name : Text) → bytes_eq word dashes ≡ false → long_of word ≡ Some (name, None)
    → arg_by_long c name ≡ Some (built_flag name) → walked c [] (walk_from h) word ≡ walk_from (held_after c name h)
unfolding walked
flag_walks c h word name a b d = rw (a, b, d) refl

flag_word_passes : (s : Shape) (h : Held) (word name : Text) (rest : List Text) → bytes_eq word dashes ≡ false → long_of word ≡ Some (name, None)
    → arg_by_long s.rules name ≡ Some (built_flag name) → settle_fault s.rules s.args_override_self h ≡ [] → has_row name (settled s.rules h).rows ≡ false
    → walk_fault s [] (walk_from h) (word ∷ rest) ≡ walk_fault s [] (walked s.rules [] (walk_from h) word) rest
unfolding walk_fault
flag_word_passes s h word name rest a b d e none = rw (a, b, d, e, flag_passes s.args_override_self name (settled s.rules h).rows none) refl

flag_step : (s : Shape) (h : Held) (name : Text) (ps : List Given) → IsFlag s.rules name
    → settle_fault s.rules s.args_override_self h ≡ [] → has_row name (settled s.rules h).rows ≡ false
    → Walks s (held_after s.rules name h) ps → Walks s h (flag name ∷ ps)
flag_step s h name ps is calm none w =
    let c = s.rules in
    let one = flag_walks c h (45 ∷ 45 ∷ name) name is.word.more is.word.long is.long in
    let rows : (settled c (held_after c name h)).rows ≡ (settled c h).rows ++ row_for name (codes "true") ∷ [] = fresh_row name (codes "true") (settled c h).rows none in
    record {
      after = w.after;
      passes = flag_word_passes s h (45 ∷ 45 ∷ name) name (flat_map words_of ps) is.word.more is.word.long is.long calm none
          ∙ ap (λ w. walk_fault s [] w (flat_map words_of ps)) one ∙ w.passes;
      goes = ap (λ x. fold (walked c []) x (flat_map words_of ps)) one ∙ w.goes;
      calm = w.calm;
      rows = w.rows ∙ ap (λ rows. rows ++ map row_of ps) rows
          ∙ append_assoc (settled c h).rows (row_for name (codes "true") ∷ []) (map row_of ps);
    }

no_words : (s : Shape) (h : Held) → walk_fault s [] (walk_from h) [] ≡ []
unfolding walk_fault
no_words s h = refl

-- from where nothing is wrong, nothing goes wrong
pub walks : (s : Shape) (ps : List Given) (h : Held) → AreGood s.rules ps → settle_fault s.rules s.args_override_self h ≡ []
    → AreFresh (settled s.rules h).rows ps → Walks s h ps
walks s [] h good calm fresh = record {
  after = h;
  passes = no_words s h;
  goes = refl;
  calm = calm;
  rows = sym (append-nil (settled s.rules h).rows);
}
walks s (option name value ∷ ps) h good calm fresh =
    let needed = good.0.0 in
    let is = good.0.1 in
    let later = subst (λ rows. AreFresh rows ps) (sym (option_rows s.rules h needed name value is fresh.0)) fresh.1 in
    option_step s h needed name value ps is good.0.2 calm fresh.0
    (walks s ps (held_with s.rules name value h) good.1 (option_calm s h needed name value is fresh.0) later)
walks s (flag name ∷ ps) h good calm fresh =
    let later = subst (λ rows. AreFresh rows ps) (sym (fresh_row name (codes "true") (settled s.rules h).rows fresh.0)) fresh.1 in
    flag_step s h name ps good.0 calm fresh.0 (walks s ps (held_after s.rules name h) good.1 refl later)
