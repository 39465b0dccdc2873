-- Journals that are compacted before a batch where they are too long.
use Rattle.std.proofs.Common.{◌≡◌, ◌+◌, ◌-◌, ◌*◌, ◌^◌, ◌<◌, ◌≤◌, ◌&&◌, nat_lt, max, Bool, true, false, if◌then◌else◌, List, [], refl, sym, ◌∙◌, ap, arith}
use Rattle.std.proofs.lemmas.Bool.{ltb-false, ltb-true}
use Rattle.pcp_base.specs.declared.records.Record.{Record}
use Rattle.lease_journal.specs.Views.{JournalView}
use Rattle.shard_book.specs.declared.lengths.TheConstants.{LONGEST_SIDE}
use Rattle.journal_sides.specs.Frames.{frames_octets}
use Rattle.shard_book.specs.Keepings.{Journals, is_overlong}

-- a journal that is too long has a next generation
pub overlong_next : {D : Type 0} (j : JournalView D) → is_overlong j ≡ true → j.standing.generation < 2 ^ 64 - 1
overlong_next j is = by (nat_lt LONGEST_SIDE j.standing.length) (nat_lt (2 * j.first_length) j.standing.length) (nat_lt j.standing.generation (2 ^ 64 - 1)) refl is
  where
    by : (a b c : Bool) → nat_lt j.standing.generation (2 ^ 64 - 1) ≡ c → (a && b && c) ≡ true → j.standing.generation < 2 ^ 64 - 1
    by false b c e is = absurd cc
    by true false c e is = absurd cc
    by true true false e is = absurd cc
    by true true true e is = ltb-true j.standing.generation (2 ^ 64 - 1) e

-- how long one is that isn't too long, where it has a next generation
pub short_enough : {D : Type 0} (j : JournalView D) → is_overlong j ≡ false → j.standing.generation < 2 ^ 64 - 1 → j.standing.length ≤ max LONGEST_SIDE (2 * j.first_length)
short_enough j is next = by (nat_lt LONGEST_SIDE j.standing.length) (nat_lt (2 * j.first_length) j.standing.length) (nat_lt j.standing.generation (2 ^ 64 - 1)) refl refl refl is
  where
    by : (a b c : Bool) → nat_lt LONGEST_SIDE j.standing.length ≡ a → nat_lt (2 * j.first_length) j.standing.length ≡ b → nat_lt j.standing.generation (2 ^ 64 - 1) ≡ c → (a && b && c) ≡ false → j.standing.length ≤ max LONGEST_SIDE (2 * j.first_length)
    by false b c e f g is = omega (arith, ltb-false LONGEST_SIDE j.standing.length e)
    by true false c e f g is = omega (arith, ltb-false (2 * j.first_length) j.standing.length f)
    by true true false e f g is = absurd (omega (arith, ltb-false j.standing.generation (2 ^ 64 - 1) g, next))
    by true true true e f g is = absurd cc

-- what a batch does to a journal that is compacted exactly where it is too long
pub journals_by : {D : Type 0} (tells : Type 0) (records : List Record) (old new : JournalView D) (anew : Bool) → anew ≡ is_overlong old
    → (anew ≡ false → records ≡ [] → new ≡ old) → (anew ≡ false → new.standing.generation ≡ old.standing.generation) → (anew ≡ false → new.first_length ≡ old.first_length)
    → (tells → anew ≡ false → new.standing.length ≤ old.standing.length + frames_octets records)
    → (anew ≡ true → new.standing.generation ≡ old.standing.generation + 1) → (tells → anew ≡ true → new.standing.length ≤ new.first_length + frames_octets records)
    → Journals tells records old new
journals_by tells records old new anew is idle plain plain_first grown compacted short = record {
  idle = λ none less. idle (is ∙ less) none;
  generation = generation anew refl;
  first_length = λ less. plain_first (is ∙ less);
  short = λ told next. length anew refl told next;
}
  where
    generation : (b : Bool) → anew ≡ b → new.standing.generation ≡ (if is_overlong old then old.standing.generation + 1 else old.standing.generation)
    generation true e = compacted e ∙ ap (λ (b : Bool). if b then old.standing.generation + 1 else old.standing.generation) (sym e ∙ is)
    generation false e = plain e ∙ ap (λ (b : Bool). if b then old.standing.generation + 1 else old.standing.generation) (sym e ∙ is)

    length : (b : Bool) → anew ≡ b → tells → old.standing.generation < 2 ^ 64 - 1 → new.standing.length ≤ frames_octets records + max LONGEST_SIDE (2 * new.first_length)
    length true e told next = omega (arith, short told e)
    length false e told next = omega (arith, grown told e, plain_first e, short_enough old (sym is ∙ e) next)

-- one that isn't too long, and to which nothing is written
pub journals_stay : {D : Type 0} (tells : Type 0) (records : List Record) (j : JournalView D) → is_overlong j ≡ false → Journals tells records j j
journals_stay tells records j less = record {
  idle = λ none e. refl;
  generation = ap (λ (b : Bool). if b then j.standing.generation + 1 else j.standing.generation) (sym less);
  first_length = λ e. refl;
  short = λ told next. omega (arith, short_enough j less next);
}
