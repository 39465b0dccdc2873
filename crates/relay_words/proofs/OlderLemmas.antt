-- Words of an older command go on saying what they said.
use Rattle.std.proofs.Common.{◌≡◌, suc, ◌≤◌, true, false, List, [], ◌∷◌, length, drop, None, refl, ap, arith, codes}
use Rattle.std.specs.Prelude.{Bool, ◌||◌, Some}
use Rattle.std.specs.List.{list_any}
use Rattle.std.specs.Str.{bytes_eq}
use Rattle.clap.specs.Words.{Text}
use Rattle.relay_words.specs.Mores.{IsMore}
use Rattle.relay_words.specs.OlderWords.{AreOlder, OlderCascadeStays, OlderProxyStays, nothing_more}
use Rattle.relay_words.specs.Relaying.{older_in}
use Rattle.relay_words.specs.Splits.{is_inner, is_more, plain_in, values_in}

neither : (a b : Bool) → (a || b) ≡ false → (a ≡ false) × (b ≡ false)
neither true b h = absurd cc
neither false b h = (refl, h)

no_values : (name : Text) → ((word : Text) → is_more word ≡ false → bytes_eq word name ≡ false) → (rest : List Text) → list_any is_more rest ≡ false → values_in name rest ≡ []
no_values name other [] none = refl
no_values name other (word ∷ []) none = refl
no_values name other (word ∷ value ∷ rest) none =
    let parts = neither (is_more word) (list_any is_more (value ∷ rest)) none in
    let behind = neither (is_more value) (list_any is_more rest) parts.1 in
    (elim (is_inner word) as (λ b. is_inner word ≡ b → values_in name (word ∷ value ∷ rest) ≡ []) [
      | true ↦ λ t. rw (parts.0, t, other word parts.0) (no_values name other rest behind.1)
      | false ↦ λ f. rw (parts.0, f) (no_values name other (value ∷ rest) parts.1)
    ]) refl

-- the three options
module _ (word : Text) (none : is_more word ≡ false) where
  no_two : (bytes_eq word (codes "--third-party") || bytes_eq word (codes "--rate")) ≡ false
  no_two = (neither (bytes_eq word (codes "--third-party") || bytes_eq word (codes "--rate")) (bytes_eq word (codes "--key-file")) none).0

  no_third : bytes_eq word (codes "--third-party") ≡ false
  no_third = (neither (bytes_eq word (codes "--third-party")) (bytes_eq word (codes "--rate")) no_two).0

  no_rate : bytes_eq word (codes "--rate") ≡ false
  no_rate = (neither (bytes_eq word (codes "--third-party")) (bytes_eq word (codes "--rate")) no_two).1

  no_file : bytes_eq word (codes "--key-file") ≡ false
  no_file = (neither (bytes_eq word (codes "--third-party") || bytes_eq word (codes "--rate")) (bytes_eq word (codes "--key-file")) none).1

-- ---- one inner address

none_left : {X : Type 0} (xs : List X) → suc (length xs) ≤ 1 → xs ≡ []
none_left [] few = refl
none_left (x ∷ xs) few = absurd (omega (arith, few))

none_behind : {X : Type 0} (xs : List X) → length xs ≤ 1 → drop 1 xs ≡ []
none_behind [] few = refl
none_behind (x ∷ xs) few = none_left xs few

plain_seen : (rest : List Text) → list_any is_more rest ≡ false → values_in (codes "--inner") rest ≡ [] → plain_in true rest ≡ rest
plain_seen [] none nil = refl
plain_seen (word ∷ []) none nil = refl
plain_seen (word ∷ value ∷ rest) none nil =
    let parts = neither (is_more word) (list_any is_more (value ∷ rest)) none in
    (elim (is_inner word) as (λ b. is_inner word ≡ b → plain_in true (word ∷ value ∷ rest) ≡ word ∷ value ∷ rest) [
      | true ↦ λ t. absurd (let some : value ∷ values_in (codes "--inner") rest ≡ [] = rw (parts.0, t) at nil in cc)
      | false ↦ λ f. rw (parts.0, f) (ap (λ (words : List Text). word ∷ words) (plain_seen (value ∷ rest) parts.1 (rw (parts.0, f) at nil)))
    ]) refl

plain_same : (rest : List Text) → list_any is_more rest ≡ false → length (values_in (codes "--inner") rest) ≤ 1 → plain_in false rest ≡ rest
plain_same [] none few = refl
plain_same (word ∷ []) none few = refl
plain_same (word ∷ value ∷ rest) none few =
    let parts = neither (is_more word) (list_any is_more (value ∷ rest)) none in
    let behind = neither (is_more value) (list_any is_more rest) parts.1 in
    (elim (is_inner word) as (λ b. is_inner word ≡ b → plain_in false (word ∷ value ∷ rest) ≡ word ∷ value ∷ rest) [
      | true ↦ λ t.
          let one : suc (length (values_in (codes "--inner") rest)) ≤ 1 = rw (parts.0, t) at few in
          rw (parts.0, t) (ap (λ (words : List Text). word ∷ value ∷ words) (plain_seen rest behind.1 (none_left (values_in (codes "--inner") rest) one)))
      | false ↦ λ f. rw (parts.0, f) (ap (λ (words : List Text). word ∷ words) (plain_same (value ∷ rest) parts.1 (rw (parts.0, f) at few)))
    ]) refl

-- ---- whole words

says_nothing : (rest : List Text) → AreOlder rest → IsMore rest nothing_more
says_nothing rest are = record {
  inner = rw (none_behind (values_in (codes "--inner") rest) are.inner) tt;
  few_inner = omega (arith, are.inner);
  third_party = rw (no_values (codes "--third-party") no_third rest are.more) tt;
  few_third = rw (no_values (codes "--third-party") no_third rest are.more) (omega arith);
  rate = rw (no_values (codes "--rate") no_rate rest are.more) refl;
  once = rw (no_values (codes "--rate") no_rate rest are.more) (omega arith);
}

same_words : (name : Text) (rest : List Text) → AreOlder rest → older_in (name ∷ rest) None ≡ Some (name ∷ rest)
same_words name rest are = rw (no_values (codes "--key-file") no_file rest are.more, plain_same rest are.more are.inner) refl

pub older_proxy : OlderProxyStays
older_proxy name rest command are is = record {
  older = name ∷ rest;
  older_is = same_words name rest are;
  said = is;
  more_is = says_nothing rest are;
}

pub older_cascade : OlderCascadeStays
older_cascade name rest command are is = (
  record {
    older = name ∷ rest;
    older_is = same_words name rest are;
    said = is;
    more_is = says_nothing rest are;
  },
  refl,
)
