-- The key that a file has, by the files that words name.
use Rattle.std.proofs.Common.{◌≡◌, ◌≤◌, ◌<◌, true, false, List, [], ◌∷◌, ◌++◌, map, length, Option, Some, None, refl, subst, ap, ◌∙◌, append_assoc, arith, codes}
use Rattle.std.specs.Prelude.{option_map}
use Rattle.clap.specs.Words.{Text}
use Rattle.relay_words.specs.Keys.{IsKeyed, key_words}

module _ {A B : Type 0} (f : A → Text) (g : B → Text) where
  two_files : (files : List A) (filed : Option Text) (old : List Text) → 1 < length files → IsKeyed (key_words (map f files) filed) old old false
  two_files [] filed old many = absurd (omega (arith, many))
  two_files (x ∷ []) filed old many = absurd (omega (arith, many))
  two_files (x ∷ y ∷ xs) filed old many = refl

  no_file : (files : List A) (old : List Text) → 0 < length files → IsKeyed (key_words (map f files) None) old old false
  no_file [] old some = absurd (omega (arith, some))
  no_file (x ∷ []) old some = refl
  no_file (x ∷ y ∷ xs) old some = refl

  one_file : (files : List A) (text : Text) (old new : List Text) → 0 < length files → length files ≤ 1 → new ≡ old ++ codes "--key" ∷ text ∷ []
      → IsKeyed (key_words (map f files) (Some text)) old new true
  one_file [] text old new some few is = absurd (omega (arith, some))
  one_file (x ∷ []) text old new some few is = (refl, is)
  one_file (x ∷ y ∷ xs) text old new some few is = absurd (omega (arith, few))

  module _ (files : List A) (texts : List Text) (same : map f files ≡ texts) (given : Option B) where
    pub keyed_twice : (old : List Text) → 1 < length files → IsKeyed (key_words texts (option_map g given)) old old false
    keyed_twice old many = subst (λ (ts : List Text). IsKeyed (key_words ts (option_map g given)) old old false) same (two_files files (option_map g given) old many)

    pub unkeyed : (old : List Text) → 0 < length files → given ≡ None → IsKeyed (key_words texts (option_map g given)) old old false
    unkeyed old some none = rw none (subst (λ (ts : List Text). IsKeyed (key_words ts None) old old false) same (no_file files old some))

    pub keyed : (b : B) (text : Text) (old mid new : List Text) → 0 < length files → length files ≤ 1 → given ≡ Some b → text ≡ g b
        → mid ≡ old ++ codes "--key" ∷ [] → new ≡ mid ++ text ∷ [] → IsKeyed (key_words texts (option_map g given)) old new true
    keyed b text old mid new some few is told first second =
        let all : new ≡ old ++ codes "--key" ∷ g b ∷ [] =
        second ∙ ap (λ (ts : List Text). ts ++ text ∷ []) first ∙ append_assoc old (codes "--key" ∷ []) (text ∷ []) ∙ ap (λ (t : Text). old ++ codes "--key" ∷ t ∷ []) told in
        rw is (subst (λ (ts : List Text). IsKeyed (key_words ts (Some (g b))) old new true) same (one_file files (g b) old new some few all))
