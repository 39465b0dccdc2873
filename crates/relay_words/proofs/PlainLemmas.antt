-- The words that are left, where two stand in front.
use Rattle.std.proofs.Common.{◌≡◌, ◌≤◌, true, false, List, [], ◌∷◌, ◌++◌, map, length, get_or, refl, sym, ap, ◌∙◌, append_assoc}
use Rattle.std.specs.Prelude.{Bool, ◌||◌, ◌&&◌, Result, Ok, Err, OnOk}
use Rattle.clap.specs.Words.{Text}
use Rattle.relay_words.specs.Splits.{is_inner, is_more, plain_in}
use Rattle.relay_words.proofs.ListLemmas.{rest_of, shape_by}

-- what follows from what holds of a success
pub on_ok : {X E A B : Type 0} (r : Result X E) → (A → B) → OnOk r A → OnOk r B
on_ok (Ok x) f h = f h
on_ok (Err e) f h = tt

module _ {A : Type 0} (f : A → Text) (xs : List A) (seen : Bool) (d e : A) (word value : Text) (some : 1 ≤ length xs) (first : word ≡ f (get_or xs 0 d))
    (more : 1 ≤ length (rest_of xs)) (second : value ≡ f (get_or (rest_of xs) 0 e)) where
  abbrev behind : List Text
  behind = map f (rest_of (rest_of xs))

  rest_shape : map f (rest_of xs) ≡ value ∷ behind
  rest_shape = shape_by f (rest_of xs) e value more second

  shape : map f xs ≡ word ∷ value ∷ behind
  shape = shape_by f xs d word some first ∙ ap (λ (ts : List Text). word ∷ ts) rest_shape

  pub left_out : (old new : List Text) (out : Bool) → out ≡ true → out ≡ (is_more word || (seen && is_inner word))
      → new ≡ old ++ plain_in seen behind → new ≡ old ++ plain_in seen (map f xs)
  left_out old new out is test after =
      let same : plain_in seen (word ∷ value ∷ behind) ≡ plain_in seen behind = rw (sym test ∙ is) refl in
      after ∙ ap (λ (ts : List Text). old ++ ts) (sym (ap (plain_in seen) shape ∙ same))

  pub with_first : (old mid last new : List Text) (out inner : Bool) → out ≡ false → out ≡ (is_more word || (seen && is_inner word))
      → inner ≡ true → inner ≡ is_inner word → mid ≡ old ++ word ∷ [] → last ≡ mid ++ value ∷ []
      → new ≡ last ++ plain_in true behind → new ≡ old ++ plain_in seen (map f xs)
  with_first old mid last new out inner is test here named one two after =
      let same : plain_in seen (word ∷ value ∷ behind) ≡ word ∷ value ∷ plain_in true behind = rw (sym test ∙ is, sym named ∙ here) refl in
      let front : last ++ plain_in true behind ≡ old ++ word ∷ value ∷ plain_in true behind =
      ap (λ (ts : List Text). ts ++ plain_in true behind) (two ∙ ap (λ (ts : List Text). ts ++ value ∷ []) one ∙ append_assoc old (word ∷ []) (value ∷ []))
      ∙ append_assoc old (word ∷ value ∷ []) (plain_in true behind) in
      after ∙ front ∙ ap (λ (ts : List Text). old ++ ts) (sym (ap (plain_in seen) shape ∙ same))

  pub with_word : (old mid new : List Text) (out inner : Bool) → out ≡ false → out ≡ (is_more word || (seen && is_inner word))
      → inner ≡ false → inner ≡ is_inner word → mid ≡ old ++ word ∷ []
      → new ≡ mid ++ plain_in seen (map f (rest_of xs)) → new ≡ old ++ plain_in seen (map f xs)
  with_word old mid new out inner is test here named one after =
      let same : plain_in seen (word ∷ value ∷ behind) ≡ word ∷ plain_in seen (value ∷ behind) = rw (sym test ∙ is, sym named ∙ here) refl in
      let front : mid ++ plain_in seen (map f (rest_of xs)) ≡ old ++ word ∷ plain_in seen (value ∷ behind) =
      ap (λ (ts : List Text). mid ++ plain_in seen ts) rest_shape ∙ ap (λ (ts : List Text). ts ++ plain_in seen (value ∷ behind)) one
      ∙ append_assoc old (word ∷ []) (plain_in seen (value ∷ behind)) in
      after ∙ front ∙ ap (λ (ts : List Text). old ++ ts) (sym (ap (plain_in seen) shape ∙ same))
