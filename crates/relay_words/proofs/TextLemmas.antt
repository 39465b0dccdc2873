-- Values in text are read, and no others.
use Rattle.std.proofs.Common.{◌≡◌, ℕ, ◌≤◌, true, false, List, [], ◌∷◌, ◌++◌, map, length, get_or, Option, Some, None, refl, sym, subst, ap, ◌∙◌, append-nil, append_assoc}
use Rattle.std.specs.Prelude.{Bool, Result, Ok, Err, IfOk, IfSome, OnErr}
use Rattle.clap.specs.Words.{Text}
use Rattle.pcp_base.specs.AddressTexts.{IsPrefixText}
use Rattle.pcp_base.specs.declared.addresses.NotPrefix.{NotPrefix}
use Rattle.pcp_base.specs.declared.addresses.Prefix.{Prefix}
use Rattle.pcp_base.specs.declared.errors.Memory.{Memory}
use Rattle.client_commands.specs.Commands.{IsOnly}
use Rattle.client_commands.specs.Values.{IsNumberAt, IsNumberText}
use Rattle.relay_words.proofs.ListLemmas.{rest_of, shape_by}
use Rattle.relay_words.specs.Lists.{Adds, AreAll}
use Rattle.relay_words.specs.Mores.{rate_range}

-- what is found is what is such
pub the_one : {X : Type 0} {Is : X → Type 0} (x y : X) → IsOnly Is (Some x) → Is y → x ≡ y
the_one x y h is = cc (h.only y is)

-- where nothing is found nothing is such
pub none_is : {X A : Type 0} {Is : X → Type 0} (y : X) → IsOnly Is None → Is y → A
none_is y h is = absurd (cc (h.only y is))

-- ---- one text

pub prefix_found : (text : List ℕ) (r : Result Prefix NotPrefix) (p : Prefix) → r ≡ Ok p → IfOk r (IsPrefixText text)
    → IfOk r (λ p. (q : Prefix) → IsPrefixText text q → q ≡ p) → IsOnly (IsPrefixText text) (Some p)
prefix_found text r p same is only = record {
  value = subst (λ r. IfOk r (IsPrefixText text)) same is;
  only = λ q other. ap Some (sym (subst (λ r. IfOk r (λ p. (q : Prefix) → IsPrefixText text q → q ≡ p)) same only q other));
}

pub prefix_missed : (text : List ℕ) (r : Result Prefix NotPrefix) (e : NotPrefix) → r ≡ Err e → OnErr r ((p : Prefix) → ¬ (IsPrefixText text p))
    → IsOnly (IsPrefixText text) None
prefix_missed text r e same none = record {
  value = tt;
  only = λ q other. absurd (subst (λ r. OnErr r ((p : Prefix) → ¬ (IsPrefixText text p))) same none q other);
}

pub rate_given : (given : Option (List ℕ)) (text : List ℕ) (r : Option ℕ) → given ≡ Some text → IsOnly (IsNumberText 1 100000 text) r
    → IsOnly (IsNumberAt rate_range given) r
rate_given given text r same is =
    subst (λ (g : Option (List ℕ)). IsOnly (IsNumberAt rate_range g) r) (sym same) (record { value = value r is.value; only = is.only })
  where
    value : (r : Option ℕ) → IfSome r (IsNumberText 1 100000 text) → IfSome r (IsNumberAt rate_range (Some text))
    value None is = tt
    value (Some n) is = is

pub rate_none : (given : Option (List ℕ)) → given ≡ None → IsOnly (IsNumberAt rate_range given) (Some 20)
rate_none given same = subst (λ (g : Option (List ℕ)). IsOnly (IsNumberAt rate_range g) (Some 20)) (sym same) (record { value = refl; only = λ n h. h })

-- ---- texts

module _ {X : Type 0} (Is : Text → X → Type 0) where
  pub adds_none : (old : List X) → Adds Is [] old old true
  adds_none old = record { added = []; are = tt; only = none; new_is = sym (append-nil old) }
    where
      none : (others : List X) → AreAll Is [] others → others ≡ []
      none [] h = refl
      none (f ∷ fs) h = absurd h

  adds_more : (text : Text) (rest : List Text) (old mid new : List X) (f : X) (b : Bool) → IsOnly (Is text) (Some f)
      → mid ≡ old ++ f ∷ [] → Adds Is rest mid new b → Adds Is (text ∷ rest) old new b
  adds_more text rest old mid new f true one pushed all = record {
    added = f ∷ all.added;
    are = (one.value, all.are);
    only = others_are;
    new_is = all.new_is ∙ ap (λ (m : List X). m ++ all.added) pushed ∙ append_assoc old (f ∷ []) all.added;
  }
    where
      others_are : (others : List X) → AreAll Is (text ∷ rest) others → others ≡ f ∷ all.added
      others_are [] h = absurd h
      others_are (g ∷ gs) h = rw (sym (the_one f g one h.0), all.only gs h.1) refl
  adds_more text rest old mid new f false one pushed none = not_all
    where
      not_all : (fs : List X) → ¬ (AreAll Is (text ∷ rest) fs)
      not_all [] h = h
      not_all (g ∷ gs) h = none gs h.1

  adds_not : (text : Text) (rest : List Text) (old new : List X) → IsOnly (Is text) None → Adds Is (text ∷ rest) old new false
  adds_not text rest old new none = not_first
    where
      not_first : (fs : List X) → ¬ (AreAll Is (text ∷ rest) fs)
      not_first [] h = h
      not_first (g ∷ gs) h = none_is g none h.0

  pub all_of : (texts : List Text) (new : List X) (b : Bool) → b ≡ true → Adds Is texts [] new b → IsOnly (AreAll Is texts) (Some new)
  all_of texts new true is all = record {
    value = subst (AreAll Is texts) (sym all.new_is) all.are;
    only = λ others h. ap Some (all.new_is ∙ sym (all.only others h));
  }
  all_of texts new false is all = absurd cc

  pub none_of : (texts : List Text) (new : List X) (b : Bool) → b ≡ false → Adds Is texts [] new b → IsOnly (AreAll Is texts) None
  none_of texts new true is none = absurd cc
  none_of texts new false is none = record { value = tt; only = λ fs h. absurd (none fs h) }

  -- by the items of a list
  module _ {A : Type 0} (f : A → Text) (xs : List A) (d : A) (t : Text) (some : 1 ≤ length xs) (first : t ≡ f (get_or xs 0 d)) where
    pub adds_not_by : (r : Option X) (old new : List X) → r ≡ None → IsOnly (Is t) r → Adds Is (map f xs) old new false
    adds_not_by r old new none is =
        subst (λ (texts : List Text). Adds Is texts old new false) (sym (shape_by f xs d t some first))
        (adds_not t (map f (rest_of xs)) old new (subst (IsOnly (Is t)) none is))

    adds_all_by : (value : X) (old mid new : List X) (b : Bool) → IsOnly (Is t) (Some value) → mid ≡ old ++ value ∷ []
        → Adds Is (map f (rest_of xs)) mid new b → Adds Is (map f xs) old new b
    adds_all_by value old mid new b is pushed all =
        subst (λ (texts : List Text). Adds Is texts old new b) (sym (shape_by f xs d t some first))
        (adds_more t (map f (rest_of xs)) old mid new value b is pushed all)

    pub adds_more_by : (r : Option X) (value : X) (old mid new : List X) (result : Result Bool Memory) → r ≡ Some value → IsOnly (Is t) r
        → mid ≡ old ++ value ∷ [] → IfOk result (Adds Is (map f (rest_of xs)) mid new) → IfOk result (Adds Is (map f xs) old new)
    adds_more_by r value old mid new (Ok b) found is pushed all = adds_all_by value old mid new b (subst (IsOnly (Is t)) found is) pushed all
    adds_more_by r value old mid new (Err e) found is pushed all = tt
