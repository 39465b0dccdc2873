-- Filters in text are read, and no others.
use Rattle.std.proofs.Common.{◌≡◌, ℕ, ◌≤◌, true, false, List, [], ◌∷◌, ◌++◌, map, length, get_or, Option, Some, None, suc, refl, sym, subst, ap, ◌∙◌, append-nil, append_assoc}
use Rattle.std.specs.Prelude.{Bool, Result, Ok, Err, IfOk, IfSome, OnErr}
use Rattle.clap.specs.Words.{Text}
use Rattle.pcp_base.specs.AddressTexts.{IsPrefixText}
use Rattle.pcp_base.specs.declared.addresses.NotPrefix.{NotPrefix}
use Rattle.pcp_base.specs.declared.errors.Memory.{Memory}
use Rattle.pcp_base.specs.declared.addresses.Prefix.{Prefix}
use Rattle.pcp_base.specs.declared.leases.Filter.{Filter}
use Rattle.client_commands.specs.Commands.{IsOnly}
use Rattle.client_commands.specs.Values.{IsNumberAt, IsNumberText}
use Rattle.client_words.proofs.ListLemmas.{rest_of, shape_by}
use Rattle.client_words.specs.Filters.{AddsAll, AddsFilters, AreFilters, IsFilterText, before_comma, behind_comma, filter_with, prefix_of, remote_range}

-- what is found is what is such
pub the_one : {X : Type 0} {Is : X → Type 0} (x y : X) → IsOnly Is (Some x) → Is y → x ≡ y
the_one x y h is = cc (h.only y is)

-- where nothing is found nothing is such
pub none_is : {X A : Type 0} {Is : X → Type 0} (y : X) → IsOnly Is None → Is y → A
none_is y h is = absurd (cc (h.only y is))

-- ---- one text

pub prefix_found : (text : List ℕ) (r : Result Prefix NotPrefix) (p : Prefix) → r ≡ Ok p → IfOk r (IsPrefixText text)
    → IfOk r (λ p. (q : Prefix) → IsPrefixText text q → q ≡ p) → IsOnly (IsPrefixText text) (Some p)
prefix_found text r p same is only = record {
  value = subst (λ r. IfOk r (IsPrefixText text)) same is;
  only = λ q other. ap Some (sym (subst (λ r. IfOk r (λ p. (q : Prefix) → IsPrefixText text q → q ≡ p)) same only q other));
}

pub prefix_missed : (text : List ℕ) (r : Result Prefix NotPrefix) (e : NotPrefix) → r ≡ Err e → OnErr r ((p : Prefix) → ¬ (IsPrefixText text p))
    → IsOnly (IsPrefixText text) None
prefix_missed text r e same none = record {
  value = tt;
  only = λ q other. absurd (subst (λ r. OnErr r ((p : Prefix) → ¬ (IsPrefixText text p))) same none q other);
}

pub port_given : (given : Option (List ℕ)) (text : List ℕ) (r : Option ℕ) → given ≡ Some text → IsOnly (IsNumberText 1 65535 text) r
    → IsOnly (IsNumberAt remote_range given) r
port_given given text r same is =
    subst (λ (g : Option (List ℕ)). IsOnly (IsNumberAt remote_range g) r) (sym same) (record { value = value r is.value; only = is.only })
  where
    value : (r : Option ℕ) → IfSome r (IsNumberText 1 65535 text) → IfSome r (IsNumberAt remote_range (Some text))
    value None is = tt
    value (Some n) is = is

pub port_none : (given : Option (List ℕ)) → given ≡ None → IsOnly (IsNumberAt remote_range given) (Some 0)
port_none given same = subst (λ (g : Option (List ℕ)). IsOnly (IsNumberAt remote_range g) (Some 0)) (sym same) (record { value = refl; only = λ n h. h })

pub filter_only : (text : Text) (p : Option Prefix) (n : Option ℕ) → IsOnly (IsPrefixText (before_comma text)) p
    → IsOnly (IsNumberAt remote_range (behind_comma text)) n → IsOnly (IsFilterText text) (filter_with p n)
filter_only text None n hp hn = record { value = tt; only = λ f is. none_is (prefix_of f) hp is.prefix }
filter_only text (Some p) None hp hn = record { value = tt; only = λ f is. none_is f.port hn is.port }
filter_only text (Some p) (Some n) hp hn = record {
  value = record { prefix = hp.value; port = hn.value };
  only = λ f is. rw (the_one p (prefix_of f) hp is.prefix, the_one n f.port hn is.port) refl;
}

-- ---- texts

pub adds_none : (old : List Filter) → AddsFilters [] old old true
adds_none old = record { added = []; are = tt; only = none; new_is = sym (append-nil old) }
  where
    none : (others : List Filter) → AreFilters [] others → others ≡ []
    none [] h = refl
    none (f ∷ fs) h = absurd h

pub adds_more : (text : Text) (rest : List Text) (old mid new : List Filter) (f : Filter) (b : Bool) → IsOnly (IsFilterText text) (Some f)
    → mid ≡ old ++ f ∷ [] → AddsFilters rest mid new b → AddsFilters (text ∷ rest) old new b
adds_more text rest old mid new f true one pushed all = record {
  added = f ∷ all.added;
  are = (one.value, all.are);
  only = others_are;
  new_is = all.new_is ∙ ap (λ (m : List Filter). m ++ all.added) pushed ∙ append_assoc old (f ∷ []) all.added;
}
  where
    others_are : (others : List Filter) → AreFilters (text ∷ rest) others → others ≡ f ∷ all.added
    others_are [] h = absurd h
    others_are (g ∷ gs) h = rw (sym (the_one f g one h.0), all.only gs h.1) refl
adds_more text rest old mid new f false one pushed none = not_all
  where
    not_all : (fs : List Filter) → ¬ (AreFilters (text ∷ rest) fs)
    not_all [] h = h
    not_all (g ∷ gs) h = none gs h.1

pub adds_not : (text : Text) (rest : List Text) (old new : List Filter) → IsOnly (IsFilterText text) None → AddsFilters (text ∷ rest) old new false
adds_not text rest old new none = not_first
  where
    not_first : (fs : List Filter) → ¬ (AreFilters (text ∷ rest) fs)
    not_first [] h = h
    not_first (g ∷ gs) h = none_is g none h.0

pub all_filters : (texts : List Text) (new : List Filter) (b : Bool) → b ≡ true → AddsFilters texts [] new b → IsOnly (AreFilters texts) (Some new)
all_filters texts new true is all = record {
  value = subst (AreFilters texts) (sym all.new_is) all.are;
  only = λ others h. ap Some (all.new_is ∙ sym (all.only others h));
}
all_filters texts new false is all = absurd cc

pub no_filters : (texts : List Text) (new : List Filter) (b : Bool) → b ≡ false → AddsFilters texts [] new b → IsOnly (AreFilters texts) None
no_filters texts new true is none = absurd cc
no_filters texts new false is none = record { value = tt; only = λ fs h. absurd (none fs h) }

pub as_many : (texts : List Text) (filters : List Filter) → AreFilters texts filters → length filters ≡ length texts
as_many [] [] are = refl
as_many [] (f ∷ fs) are = absurd are
as_many (t ∷ ts) [] are = absurd are
as_many (t ∷ ts) (f ∷ fs) are = ap suc (as_many ts fs are.1)

-- ---- by the items of a list

module _ {A : Type 0} (f : A → Text) (xs : List A) (d : A) (t : Text) (some : 1 ≤ length xs) (first : t ≡ f (get_or xs 0 d)) where
  pub adds_not_by : (r : Option Filter) (old new : List Filter) → r ≡ None → IsOnly (IsFilterText t) r → AddsFilters (map f xs) old new false
  adds_not_by r old new none is =
      subst (λ (texts : List Text). AddsFilters texts old new false) (sym (shape_by f xs d t some first))
      (adds_not t (map f (rest_of xs)) old new (subst (IsOnly (IsFilterText t)) none is))

  adds_all_by : (filter : Filter) (old mid new : List Filter) (b : Bool) → IsOnly (IsFilterText t) (Some filter) → mid ≡ old ++ filter ∷ []
      → AddsFilters (map f (rest_of xs)) mid new b → AddsFilters (map f xs) old new b
  adds_all_by filter old mid new b is pushed all =
      subst (λ (texts : List Text). AddsFilters texts old new b) (sym (shape_by f xs d t some first))
      (adds_more t (map f (rest_of xs)) old mid new filter b is pushed all)

  pub adds_more_by : (r : Option Filter) (filter : Filter) (old mid new : List Filter) (result : Result Bool Memory) → r ≡ Some filter → IsOnly (IsFilterText t) r
      → mid ≡ old ++ filter ∷ [] → IfOk result (AddsFilters (map f (rest_of xs)) mid new) → IfOk result (AddsFilters (map f xs) old new)
  adds_more_by r filter old mid new (Ok b) found is pushed all = adds_all_by filter old mid new b (subst (IsOnly (IsFilterText t)) found is) pushed all
  adds_more_by r filter old mid new (Err e) found is pushed all = tt
