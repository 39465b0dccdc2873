-- What the options among the words say, and that alone.
use Rattle.std.proofs.Common.{◌≡◌, ℕ, ◌<◌, ◌≤◌, List, [], ◌∷◌, length, Option, Some, None, refl, sym, subst, ap, ◌∙◌, arith, codes}
use Rattle.std.specs.Prelude.{option_map, slice_get}
use Rattle.clap.specs.Words.{Text}
use Rattle.pcp_base.specs.AddressTexts.{IsAddressText}
use Rattle.pcp_base.specs.declared.addresses.Address.{Address}
use Rattle.pcp_base.specs.declared.addresses.Nonce.{Nonce}
use Rattle.pcp_base.specs.declared.leases.Filter.{Filter}
use Rattle.client_commands.specs.Commands.{IsOnly}
use Rattle.client_words.specs.declared.more.More.{More}
use Rattle.client_words.specs.Filters.{AreFilters}
use Rattle.client_words.specs.Mores.{IsMore, IsThirdAt, more_with}
use Rattle.client_words.specs.Nonces.{nonce_given}
use Rattle.client_words.specs.Splits.{values_in}
use Rattle.client_words.proofs.FilterLemmas.{none_is, the_one}

pub third_absent : (given : Option Text) → given ≡ None → IsOnly (IsThirdAt given) (Some None)
third_absent given same = subst (λ (g : Option Text). IsOnly (IsThirdAt g) (Some None)) (sym same) (record { value = refl; only = λ third is. ap Some (sym is) })

third_text : (text : Text) (a : Option Address) → IsOnly (IsAddressText text) a → IsOnly (IsThirdAt (Some text)) (option_map (λ a. Some a) a)
third_text text None none = record { value = tt; only = only }
  where
    only : (third : Option Address) → IsThirdAt (Some text) third → None ≡ Some third
    only None is = absurd is
    only (Some b) is = none_is b none is
third_text text (Some a) one = record { value = one.value; only = only }
  where
    only : (third : Option Address) → IsThirdAt (Some text) third → Some (Some a) ≡ Some third
    only None is = absurd is
    only (Some b) is = ap (λ (x : Address). Some (Some x)) (the_one a b one is)

pub third_given : (given : Option Text) (text : Text) (a : Option Address) → given ≡ Some text → IsOnly (IsAddressText text) a
    → IsOnly (IsThirdAt given) (option_map (λ a. Some a) a)
third_given given text a same is = subst (λ (g : Option Text). IsOnly (IsThirdAt g) (option_map (λ a. Some a) a)) (sym same) (third_text text a is)

module _ (words : List Text) (filed : Option Text) where
  pub more_only : (n : Option (Option Nonce)) (t : Option (Option Address)) (f : Option (List Filter))
      → n ≡ nonce_given (values_in (codes "--nonce") words) (values_in (codes "--nonce-file") words) filed
      → IsOnly (IsThirdAt (slice_get (values_in (codes "--third-party") words) 0)) t → IsOnly (AreFilters (values_in (codes "--filter") words)) f
      → length (values_in (codes "--third-party") words) ≤ 1 → length (values_in (codes "--filter") words) ≤ 8 → IsOnly (IsMore words filed) (more_with n t f)
  more_only None t f hn ht hf once few = record { value = tt; only = λ m is. absurd (cc (hn ∙ is.nonce)) }
  more_only (Some n) None f hn ht hf once few = record { value = tt; only = λ m is. none_is m.third ht is.third }
  more_only (Some n) (Some t) None hn ht hf once few = record { value = tt; only = λ m is. none_is m.filters hf is.filters }
  more_only (Some n) (Some t) (Some f) hn ht hf once few = record {
    value = record { nonce = sym hn; third = ht.value; once = once; filters = hf.value; few = few };
    only = λ m is.
        let same : Some n ≡ Some m.nonce = hn ∙ is.nonce in
        let nonce : n ≡ m.nonce = cc in
        rw (nonce, the_one t m.third ht is.third, the_one f m.filters hf is.filters) refl;
  }

  pub more_many : 8 < length (values_in (codes "--filter") words) → IsOnly (IsMore words filed) None
  more_many many = record { value = tt; only = λ m is. absurd (omega (arith, many, is.few)) }

  pub more_twice : 1 < length (values_in (codes "--third-party") words) → IsOnly (IsMore words filed) None
  more_twice twice = record { value = tt; only = λ m is. absurd (omega (arith, twice, is.once)) }

  pub more_by : (ds fs ts xs : List Text) (n : Option (Option Nonce)) (t : Option (Option Address)) (f : Option (List Filter)) (m : Option More)
      → ds ≡ values_in (codes "--nonce") words → fs ≡ values_in (codes "--nonce-file") words → ts ≡ values_in (codes "--third-party") words
      → xs ≡ values_in (codes "--filter") words → n ≡ nonce_given ds fs filed → IsOnly (IsThirdAt (slice_get ts 0)) t → IsOnly (AreFilters xs) f
      → length ts ≤ 1 → length xs ≤ 8 → m ≡ more_with n t f → IsOnly (IsMore words filed) m
  more_by ds fs ts xs n t f m a b c e hn ht hf once few is =
      rw is (more_only n t f (rw (sym a, sym b) hn) (subst (λ (ys : List Text). IsOnly (IsThirdAt (slice_get ys 0)) t) c ht)
      (subst (λ (ys : List Text). IsOnly (AreFilters ys) f) e hf) (rw (sym c) once) (rw (sym e) few))
