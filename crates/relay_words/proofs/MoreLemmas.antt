-- What the options among the words say, and that alone.
use Rattle.std.proofs.Common.{◌≡◌, ℕ, ◌≤◌, ◌<◌, List, drop, length, Option, Some, None, refl, sym, subst, arith, codes}
use Rattle.std.specs.Prelude.{slice_get}
use Rattle.clap.specs.Words.{Text}
use Rattle.pcp_base.specs.AddressTexts.{IsAddressText, IsPrefixText}
use Rattle.pcp_base.specs.declared.addresses.Address.{Address}
use Rattle.pcp_base.specs.declared.addresses.Prefix.{Prefix}
use Rattle.client_commands.specs.Commands.{IsOnly}
use Rattle.client_commands.specs.Values.{IsNumberAt}
use Rattle.relay_words.specs.declared.more.RelayMore.{RelayMore}
use Rattle.relay_words.specs.Lists.{AreAll}
use Rattle.relay_words.specs.Mores.{IsMore, more_with, rate_range}
use Rattle.relay_words.specs.Splits.{values_in}
use Rattle.relay_words.proofs.TextLemmas.{none_is, the_one}

module _ (words : List Text) where
  abbrev inner_in : List Text
  inner_in = values_in (codes "--inner") words

  abbrev thirds_in : List Text
  thirds_in = values_in (codes "--third-party") words

  abbrev rates_in : List Text
  rates_in = values_in (codes "--rate") words

  more_only : (a : Option (List Address)) (p : Option (List Prefix)) (n : Option ℕ)
      → IsOnly (AreAll IsAddressText (drop 1 inner_in)) a → IsOnly (AreAll IsPrefixText thirds_in) p → IsOnly (IsNumberAt rate_range (slice_get rates_in 0)) n
      → length inner_in ≤ 16 → length thirds_in ≤ 16 → length rates_in ≤ 1 → IsOnly (IsMore words) (more_with a p n)
  more_only None p n ha hp hn few_inner few_third once = record { value = tt; only = λ m is. none_is m.inner ha is.inner }
  more_only (Some a) None n ha hp hn few_inner few_third once = record { value = tt; only = λ m is. none_is m.third_party hp is.third_party }
  more_only (Some a) (Some p) None ha hp hn few_inner few_third once = record { value = tt; only = λ m is. none_is m.rate hn is.rate }
  more_only (Some a) (Some p) (Some n) ha hp hn few_inner few_third once = record {
    value = record { inner = ha.value; few_inner = few_inner; third_party = hp.value; few_third = few_third; rate = hn.value; once = once };
    only = λ m is. rw (the_one a m.inner ha is.inner, the_one p m.third_party hp is.third_party, the_one n m.rate hn is.rate) refl;
  }

  pub more_inner : 16 < length inner_in → IsOnly (IsMore words) None
  more_inner many = record { value = tt; only = λ m is. absurd (omega (arith, many, is.few_inner)) }

  pub more_thirds : 16 < length thirds_in → IsOnly (IsMore words) None
  more_thirds many = record { value = tt; only = λ m is. absurd (omega (arith, many, is.few_third)) }

  pub more_twice : 1 < length rates_in → IsOnly (IsMore words) None
  more_twice twice = record { value = tt; only = λ m is. absurd (omega (arith, twice, is.once)) }

  pub more_by : (is ts rs : List Text) (a : Option (List Address)) (p : Option (List Prefix)) (n : Option ℕ) (m : Option RelayMore)
      → is ≡ inner_in → ts ≡ thirds_in → rs ≡ rates_in
      → IsOnly (AreAll IsAddressText (drop 1 is)) a → IsOnly (AreAll IsPrefixText ts) p → IsOnly (IsNumberAt rate_range (slice_get rs 0)) n
      → length is ≤ 16 → length ts ≤ 16 → length rs ≤ 1 → m ≡ more_with a p n → IsOnly (IsMore words) m
  more_by is ts rs a p n m e f g ha hp hn few_inner few_third once made =
      rw made (more_only a p n (subst (λ (ys : List Text). IsOnly (AreAll IsAddressText (drop 1 ys)) a) e ha)
      (subst (λ (ys : List Text). IsOnly (AreAll IsPrefixText ys) p) f hp)
      (subst (λ (ys : List Text). IsOnly (IsNumberAt rate_range (slice_get ys 0)) n) g hn)
      (rw (sym e) few_inner) (rw (sym f) few_third) (rw (sym g) once))
