-- What the options among the words say of a relay (our own).
use Rattle.std.specs.Prelude.{ℕ, ◌≤◌, List, drop, length, slice_get, Option, Some, None, codes}
use Rattle.clap.specs.Words.{Text}
use Rattle.pcp_base.specs.AddressTexts.{IsAddressText, IsPrefixText}
use Rattle.pcp_base.specs.declared.addresses.Address.{Address}
use Rattle.pcp_base.specs.declared.addresses.Prefix.{Prefix}
use Rattle.client_commands.specs.Values.{IsNumberAt, NumberRange}
use Rattle.relay_words.specs.declared.more.RelayMore.{RelayMore}
use Rattle.relay_words.specs.Lists.{AreAll}
use Rattle.relay_words.specs.Splits.{values_in}

-- how many requests of clients a second
abbrev pub rate_range : NumberRange
rate_range = record { default = Some 20; low = 1; high = 100000 }

-- these words say this: the inner addresses behind the first one, whose THIRD_PARTY is passed on, and the rate
pub record IsMore (words : List Text) (more : RelayMore) : Type 0 where
  pub inner : AreAll IsAddressText (drop 1 (values_in (codes "--inner") words)) more.inner
  pub few_inner : length (values_in (codes "--inner") words) ≤ 16
  pub third_party : AreAll IsPrefixText (values_in (codes "--third-party") words) more.third_party
  pub few_third : length (values_in (codes "--third-party") words) ≤ 16
  pub rate : IsNumberAt rate_range (slice_get (values_in (codes "--rate") words) 0) more.rate
  pub once : length (values_in (codes "--rate") words) ≤ 1

abbrev pub more_with : Option (List Address) → Option (List Prefix) → Option ℕ → Option RelayMore
more_with (Some inner) (Some third_party) (Some rate) =
    Some (record { inner = inner; third_party = third_party; rate = rate })
more_with inner third_party rate = None
