-- What the options among the words say of a mapping (our own).
use Rattle.std.specs.Prelude.{◌≡◌, ◌≤◌, List, length, slice_get, Option, Some, None, codes}
use Rattle.clap.specs.Words.{Text}
use Rattle.pcp_base.specs.AddressTexts.{IsAddressText}
use Rattle.pcp_base.specs.declared.addresses.Address.{Address}
use Rattle.pcp_base.specs.declared.addresses.Nonce.{Nonce}
use Rattle.pcp_base.specs.declared.leases.Filter.{Filter}
use Rattle.client_words.specs.declared.more.More.{More}
use Rattle.client_words.specs.Filters.{AreFilters}
use Rattle.client_words.specs.Nonces.{nonce_given}
use Rattle.client_words.specs.Splits.{values_in}

-- the third host, where one is given
abbrev pub IsThirdText : Text → Option Address → Type 0
IsThirdText text None = ⊥
IsThirdText text (Some address) = IsAddressText text address

abbrev pub IsThirdAt : Option Text → Option Address → Type 0
IsThirdAt None third = third ≡ None
IsThirdAt (Some text) third = IsThirdText text third

-- these words say this, with this text in the file that they name
pub record IsMore (words : List Text) (filed : Option Text) (more : More) : Type 0 where
  pub nonce : nonce_given (values_in (codes "--nonce") words)
      (values_in (codes "--nonce-file") words) filed ≡ Some more.nonce
  pub third : IsThirdAt (slice_get (values_in (codes "--third-party") words) 0) more.third
  pub once : length (values_in (codes "--third-party") words) ≤ 1
  pub filters : AreFilters (values_in (codes "--filter") words) more.filters
  pub few : length (values_in (codes "--filter") words) ≤ 8

abbrev pub more_with : Option (Option Nonce) → Option (Option Address) → Option (List Filter) →
    Option More
more_with (Some nonce) (Some third) (Some filters) =
    Some (record { nonce = nonce; third = third; filters = filters })
more_with given third filters = None
