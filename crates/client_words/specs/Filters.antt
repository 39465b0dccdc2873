-- Filters in text: `PREFIX` or `PREFIX,PORT` (our own; RFC 6887, section 13.3).
use Rattle.std.specs.Prelude.{◌≡◌, ℕ, ◌+◌, ◌==◌, Bool, true, false, List, [], ◌∷◌, ◌++◌, length, take, drop, position, Option, Some, None, option_map, unwrap_or, ⊤}
use Rattle.clap.specs.Words.{Text}
use Rattle.pcp_base.specs.AddressTexts.{IsPrefixText}
use Rattle.pcp_base.specs.declared.addresses.Prefix.{Prefix}
use Rattle.pcp_base.specs.declared.leases.Filter.{Filter}
use Rattle.client_commands.specs.Values.{IsNumberAt, NumberRange}

-- where the first comma stands
abbrev pub comma_in : Text → Option ℕ
comma_in text = position (λ octet. octet == 44) text

abbrev pub before_comma : Text → Text
before_comma text = take (unwrap_or (comma_in text) (length text)) text

abbrev pub behind_comma : Text → Option Text
behind_comma text = option_map (λ at. drop (at + 1) text) (comma_in text)

-- the remote port, where 0, which no text writes, is every port
abbrev pub remote_range : NumberRange
remote_range = record { default = Some 0; low = 1; high = 65535 }

abbrev pub prefix_of : Filter → Prefix
prefix_of filter = record { bits = filter.prefix; address = filter.remote }

pub record IsFilterText (text : Text) (filter : Filter) : Type 0 where
  pub prefix : IsPrefixText (before_comma text) (prefix_of filter)
  pub port : IsNumberAt remote_range (behind_comma text) filter.port

-- each text is a filter
abbrev pub AreFilters : List Text → List Filter → Type 0
AreFilters [] [] = ⊤
AreFilters [] (filter ∷ filters) = ⊥
AreFilters (text ∷ texts) [] = ⊥
AreFilters (text ∷ texts) (filter ∷ filters) = IsFilterText text filter × AreFilters texts filters

-- the filter of a prefix and a port
abbrev pub filter_with : Option Prefix → Option ℕ → Option Filter
filter_with (Some prefix) (Some port) =
    Some (record { prefix = prefix.bits; port = port; remote = prefix.address })
filter_with prefix port = None

-- what was read of some texts, behind other filters: all of them as filters, and no others; or one is none
pub record AddsAll (texts : List Text) (old new : List Filter) : Type 0 where
  pub added : List Filter
  pub are : AreFilters texts added
  pub only : (others : List Filter) → AreFilters texts others → others ≡ added
  pub new_is : new ≡ old ++ added

abbrev pub AddsFilters : List Text → List Filter → List Filter → Bool → Type 0
AddsFilters texts old new true = AddsAll texts old new
AddsFilters texts old new false = (filters : List Filter) → ¬ (AreFilters texts filters)
