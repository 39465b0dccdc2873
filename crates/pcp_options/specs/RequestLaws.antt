-- A request that is written is asked (RFC 6887, section 8.2): its verdict is the ask that it was written for.
use Rattle.std.specs.Prelude.{◌≡◌, ℕ, ◌<◌, ◌^◌, true, false, bytes_eq, length, Option, Some, None, ⊤}
use Rattle.std.specs.List.{AllByRecursion, list_any}
use Rattle.pcp_base.specs.declared.addresses.Address.{Address}
use Rattle.pcp_base.specs.declared.asks.Ask.{Ask}
use Rattle.pcp_base.specs.declared.asks.Ask.TheVariants.{Map, Peer}
use Rattle.pcp_base.specs.declared.configs.Config.{Config}
use Rattle.pcp_base.specs.Asks.{IsWellFormedAsk}
use Rattle.pcp_base.specs.Pairing.{holds, place_of}
use Rattle.pcp_options.specs.declared.options.Item.TheVariants.{Filter}
use Rattle.pcp_options.specs.declared.verdicts.Verdict.TheVariants.{Asked}
use Rattle.pcp_options.specs.Asking.{subject_of}
use Rattle.pcp_options.specs.Requests.{CanBeWritten, asked_items, request_text}
use Rattle.pcp_options.specs.Responses.{FitsItem, FitsSet}
use Rattle.pcp_options.specs.Verdicts.{verdict_of}

-- the address that an ask is for; that of ANNOUNCE is the client's own
abbrev pub address_of : Address → Ask → Address
address_of own (Map ask) = ask.endpoint.address
address_of own (Peer ask) = ask.endpoint.address
address_of own ask = own

-- the numbers and addresses of an ask, as their types hold them
abbrev pub FitsAsk : Ask → Type 0
FitsAsk (Map ask) =
    (length ask.nonce.0 ≡ 12) × (length ask.address.0 ≡ 16) × (ask.lifetime < 2 ^ 32)
    × AllByRecursion (λ f. FitsItem (Filter f)) ask.filters × FitsSet ask.set
FitsAsk (Peer ask) =
    (length ask.nonce.0 ≡ 12) × (length ask.address.0 ≡ 16) × (ask.lifetime < 2 ^ 32)
    × (length ask.remote.0 ≡ 16)
FitsAsk ask = ⊤

-- a third host is another one, and the client may ask for others
abbrev pub MayAskFor : Config → Address → Option Address → Type 0
MayAskFor config own None = ⊤
MayAskFor config own (Some a) =
    (length a.0 ≡ 16) × (bytes_eq a.0 own.0 ≡ false)
    × (list_any (λ p. holds p own) config.third_party ≡ true)

-- the conditions: the ask is well formed, is for the third host or the client itself, and a subscriber row has it
pub record CanBeAsked (config : Config) (own : Address) (third : Option Address) (ask : Ask)
    (place : ℕ) : Type 0 where
  pub well_formed : IsWellFormedAsk ask
  pub written : CanBeWritten ask
  pub fits : FitsAsk ask
  pub sixteen : length own.0 ≡ 16
  pub address : address_of own ask ≡ subject_of own third
  pub paired : place_of config.subscribers (subject_of own third) ≡ Some place
  pub other : MayAskFor config own third

abbrev pub RequestsAreAsked : Type 0
RequestsAreAsked =
    (config : Config) (own : Address) (third : Option Address) (ask : Ask) (place : ℕ)
    → CanBeAsked config own third ask place
    → verdict_of config own (request_text own third ask) ≡ Asked place ask (asked_items third ask)
