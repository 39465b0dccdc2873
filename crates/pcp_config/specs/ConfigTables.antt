-- The grammar of a configuration: which table stands for which (our own).
use Rattle.std.specs.Prelude.{◌≡◌, ◌≢◌, ℕ, ◌≤◌, nat_le, ◌==◌, ◌⊎◌, Bool, not, ◌&&◌, List, [], ◌∷◌, ◌++◌, length, codes, true, false, Some, slice_get}
use Rattle.std.specs.Char.{is_ascii_graphic}
use Rattle.std.specs.List.{list_all}
use Rattle.toml.specs.Data.{Data, Members}
use Rattle.pcp_base.specs.AddressTexts.{IsAddressText, IsPrefixText}
use Rattle.pcp_base.specs.Configs.{AreApart, is_link_local, is_multicast, is_unspecified}
use Rattle.pcp_base.specs.Tables.{EachTwo}
use Rattle.pcp_base.specs.declared.addresses.Address.{Address}
use Rattle.pcp_base.specs.declared.addresses.Prefix.{Prefix}
use Rattle.pcp_base.specs.declared.configs.TheConstants.{MOST_DOORS, MOST_EXTERNALS, MOST_SUBSCRIBERS, MOST_THIRD_PARTIES, MOST_QUOTA, LONGEST_LIFETIME}
use Rattle.pcp_base.specs.declared.configs.Config.{Config}
use Rattle.pcp_base.specs.declared.configs.External.{External}
use Rattle.pcp_base.specs.declared.configs.ListenAddress.{ListenAddress}
use Rattle.pcp_base.specs.declared.configs.Orders.{Orders}
use Rattle.pcp_base.specs.declared.configs.Orders.TheVariants.{Both, Folder}
use Rattle.pcp_base.specs.declared.configs.Subscriber.{Subscriber}
use Rattle.pcp_config.specs.declared.TheConstants.{DEFAULT_LIFETIME_MIN, DEFAULT_QUOTA, LAST_PORT, LONGEST_LINK}
use Rattle.pcp_config.specs.TomlValues.{has_only, TellsAt, TellsOr, IsNumberIn, IsTextOf, IsTableOf, IsListOf}

-- prefixes of hosts that may ask for others
pub record AreThirdParties (members : Members) (prefixes : List Prefix) : Type 0 where
  pub told : TellsOr members (codes "third_party") [] (IsListOf (IsTextOf IsPrefixText)) prefixes
  pub few : length prefixes ≤ MOST_THIRD_PARTIES

-- a table of an external address
pub record IsExternalTable (members : Members) (x : External) : Type 0 where
  pub keys : has_only (codes "address" ∷ codes "low" ∷ codes "high" ∷ []) members ≡ true
  pub address : TellsAt members (codes "address") (IsTextOf IsAddressText) x.address
  pub low : TellsAt members (codes "low") (IsNumberIn 1 LAST_PORT) x.low
  pub high : TellsAt members (codes "high") (IsNumberIn x.low LAST_PORT) x.high

-- external addresses, which differ
pub record AreExternals (members : Members) (externals : List External) : Type 0 where
  pub told : TellsAt members (codes "external") (IsListOf (IsTableOf IsExternalTable)) externals
  pub some : 1 ≤ length externals
  pub few : length externals ≤ MOST_EXTERNALS
  pub different : EachTwo (λ x y. x.address ≢ y.address) externals

-- the text writes the address of the external with this index
abbrev pub IsExternalText : List External → List ℕ → ℕ → Type 0
IsExternalText externals text index =
    (x : External) × (slice_get externals index ≡ Some x) × IsAddressText text x.address

-- a table of internal hosts and their external address
pub record IsSubscriberTable (externals : List External) (members : Members) (s : Subscriber) : Type 0 where
  pub keys : has_only (codes "prefix" ∷ codes "external" ∷ []) members ≡ true
  pub prefix : TellsAt members (codes "prefix") (IsTextOf IsPrefixText) s.prefix
  pub external : TellsAt members (codes "external") (IsTextOf (IsExternalText externals)) s.external

-- subscribers, in their order
pub record AreSubscribers (externals : List External) (members : Members) (subscribers : List Subscriber) : Type 0 where
  pub told :
      TellsOr members (codes "subscriber") [] (IsListOf (IsTableOf (IsSubscriberTable externals))) subscribers
  pub few : length subscribers ≤ MOST_SUBSCRIBERS

-- an octet of a link's name: a printable one, but none of those that Linux takes in no name
abbrev pub is_link_octet : ℕ → Bool
is_link_octet c = is_ascii_graphic c && not (c == 37) && not (c == 47) && not (c == 58)

-- the name of a link: 1 to 15 octets, and no blank, `%`, `/` or `:` among them
abbrev pub is_link_name : List ℕ → Bool
is_link_name name =
    not (length name == 0) && nat_le (length name) LONGEST_LINK && list_all is_link_octet name

-- the text writes an address at which a host may listen: neither an all-zero nor a multicast one
abbrev pub IsHostText : List ℕ → Address → Type 0
IsHostText text a = IsAddressText text a × (is_unspecified a ≡ false) × (is_multicast a ≡ false)

-- a link-local address, and the name of its link
abbrev pub IsLinked : List ℕ → List ℕ → Address → Type 0
IsLinked text link a = IsHostText text a × (is_link_local a ≡ true) × (is_link_name link ≡ true)

-- such an address, and behind `%` that name
abbrev pub IsLinkText : List ℕ → ListenAddress → Type 0
IsLinkText text x =
    (front : List ℕ) × (text ≡ front ++ codes "%" ++ x.link) × IsLinked front x.link x.address

-- an address at which a host may listen, of which a link may be named
abbrev pub IsListenText : List ℕ → ListenAddress → Type 0
IsListenText text x = (IsHostText text x.address × (x.link ≡ [])) ⊎ IsLinkText text x

-- one such address at least, all different
pub record IsListenList (d : Data) (listen : List ListenAddress) : Type 0 where
  pub told : IsListOf (IsTextOf IsListenText) d listen
  pub some : 1 ≤ length listen
  pub few : length listen ≤ MOST_DOORS
  pub different : EachTwo AreApart listen

abbrev pub AreListened : Members → List ListenAddress → Type 0
AreListened members listen = TellsOr members (codes "listen") [] IsListenList listen

-- where orders come from
abbrev pub IsOrdersText : List ℕ → Orders → Type 0
IsOrdersText text Both = text ≡ codes "loopback"
IsOrdersText text Folder = text ≡ codes "folder"

abbrev pub AreOrders : Members → Orders → Type 0
AreOrders members orders = TellsOr members (codes "orders") Both (IsTextOf IsOrdersText) orders

abbrev pub config_keys : List (List ℕ)
config_keys =
    codes "quota" ∷ codes "lifetime_min" ∷ codes "lifetime_max" ∷ codes "third_party"
    ∷ codes "external" ∷ codes "subscriber" ∷ codes "listen" ∷ codes "orders" ∷ []

abbrev pub IsQuota : Members → ℕ → Type 0
IsQuota members n = TellsOr members (codes "quota") DEFAULT_QUOTA (IsNumberIn 1 MOST_QUOTA) n

abbrev pub IsLifetimeMin : Members → ℕ → Type 0
IsLifetimeMin members n =
    TellsOr members (codes "lifetime_min") DEFAULT_LIFETIME_MIN (IsNumberIn 1 LONGEST_LIFETIME) n

-- a greatest lifetime that isn't below the least one
abbrev pub IsLifetimeMax : ℕ → Members → ℕ → Type 0
IsLifetimeMax least members n =
    TellsOr members (codes "lifetime_max") LONGEST_LIFETIME (IsNumberIn least LONGEST_LIFETIME) n

-- the table stands for the configuration
pub record IsConfigTable (members : Members) (c : Config) : Type 0 where
  pub keys : has_only config_keys members ≡ true
  pub quota : IsQuota members c.quota
  pub lifetime_min : IsLifetimeMin members c.lifetime_min
  pub lifetime_max : IsLifetimeMax c.lifetime_min members c.lifetime_max
  pub third_party : AreThirdParties members c.third_party
  pub externals : AreExternals members c.externals
  pub subscribers : AreSubscribers c.externals members c.subscribers
  pub listen : AreListened members c.listen
  pub orders : AreOrders members c.orders
