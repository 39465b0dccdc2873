-- Configurations that a server may have (our own).
use Rattle.std.specs.Prelude.{◌≡◌, ◌≢◌, ℕ, ◌+◌, ◌<◌, ◌≤◌, ◌⊎◌, ◌||◌, Bool, true, false, List, [], ◌∷◌, length, replicate}
use Rattle.std.specs.List.{AllByRecursion}
use Rattle.pcp_base.specs.declared.configs.TheConstants.{MOST_DOORS, MOST_EXTERNALS, MOST_SUBSCRIBERS, MOST_THIRD_PARTIES, MOST_QUOTA, LONGEST_LIFETIME}
use Rattle.pcp_base.specs.declared.addresses.Address.{Address}
use Rattle.pcp_base.specs.declared.addresses.Prefix.{Prefix}
use Rattle.pcp_base.specs.declared.configs.External.{External}
use Rattle.pcp_base.specs.declared.configs.ListenAddress.{ListenAddress}
use Rattle.pcp_base.specs.declared.configs.Config.{Config}
use Rattle.pcp_base.specs.Pairing.{holds, v4_octets}
use Rattle.pcp_base.specs.Tables.{EachTwo}

pub record IsExternal (x : External) : Type 0 where
  pub low : 0 < x.low
  pub ordered : x.low ≤ x.high
  pub high : x.high ≤ 65535

-- the prefix of so many bits of these octets
abbrev pub prefix : List ℕ → ℕ → Prefix
prefix octets bits = record { bits = bits; address = record { 0 = octets } }

-- ff00::/8 (RFC 4291, section 2.7), and 224.0.0.0/4 (RFC 5771)
abbrev pub is_multicast : Address → Bool
is_multicast a =
    holds (prefix (255 ∷ replicate 15 0) 8) a || holds (prefix (v4_octets 224 0 0 0) (96 + 4)) a

-- fe80::/10 (RFC 4291, section 2.5.6)
abbrev pub is_link_local : Address → Bool
is_link_local a = holds (prefix (254 ∷ 128 ∷ replicate 14 0) 10) a

-- no address of a host: all of its octets are zero, or it is 0.0.0.0
abbrev pub is_unspecified : Address → Bool
is_unspecified a =
    holds (prefix (replicate 16 0) 128) a || holds (prefix (v4_octets 0 0 0 0) 128) a

-- two places at which a server listens
abbrev pub AreApart : ListenAddress → ListenAddress → Type 0
AreApart x y = (x.address ≢ y.address) ⊎ (x.link ≢ y.link)

-- an address at which a server may listen: a link is named of a link-local one alone
pub record IsListenAddress (x : ListenAddress) : Type 0 where
  pub specified : is_unspecified x.address ≡ false
  pub unicast : is_multicast x.address ≡ false
  pub short : length x.link ≤ 15
  pub link : (x.link ≡ []) ⊎ (is_link_local x.address ≡ true)

pub record IsConfig (c : Config) : Type 0 where
  pub quota : (0 < c.quota) × (c.quota ≤ MOST_QUOTA)
  pub lifetime_min : 0 < c.lifetime_min
  pub lifetimes : c.lifetime_min ≤ c.lifetime_max
  pub lifetime_max : c.lifetime_max ≤ LONGEST_LIFETIME
  pub third_party_count : length c.third_party ≤ MOST_THIRD_PARTIES
  pub third_party : AllByRecursion (λ p. p.bits ≤ 128) c.third_party
  pub external_count : (0 < length c.externals) × (length c.externals ≤ MOST_EXTERNALS)
  pub externals : AllByRecursion IsExternal c.externals
  pub external_addresses : EachTwo (λ x y. x.address ≢ y.address) c.externals
  pub subscriber_count : length c.subscribers ≤ MOST_SUBSCRIBERS
  pub subscribers : AllByRecursion (λ s. (s.prefix.bits ≤ 128)
      × (s.external < length c.externals)) c.subscribers
  pub listen_count : length c.listen ≤ MOST_DOORS
  pub listen : AllByRecursion IsListenAddress c.listen
  pub listen_different : EachTwo AreApart c.listen
