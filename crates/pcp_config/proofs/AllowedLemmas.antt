-- A configuration for which a table stands is one that a server may have.
use Rattle.std.proofs.Common.{◌≡◌, ◌≤◌, ◌<◌, ℕ, List, [], ◌∷◌, length, codes, inl, inr, sym, subst, ◌∙◌, arith}
use Rattle.std.specs.List.{AllByRecursion, AllZip}
use Rattle.std.proofs.lemmas.Option.{same_Some, slice_get_within}
use Rattle.toml.specs.Data.{Data, Members}
use Rattle.pcp_base.specs.AddressTexts.{IsPrefixText}
use Rattle.pcp_base.specs.Configs.{AreApart, IsConfig, IsExternal, IsListenAddress}
use Rattle.pcp_base.specs.Tables.{EachTwo}
use Rattle.pcp_base.specs.declared.addresses.Prefix.{Prefix}
use Rattle.pcp_base.specs.declared.configs.TheConstants.{LONGEST_LIFETIME, MOST_DOORS, MOST_QUOTA}
use Rattle.pcp_base.specs.declared.configs.Config.{Config}
use Rattle.pcp_base.specs.declared.configs.External.{External}
use Rattle.pcp_base.specs.declared.configs.ListenAddress.{ListenAddress}
use Rattle.pcp_base.specs.declared.configs.Subscriber.{Subscriber}
use Rattle.pcp_config.specs.ConfigTables.{AreListened, IsConfigTable, IsExternalTable, IsListenText, IsSubscriberTable}
use Rattle.pcp_config.specs.ConfigTexts.{IsConfigText}
use Rattle.pcp_config.specs.declared.TheConstants.{DEFAULT_LIFETIME_MIN, DEFAULT_QUOTA}
use Rattle.pcp_config.specs.TomlValues.{TellsOr, IsListOf, IsNumberIn, IsTableOf, IsTextOf, list_of}
use Rattle.pcp_config.proofs.ConfigLemmas.{IsConfigTable-unique}
use Rattle.pcp_config.proofs.ListenLemmas.{listen_told}

-- what holds of all that items tell
zip_all : {A : Type 0} (R : Data → A → Type 0) (P : A → Type 0) → ((d : Data) (x : A) → R d x → P x) → (ds : List Data) (xs : List A) → AllZip R ds xs → AllByRecursion P xs
zip_all R P f [] [] h = tt
zip_all R P f [] (x ∷ xs) h = absurd h
zip_all R P f (d ∷ ds) [] h = tt
zip_all R P f (d ∷ ds) (x ∷ xs) h = (f d x h.0, zip_all R P f ds xs h.1)

list_all_told : {A : Type 0} (R : Data → A → Type 0) (P : A → Type 0) → ((d : Data) (x : A) → R d x → P x) → (d : Data) (xs : List A) → IsListOf R d xs → AllByRecursion P xs
list_all_told R P f d xs (items, is, h) = zip_all R P f (list_of items) xs h

all_or : {A : Type 0} (members : Members) (key : List ℕ) (R : Data → A → Type 0) (P : A → Type 0) → ((d : Data) (x : A) → R d x → P x) → (xs : List A)
    → TellsOr members key [] (IsListOf R) xs → AllByRecursion P xs
all_or ms key R P f xs (inl (at, same)) = subst (λ t. AllByRecursion P t) (sym same) tt
all_or ms key R P f xs (inr (d, at, h)) = list_all_told R P f d xs h

bounds_or : (members : Members) (key : List ℕ) (default low high n : ℕ) → TellsOr members key default (IsNumberIn low high) n → low ≤ default → default ≤ high
    → (low ≤ n) × (n ≤ high)
bounds_or ms key default low high n (inl (at, same)) a b = (omega (arith, same, a), omega (arith, same, b))
bounds_or ms key default low high n (inr (d, at, h)) a b = (h.1, h.2)

prefix_bits : (text : List ℕ) (p : Prefix) → IsPrefixText text p → p.bits ≤ 128
prefix_bits text p (front, bits, e, inl h) = omega (arith, h.1, h.2)
prefix_bits text p (front, bits, e, inr h) = omega (arith, h.1, h.2)

prefix_told : (d : Data) (p : Prefix) → IsTextOf IsPrefixText d p → p.bits ≤ 128
prefix_told d p (text, is, h) = prefix_bits text p h

external_told : (d : Data) (x : External) → IsTableOf IsExternalTable d x → IsExternal x
external_told d x (ms, is, h) =
    let (l, at, low) = h.low in
    let (m, at', high) = h.high in
    record { low = omega (arith, low.1); ordered = high.1; high = high.2 }

subscriber_told : (externals : List External) (d : Data) (s : Subscriber) → IsTableOf (IsSubscriberTable externals) d s
    → (s.prefix.bits ≤ 128) × (s.external < length externals)
subscriber_told externals d s (ms, is, h) =
    let (p, at, prefix) = h.prefix in
    let (e, at', (text, is', (x, place, writes))) = h.external in
    (prefix_told p s.prefix prefix, slice_get_within externals s.external x place)

-- addresses at which a server may listen
record MayListen (listen : List ListenAddress) : Type 0 where
  few : length listen ≤ MOST_DOORS
  each : AllByRecursion IsListenAddress listen
  different : EachTwo AreApart listen

may_listen : (members : Members) (listen : List ListenAddress) → AreListened members listen → MayListen listen
may_listen ms listen (inl (at, same)) = subst MayListen (sym same) (record { few = omega arith; each = tt; different = tt })
may_listen ms listen (inr (d, at, h)) =
    record { few = h.few; each = list_all_told (IsTextOf IsListenText) IsListenAddress listen_told d listen h.told; different = h.different }

pub IsConfig-from : (members : Members) (c : Config) → IsConfigTable members c → IsConfig c
IsConfig-from ms c h =
    let quota = bounds_or ms (codes "quota") DEFAULT_QUOTA 1 MOST_QUOTA c.quota h.quota (omega arith) (omega arith) in
    let least = bounds_or ms (codes "lifetime_min") DEFAULT_LIFETIME_MIN 1 LONGEST_LIFETIME c.lifetime_min h.lifetime_min (omega arith) (omega arith) in
    let most = bounds_or ms (codes "lifetime_max") LONGEST_LIFETIME c.lifetime_min LONGEST_LIFETIME c.lifetime_max h.lifetime_max least.1 (omega arith) in
    let (d, at, told) = h.externals.told in
    let listen = may_listen ms c.listen h.listen in
    record {
      quota = (omega (arith, quota.0), quota.1);
      lifetime_min = omega (arith, least.0);
      lifetimes = most.0;
      lifetime_max = most.1;
      third_party_count = h.third_party.few;
      third_party = all_or ms (codes "third_party") (IsTextOf IsPrefixText) (λ (p : Prefix). p.bits ≤ 128) prefix_told c.third_party h.third_party.told;
      external_count = (omega (arith, h.externals.some), h.externals.few);
      externals = list_all_told (IsTableOf IsExternalTable) IsExternal external_told d c.externals told;
      external_addresses = h.externals.different;
      subscriber_count = h.subscribers.few;
      subscribers = all_or ms (codes "subscriber") (IsTableOf (IsSubscriberTable c.externals))
          (λ (s : Subscriber). (s.prefix.bits ≤ 128) × (s.external < length c.externals)) (subscriber_told c.externals) c.subscribers h.subscribers.told;
      listen_count = listen.few;
      listen = listen.each;
      listen_different = listen.different;
    }

-- a text stands for one configuration at most
pub IsConfigText-unique : (text : List ℕ) (c d : Config) → IsConfigText text c → IsConfigText text d → c ≡ d
IsConfigText-unique text c d h k =
    let same : h.members ≡ k.members = same_Some _ _ (sym h.toml.1 ∙ k.toml.1) in
    IsConfigTable-unique k.members c d (subst (λ (t : Members). IsConfigTable t c) same h.stands) k.stands
