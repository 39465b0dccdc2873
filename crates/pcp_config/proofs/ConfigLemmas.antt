-- Tables of a configuration stand for one thing at most.
use Rattle.std.proofs.Common.{◌≡◌, ◌≢◌, ℕ, zero, suc, List, [], ◌∷◌, length, codes, Some, None, slice_get, inl, inr, refl, sym, subst, ◌∙◌, ap}
use Rattle.std.specs.List.{AllByRecursion}
use Rattle.std.proofs.lemmas.Option.{same_Some}
use Rattle.std.proofs.lemmas.Slice.Zip.{AllZip-long}
use Rattle.toml.specs.Data.{Data, Members, as_array, get_member}
use Rattle.pcp_base.specs.AddressTexts.{IsAddressText, IsPrefixText}
use Rattle.pcp_base.specs.Tables.{EachTwo}
use Rattle.pcp_base.specs.declared.addresses.Prefix.{Prefix}
use Rattle.pcp_base.specs.declared.configs.TheConstants.{LONGEST_LIFETIME, MOST_QUOTA}
use Rattle.pcp_base.specs.declared.configs.Config.{Config}
use Rattle.pcp_base.specs.declared.configs.External.{External}
use Rattle.pcp_base.specs.declared.configs.Subscriber.{Subscriber}
use Rattle.pcp_base.proofs.AddressLemmas.{IsAddressText-unique}
use Rattle.pcp_config.specs.ConfigTables.{AreExternals, AreSubscribers, AreThirdParties, IsConfigTable, IsExternalTable, IsExternalText, IsSubscriberTable}
use Rattle.pcp_config.specs.declared.TheConstants.{DEFAULT_LIFETIME_MIN, DEFAULT_QUOTA, LAST_PORT}
use Rattle.pcp_config.specs.TomlValues.{TellsAt, TellsOr, IsListOf, IsNumberIn, IsTableOf, IsTextOf, list_of}
use Rattle.pcp_config.proofs.ListenLemmas.{listen_unique, orders_unique}
use Rattle.pcp_config.proofs.PrefixUnique.{IsPrefixText-unique}
use Rattle.pcp_config.proofs.UniqueLemmas.{Agree, TellsAt-unique, TellsOr-unique, IsListOf-unique, IsNumberIn-unique, IsTableOf-unique, IsTextOf-unique}

-- a value that tells nothing, under a key that has a default
pub untold_or : {A : Type 0} (members : Members) (key : List ℕ) (default : A) (Tells : Data → A → Type 0) (d : Data) → Some d ≡ get_member key members
    → ((x : A) → ¬ (Tells d x)) → (x : A) → ¬ (TellsOr members key default Tells x)
untold_or _ key default Tells d seen none x (inl (at, same)) = let bad : Some d ≡ None = seen ∙ at in absurd (cc)
untold_or _ key default Tells d seen none x (inr (other, at, tells)) =
    let same : d ≡ other = same_Some _ _ (seen ∙ at) in
    none x (subst (λ t. Tells t x) (sym same) tells)

-- lists that one array tells are as long
told_length : {A : Type 0} (R S : Data → A → Type 0) (d : Data) (xs ys : List A) → IsListOf R d xs → IsListOf S d ys → length xs ≡ length ys
told_length R S d xs ys (items, is, h) (items', is', k) =
    let same : items ≡ items' = same_Some _ _ (ap as_array (sym is ∙ is')) in
    AllZip-long R (list_of items) xs h ∙ ap (λ t. length (list_of t)) same ∙ sym (AllZip-long S (list_of items') ys k)

-- the default apart, the same under a key
pub length_or : {A : Type 0} (members : Members) (key : List ℕ) (default : List A) (R : Data → A → Type 0) (d : Data) (xs ys : List A)
    → Some d ≡ get_member key members → IsListOf R d xs → TellsOr members key default (IsListOf R) ys → length ys ≡ length xs
length_or _ key default R d xs ys seen h (inl (at, same)) = let bad : Some d ≡ None = seen ∙ at in absurd (cc)
length_or _ key default R d xs ys seen h (inr (other, at, k)) =
    let same : d ≡ other = same_Some _ _ (seen ∙ at) in
    told_length R R other ys xs k (subst (λ t. IsListOf R t xs) same h)

pub length_at : {A : Type 0} (members : Members) (key : List ℕ) (R : Data → A → Type 0) (d : Data) (xs ys : List A)
    → Some d ≡ get_member key members → IsListOf R d xs → TellsAt members key (IsListOf R) ys → length ys ≡ length xs
length_at _ key R d xs ys seen h (other, at, k) =
    let same : d ≡ other = same_Some _ _ (seen ∙ at) in
    told_length R R other ys xs k (subst (λ t. IsListOf R t xs) same h)

prefixes_agree : Agree (IsListOf (IsTextOf IsPrefixText)) (IsListOf (IsTextOf IsPrefixText))
prefixes_agree = IsListOf-unique _ _ (IsTextOf-unique IsPrefixText IsPrefixText-unique)

same_external : (x y : External) → x.address ≡ y.address → x.low ≡ y.low → x.high ≡ y.high → x ≡ y
same_external x y a l h = λ i. record { address = a i; low = l i; high = h i }

external_unique : (members : Members) (x y : External) → IsExternalTable members x → IsExternalTable members y → x ≡ y
external_unique ms x y h k =
    same_external x y
    (TellsAt-unique ms (codes "address") _ _ (IsTextOf-unique IsAddressText IsAddressText-unique) x.address y.address h.address k.address)
    (TellsAt-unique ms (codes "low") _ _ (IsNumberIn-unique 1 LAST_PORT 1 LAST_PORT) x.low y.low h.low k.low)
    (TellsAt-unique ms (codes "high") _ _ (IsNumberIn-unique x.low LAST_PORT y.low LAST_PORT) x.high y.high h.high k.high)

externals_agree : Agree (IsListOf (IsTableOf IsExternalTable)) (IsListOf (IsTableOf IsExternalTable))
externals_agree = IsListOf-unique _ _ (IsTableOf-unique IsExternalTable IsExternalTable external_unique)

pub externals_unique : (members : Members) (xs ys : List External) → AreExternals members xs → AreExternals members ys → xs ≡ ys
externals_unique ms xs ys h k = TellsAt-unique ms (codes "external") _ _ externals_agree xs ys h.told k.told

-- a list with equal addresses
pub not_different : (members : Members) (d : Data) (xs ys : List External) → Some d ≡ get_member (codes "external") members
    → IsListOf (IsTableOf IsExternalTable) d xs → ¬ (EachTwo (λ x y. x.address ≢ y.address) xs) → ¬ (AreExternals members ys)
not_different ms d xs ys seen h same k =
    let one : ys ≡ xs = TellsAt-unique ms (codes "external") _ _ externals_agree ys xs k.told (d, sym seen, h) in
    same (subst (λ (zs : List External). EachTwo (λ x y. x.address ≢ y.address) zs) one k.different)

pub third_parties_unique : (members : Members) (xs ys : List Prefix) → AreThirdParties members xs → AreThirdParties members ys → xs ≡ ys
third_parties_unique ms xs ys h k = TellsOr-unique ms (codes "third_party") [] _ _ prefixes_agree xs ys h.told k.told

-- the place of an address among different ones
other_place : (x : External) (xs : List External) (i : ℕ) (y : External) → AllByRecursion (λ z. x.address ≢ z.address) xs → slice_get xs i ≡ Some y
    → x.address ≢ y.address
other_place x [] i y h at = let bad : None ≡ Some y = at in absurd (cc)
other_place x (z ∷ xs) zero y h at = let same : z ≡ y = same_Some _ _ at in subst (λ (w : External). x.address ≢ w.address) same h.0
other_place x (z ∷ xs) (suc i) y h at = other_place x xs i y h.1 at

one_place : (xs : List External) (i j : ℕ) (x y : External) → EachTwo (λ x y. x.address ≢ y.address) xs → slice_get xs i ≡ Some x → slice_get xs j ≡ Some y
    → x.address ≡ y.address → i ≡ j
one_place [] i j x y h a b e = let bad : None ≡ Some x = a in absurd (cc)
one_place (z ∷ xs) zero zero x y h a b e = refl
one_place (z ∷ xs) zero (suc j) x y h a b e =
    let same : z ≡ x = same_Some _ _ a in
    absurd (other_place z xs j y h.0 b (ap (λ w. w.address) same ∙ e))
one_place (z ∷ xs) (suc i) zero x y h a b e =
    let same : z ≡ y = same_Some _ _ b in
    absurd (other_place z xs i x h.0 a (ap (λ w. w.address) same ∙ sym e))
one_place (z ∷ xs) (suc i) (suc j) x y h a b e = ap suc (one_place xs i j x y h.1 a b e)

index_unique : (externals : List External) → EachTwo (λ x y. x.address ≢ y.address) externals → (text : List ℕ) (i j : ℕ)
    → IsExternalText externals text i → IsExternalText externals text j → i ≡ j
index_unique externals different text i j (x, a, h) (y, b, k) =
    one_place externals i j x y different a b (IsAddressText-unique text x.address y.address h k)

same_subscriber : (x y : Subscriber) → x.prefix ≡ y.prefix → x.external ≡ y.external → x ≡ y
same_subscriber x y p e = λ i. record { prefix = p i; external = e i }

subscriber_unique : (externals : List External) → EachTwo (λ x y. x.address ≢ y.address) externals → (members : Members) (x y : Subscriber)
    → IsSubscriberTable externals members x → IsSubscriberTable externals members y → x ≡ y
subscriber_unique externals different ms x y h k =
    same_subscriber x y
    (TellsAt-unique ms (codes "prefix") _ _ (IsTextOf-unique IsPrefixText IsPrefixText-unique) x.prefix y.prefix h.prefix k.prefix)
    (TellsAt-unique ms (codes "external") _ _ (IsTextOf-unique (IsExternalText externals) (index_unique externals different)) x.external y.external h.external k.external)

pub subscribers_unique : (externals : List External) → EachTwo (λ x y. x.address ≢ y.address) externals → (members : Members) (xs ys : List Subscriber)
    → AreSubscribers externals members xs → AreSubscribers externals members ys → xs ≡ ys
subscribers_unique externals different ms xs ys h k =
    TellsOr-unique ms (codes "subscriber") [] _ _
    (IsListOf-unique _ _ (IsTableOf-unique (IsSubscriberTable externals) (IsSubscriberTable externals) (subscriber_unique externals different)))
    xs ys h.told k.told

-- where the greatest lifetime is refused, above the least that was read
pub max_untold : (members : Members) (low : ℕ) → TellsOr members (codes "lifetime_min") DEFAULT_LIFETIME_MIN (IsNumberIn 1 LONGEST_LIFETIME) low
    → ((n : ℕ) → ¬ (TellsOr members (codes "lifetime_max") LONGEST_LIFETIME (IsNumberIn low LONGEST_LIFETIME) n)) → (c : Config) → ¬ (IsConfigTable members c)
max_untold ms low read none c h =
    let same : c.lifetime_min ≡ low = TellsOr-unique ms (codes "lifetime_min") DEFAULT_LIFETIME_MIN _ _ (IsNumberIn-unique 1 LONGEST_LIFETIME 1 LONGEST_LIFETIME) c.lifetime_min low h.lifetime_min read in
    none c.lifetime_max (subst (λ (n : ℕ). TellsOr ms (codes "lifetime_max") LONGEST_LIFETIME (IsNumberIn n LONGEST_LIFETIME) c.lifetime_max) same h.lifetime_max)

-- where subscribers are refused, under the externals that were read
pub subscribers_untold : (members : Members) (externals : List External) → AreExternals members externals
    → ((xs : List Subscriber) → ¬ (AreSubscribers externals members xs)) → (c : Config) → ¬ (IsConfigTable members c)
subscribers_untold ms externals read none c h =
    let same : c.externals ≡ externals = externals_unique ms c.externals externals h.externals read in
    none c.subscribers (subst (λ (xs : List External). AreSubscribers xs ms c.subscribers) same h.subscribers)

same_config : (c d : Config) → c.quota ≡ d.quota → c.lifetime_min ≡ d.lifetime_min → c.lifetime_max ≡ d.lifetime_max → c.third_party ≡ d.third_party
    → c.externals ≡ d.externals → c.subscribers ≡ d.subscribers → c.listen ≡ d.listen → c.orders ≡ d.orders → c ≡ d
same_config c d q l h t e s w o =
    λ i. record { quota = q i; lifetime_min = l i; lifetime_max = h i; third_party = t i; externals = e i; subscribers = s i; listen = w i; orders = o i }

-- a table stands for one configuration at most
pub IsConfigTable-unique : (members : Members) (c d : Config) → IsConfigTable members c → IsConfigTable members d → c ≡ d
IsConfigTable-unique ms c d h k =
    let externals : c.externals ≡ d.externals = externals_unique ms c.externals d.externals h.externals k.externals in
    same_config c d
    (TellsOr-unique ms (codes "quota") DEFAULT_QUOTA _ _ (IsNumberIn-unique 1 MOST_QUOTA 1 MOST_QUOTA) c.quota d.quota h.quota k.quota)
    (TellsOr-unique ms (codes "lifetime_min") DEFAULT_LIFETIME_MIN _ _ (IsNumberIn-unique 1 LONGEST_LIFETIME 1 LONGEST_LIFETIME) c.lifetime_min d.lifetime_min h.lifetime_min k.lifetime_min)
    (TellsOr-unique ms (codes "lifetime_max") LONGEST_LIFETIME _ _ (IsNumberIn-unique c.lifetime_min LONGEST_LIFETIME d.lifetime_min LONGEST_LIFETIME) c.lifetime_max d.lifetime_max h.lifetime_max k.lifetime_max)
    (third_parties_unique ms c.third_party d.third_party h.third_party k.third_party)
    externals
    (subscribers_unique d.externals k.externals.different ms c.subscribers d.subscribers
    (subst (λ (xs : List External). AreSubscribers xs ms c.subscribers) externals h.subscribers) k.subscribers)
    (listen_unique ms c.listen d.listen h.listen k.listen)
    (orders_unique ms c.orders d.orders h.orders k.orders)
