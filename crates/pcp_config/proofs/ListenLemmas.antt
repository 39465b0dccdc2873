-- A text writes one address at which a server listens at most: no text of an address has a `%`.
use Rattle.std.proofs.Common.{◌≡◌, ℕ, ◌≤◌, ◌⊎◌, ◌==◌, nat_le, not, ◌&&◌, true, false, inl, inr, List, [], ◌∷◌, ◌++◌, length, codes, All, Some, refl, sym, subst, ap, ◌∙◌, arith}
use Rattle.std.proofs.lemmas.Bool.{and_parts, leb-true}
use Rattle.std.proofs.lemmas.Bool.Decides.{nat_tests}
use Rattle.std.proofs.lemmas.List.{append_assoc, append_cancel_left}
use Rattle.std.proofs.lemmas.List.Elements.{All-head, All-tail, All-weaker}
use Rattle.std.proofs.lemmas.List.Splits.{slice_split_at}
use Rattle.std.proofs.NetLemmas.Alphabet.{IsDigitOrDot, All-ipv4_text}
use Rattle.std.specs.List.{list_all, slice_split}
use Rattle.hex.specs.Hex.{is_hex_digit}
use Rattle.hex.proofs.HexLemmas.{IsOk-decode_sized}
use Rattle.std.specs.Prelude.{None, Result, Ok, Err, IfOk}
use Rattle.std.proofs.lemmas.Option.{same_Some}
use Rattle.toml.specs.Data.{Data, Members, string, integer, float, boolean, datetime, array, table, as_str}
use Rattle.pcp_base.specs.AddressTexts.{IsAddressText}
use Rattle.pcp_base.specs.Configs.{IsListenAddress, is_link_local, is_multicast, is_unspecified}
use Rattle.pcp_base.specs.declared.addresses.Address.{Address}
use Rattle.pcp_base.specs.declared.configs.ListenAddress.{ListenAddress}
use Rattle.pcp_base.specs.declared.configs.Orders.{Orders}
use Rattle.pcp_base.specs.declared.configs.Orders.TheVariants.{Both, Folder}
use Rattle.pcp_base.proofs.AddressLemmas.{IsAddressText-unique}
use Rattle.pcp_base.proofs.ColonLemmas.{IsColonOctet, All-colon_hex, four_fit}
use Rattle.pcp_config.specs.ConfigTables.{AreListened, AreOrders, is_link_name, is_link_octet, IsHostText, IsLinked, IsListenList, IsListenText, IsOrdersText}
use Rattle.pcp_config.specs.declared.TheConstants.{LONGEST_LINK}
use Rattle.pcp_config.specs.TomlValues.{IsListOf, IsTextOf}
use Rattle.pcp_config.proofs.UniqueLemmas.{Agree, IsListOf-unique, IsTextOf-unique, TellsOr-unique}

abbrev pub HasNoPercent : List ℕ → Type 0
HasNoPercent text = All (λ c. (c == 37) ≡ false) text

digit_or_dot : (c : ℕ) → IsDigitOrDot c → (c == 37) ≡ false
digit_or_dot c h = grind (arith, nat_tests)

hex_digit : (c : ℕ) → is_hex_digit c ≡ true → (c == 37) ≡ false
hex_digit c h = grind (arith, nat_tests)

colon_octet : (c : ℕ) → IsColonOctet c → (c == 37) ≡ false
colon_octet c (inl h) = grind (arith, nat_tests)
colon_octet c (inr (inl h)) = grind (arith, nat_tests)
colon_octet c (inr (inr (inl h))) = grind (arith, nat_tests)
colon_octet c (inr (inr (inr h))) = grind (arith, nat_tests)

HasNoPercent-address : (text : List ℕ) (a : Address) → IsAddressText text a → HasNoPercent text
HasNoPercent-address text a (inl h) =
    let d = h.1 in
    let fits = four_fit d.a d.b d.c d.d d.fit.0 d.fit.1 d.fit.2 d.fit.3 in
    rw d.spelled (All-weaker IsDigitOrDot (λ c. (c == 37) ≡ false) digit_or_dot _ (All-ipv4_text (d.a ∷ d.b ∷ d.c ∷ d.d ∷ []) fits))
HasNoPercent-address text a (inr (inl h)) =
    All-weaker (λ c. is_hex_digit c ≡ true) (λ c. (c == 37) ≡ false) hex_digit text ((IsOk-decode_sized text 16).0 (rw h refl)).1
HasNoPercent-address text a (inr (inr h)) = All-weaker IsColonOctet (λ c. (c == 37) ≡ false) colon_octet text (All-colon_hex text h.0 h.1)

percent_inside : (front back : List ℕ) → ¬ (HasNoPercent (front ++ 37 ∷ back))
percent_inside [] back h = let bad : true ≡ false = All-head (λ c. (c == 37) ≡ false) 37 back h in absurd (cc)
percent_inside (c ∷ front) back h = percent_inside front back (All-tail (λ c. (c == 37) ≡ false) c (front ++ 37 ∷ back) h)

-- a text with a `%` is no address
not_address : (text front back : List ℕ) (a : Address) → text ≡ front ++ codes "%" ++ back → ¬ (IsAddressText text a)
not_address text front back a split h =
    percent_inside front back (subst HasNoPercent (split ∙ append_assoc front (codes "%") back) (HasNoPercent-address text a h))

-- the parts at the first `%`
parts_same : (text front back front' back' : List ℕ) → HasNoPercent front → HasNoPercent front' → text ≡ front ++ codes "%" ++ back
    → text ≡ front' ++ codes "%" ++ back' → (front ≡ front') × (back ≡ back')
parts_same text front back front' back' h h' e e' =
    let both : front ++ 37 ∷ back ≡ front' ++ 37 ∷ back' =
    sym (append_assoc front (codes "%") back) ∙ sym e ∙ e' ∙ append_assoc front' (codes "%") back' in
    let split : front ∷ slice_split (λ c. c == 37) back ≡ front' ∷ slice_split (λ c. c == 37) back' =
    sym (slice_split_at (λ c. c == 37) front 37 back h refl) ∙ ap (slice_split (λ c. c == 37)) both ∙ slice_split_at (λ c. c == 37) front' 37 back' h' refl in
    let fronts : front ≡ front' = cc split in
    let rest = append_cancel_left front' (37 ∷ back) (37 ∷ back') (rw fronts at both) in
    (fronts, cc rest)

pub host_untold : (text : List ℕ) (address : Address) → ((b : Address) → IsAddressText text b → b ≡ address)
    → (is_unspecified address ≡ true) ⊎ (is_multicast address ≡ true) → (a : Address) → ¬ (IsHostText text a)
host_untold text address only (inl bad) a h =
    let no : true ≡ false = sym bad ∙ ap is_unspecified (sym (only a h.0)) ∙ h.1 in absurd (cc)
host_untold text address only (inr bad) a h =
    let no : true ≡ false = sym bad ∙ ap is_multicast (sym (only a h.0)) ∙ h.2 in absurd (cc)

pub link_untold : (text link : List ℕ) (address : Address) → IsHostText text address
    → (is_link_local address ≡ false) ⊎ (is_link_name link ≡ false) → (a : Address) → ¬ (IsLinked text link a)
link_untold text link address host (inl bad) a h =
    let no : true ≡ false = sym h.1 ∙ ap is_link_local (IsAddressText-unique text a address h.0.0 host.0) ∙ bad in absurd (cc)
link_untold text link address host (inr bad) a h = let no : true ≡ false = sym h.2 ∙ bad in absurd (cc)

pub bare_untold : (text : List ℕ) → ((front back : List ℕ) → ¬ (text ≡ front ++ codes "%" ++ back)) → ((a : Address) → ¬ (IsHostText text a))
    → (x : ListenAddress) → ¬ (IsListenText text x)
bare_untold text whole none x (inl h) = none x.address h.0
bare_untold text whole none x (inr (front, split, linked)) = whole front x.link split

pub linked_untold : (text front link : List ℕ) → HasNoPercent front → text ≡ front ++ codes "%" ++ link → ((a : Address) → ¬ (IsLinked front link a))
    → (x : ListenAddress) → ¬ (IsListenText text x)
linked_untold text front link bare split none x (inl h) = not_address text front link x.address split h.0.0
linked_untold text front link bare split none x (inr (front', split', (host, local, name))) =
    let same = parts_same text front' x.link front link (HasNoPercent-address front' x.address host.0) bare split' split in
    none x.address (rw same.0 at host, local, rw same.1 at name)

same_listen : (x y : ListenAddress) → x.address ≡ y.address → x.link ≡ y.link → x ≡ y
same_listen x y a l = λ i. record { address = a i; link = l i }

IsListenText-unique : (text : List ℕ) (x y : ListenAddress) → IsListenText text x → IsListenText text y → x ≡ y
IsListenText-unique text x y (inl h) (inl k) = same_listen x y (IsAddressText-unique text x.address y.address h.0.0 k.0.0) (h.1 ∙ sym k.1)
IsListenText-unique text x y (inl h) (inr (front, split, linked)) = absurd (not_address text front y.link x.address split h.0.0)
IsListenText-unique text x y (inr (front, split, linked)) (inl k) = absurd (not_address text front x.link y.address split k.0.0)
IsListenText-unique text x y (inr (front, split, (host, local, name))) (inr (front', split', (host', local', name'))) =
    let same = parts_same text front x.link front' y.link (HasNoPercent-address front x.address host.0) (HasNoPercent-address front' y.address host'.0) split split' in
    let written : IsAddressText front' x.address = subst (λ (t : List ℕ). IsAddressText t x.address) same.0 host.0 in
    same_listen x y (IsAddressText-unique front' x.address y.address written host'.0) same.1

string_is : (d : Data) (text : List ℕ) → Some text ≡ as_str d → d ≡ string text
string_is (string s) text e = ap string (sym (same_Some _ _ e))
string_is (integer z) text e = let bad : Some text ≡ None = e in absurd (cc)
string_is (float x) text e = let bad : Some text ≡ None = e in absurd (cc)
string_is (boolean b) text e = let bad : Some text ≡ None = e in absurd (cc)
string_is (datetime t) text e = let bad : Some text ≡ None = e in absurd (cc)
string_is (array ds) text e = let bad : Some text ≡ None = e in absurd (cc)
string_is (table ms) text e = let bad : Some text ≡ None = e in absurd (cc)

-- what the text of a string writes, its value tells
pub text_told : {E : Type 0} (d : Data) (text : List ℕ) (r : Result ListenAddress E) → Some text ≡ as_str d → IfOk r (IsListenText text)
    → IfOk r (IsTextOf IsListenText d)
text_told d text (Ok x) seen h = (text, string_is d text seen, h)
text_told d text (Err e) seen h = tt

rows_agree : Agree (IsListOf (IsTextOf IsListenText)) (IsListOf (IsTextOf IsListenText))
rows_agree = IsListOf-unique _ _ (IsTextOf-unique IsListenText IsListenText-unique)

-- what the rows tell is all that the list may be
pub listed : (d : Data) (xs ys : List ListenAddress) → IsListOf (IsTextOf IsListenText) d xs → IsListenList d ys → ys ≡ xs
listed d xs ys h k = rows_agree d ys xs k.told h

lists_agree : Agree IsListenList IsListenList
lists_agree d xs ys h k = listed d ys xs k.told h

pub listen_unique : (members : Members) (xs ys : List ListenAddress) → AreListened members xs → AreListened members ys → xs ≡ ys
listen_unique ms xs ys h k = TellsOr-unique ms (codes "listen") [] IsListenList IsListenList lists_agree xs ys h k

IsOrdersText-unique : (text : List ℕ) (o p : Orders) → IsOrdersText text o → IsOrdersText text p → o ≡ p
IsOrdersText-unique text Both Both h k = refl
IsOrdersText-unique text Both Folder h k = let bad : codes "loopback" ≡ codes "folder" = sym h ∙ k in absurd (cc)
IsOrdersText-unique text Folder Both h k = let bad : codes "loopback" ≡ codes "folder" = sym k ∙ h in absurd (cc)
IsOrdersText-unique text Folder Folder h k = refl

pub orders_unique : (members : Members) (o p : Orders) → AreOrders members o → AreOrders members p → o ≡ p
orders_unique ms o p h k = TellsOr-unique ms (codes "orders") Both _ _ (IsTextOf-unique IsOrdersText IsOrdersText-unique) o p h k

short_name : (name : List ℕ) → is_link_name name ≡ true → length name ≤ 15
short_name name h =
    let front = (and_parts (not (length name == 0) && nat_le (length name) LONGEST_LINK) (list_all is_link_octet name) h).0 in
    leb-true (length name) 15 (and_parts (not (length name == 0)) (nat_le (length name) LONGEST_LINK) front).1

-- an address that an entry writes is one at which a server may listen
pub listen_told : (d : Data) (x : ListenAddress) → IsTextOf IsListenText d x → IsListenAddress x
listen_told d x (text, is, inl h) = record {
  specified = h.0.1;
  unicast = h.0.2;
  short = omega (arith, ap length h.1);
  link = inl h.1;
}
listen_told d x (text, is, inr (front, split, (host, local, name))) = record {
  specified = host.1;
  unicast = host.2;
  short = short_name x.link name;
  link = inr local;
}
