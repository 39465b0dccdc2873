-- What writes a field holds no space, and what a text that is refused can't write.
use Rattle.std.proofs.Common.{◌≡◌, ◌≢◌, ℕ, suc, ◌<◌, ◌≤◌, ◌^◌, ◌⊎◌, inl, inr, List, [], ◌∷◌, ◌++◌, length, codes, decimal, true, Option, Some, None, IfNone, sym, ap, ◌∙◌, arith, Ok}
use Rattle.std.specs.List.{All, AllByRecursion}
use Rattle.std.specs.Net.Grammar.{IsDotted}
use Rattle.std.specs.Str.Parse.{AllDigits, digits_value}
use Rattle.std.proofs.lemmas.Fmt.{digits_decimal, decimal_injective}
use Rattle.std.proofs.lemmas.Str.Parse.{IsNumeralModel, numerals_by_value, tells_digits}
use Rattle.hex.proofs.HexLemmas.{decode_of-ok, decode_sized-ok, decode_sized-twice}
use Rattle.hex.specs.Hex.{IsBytes, decode_of, decode_sized, is_hex_digit}
use Rattle.pcp_base.specs.AddressTexts.{IsAddressText}
use Rattle.pcp_base.specs.Protocols.{protocol_number, protocol_of}
use Rattle.pcp_base.specs.declared.addresses.Address.{Address}
use Rattle.pcp_base.specs.declared.configs.External.{External}
use Rattle.pcp_base.specs.declared.leases.Protocol.{Protocol}
use Rattle.pcp_base.specs.declared.leases.Protocol.TheVariants.{Tcp, Udp}
use Rattle.pcp_base.proofs.ColonLemmas.{IsColonOctet, All-colon_hex}
use Rattle.pcp_base.proofs.Members.{All-append}
use Rattle.pcp_script.specs.Fields.{IsMomentField, IsPortField, IsProtocolField, IsHexField, IsExternalField}
use Rattle.pcp_script.specs.Words.{IsWord}

digits-word : (text : List ℕ) → AllDigits 10 text → IsWord text
digits-word [] h = tt
digits-word (c ∷ cs) h = (λ e. let low = rw e at h.0 in omega arith, digits-word cs h.1)

own : IsNumeralModel (AllDigits 10) (digits_value 10)
own = numerals_by_value (AllDigits 10) tells_digits

decimal-word : (n : ℕ) → n < 2 ^ 64 → IsWord (decimal n)
decimal-word n h = digits-word (decimal n) (digits_decimal own n h)

word-append : (xs ys : List ℕ) → IsWord xs → IsWord ys → IsWord (xs ++ ys)
word-append xs ys h k = All-append (λ c. ¬ (c ≡ 32)) xs ys h k

dot-word : IsWord (codes ".")
dot-word = (λ e. omega (arith, e), tt)

dotted-word : (text octets : List ℕ) → IsDotted text octets → IsWord text
dotted-word text octets h =
    let number : (n : ℕ) → n < 256 → IsWord (decimal n) = λ n fits. decimal-word n (omega arith) in
    let more : (front : List ℕ) (n : ℕ) → n < 256 → IsWord front → IsWord (front ++ codes "." ++ decimal n) = λ front n fits k. word-append (front ++ codes ".") (decimal n) (word-append front (codes ".") k dot-word) (number n fits) in
    rw h.spelled (more _ h.d h.fit.3 (more _ h.c h.fit.2 (more _ h.b h.fit.1 (number h.a h.fit.0))))

All-recursive : {X : Type 0} (P Q : X → Type 0) (xs : List X) → ((x : X) → P x → Q x) → All P xs → AllByRecursion Q xs
All-recursive P Q [] f h = tt
All-recursive P Q (x ∷ xs) f h = (f x (h 0 x (omega arith)), All-recursive P Q xs f (λ k d low. h (suc k) d (omega arith)))

digit-no_space : (c : ℕ) → is_hex_digit c ≡ true → c ≢ 32
digit-no_space c h e = let test = rw e at h in cc

digits-of_hex-word : (text octets : List ℕ) → decode_of text ≡ Ok octets → IsWord text
digits-of_hex-word text octets h = All-recursive (λ c. is_hex_digit c ≡ true) (λ c. ¬ (c ≡ 32)) text digit-no_space (decode_of-ok text octets h).1

long-word : (text octets : List ℕ) → decode_sized text 16 ≡ Ok octets → IsWord text
long-word text octets h = digits-of_hex-word text octets (sym (decode_sized-twice text 16 (decode_sized-ok text 16 octets h)) ∙ h)

colon-no_space : (c : ℕ) → IsColonOctet c → c ≢ 32
colon-no_space c (inl h) e = omega (arith, h, e)
colon-no_space c (inr (inl h)) e = omega (arith, h, e)
colon-no_space c (inr (inr (inl h))) e = omega (arith, h, e)
colon-no_space c (inr (inr (inr h))) e = omega (arith, h, e)

pub address-word : (text : List ℕ) (a : Address) → IsAddressText text a → IsWord text
address-word text a (inl h) = dotted-word text h.0 h.1
address-word text a (inr (inl h)) = long-word text a.0 h
address-word text a (inr (inr h)) = All-recursive IsColonOctet (λ c. ¬ (c ≡ 32)) text colon-no_space (All-colon_hex text h.0 h.1)

pub moment-word : (text : List ℕ) (moment : ℕ) → IsMomentField text moment → IsWord text
moment-word text moment h = rw h.0 (decimal-word moment (omega (arith, h.1)))

pub port-word : (text : List ℕ) (port : ℕ) → IsPortField text port → IsWord text
port-word text port h = rw h.0 (decimal-word port (omega (arith, h.1)))

pub protocol-word : (text : List ℕ) (p : Protocol) → IsProtocolField text p → IsWord text
protocol-word text Tcp h = rw h (decimal-word 6 (omega arith))
protocol-word text Udp h = rw h (decimal-word 17 (omega arith))

pub external-word : (externals : List External) (text : List ℕ) (shard : ℕ) → IsExternalField externals text shard → IsWord text
external-word externals text shard h = address-word text h.external.address h.address

pub hex-word : (text octets : List ℕ) → IsHexField text octets → IsWord text
hex-word text octets (inl h) = rw h.0 (λ e. omega (arith, e), tt)
hex-word text octets (inr h) = digits-of_hex-word text octets h.2

-- a field of no digits, or of too many, is none
pub IsHexField-refused : (text octets : List ℕ) → (length text ≡ 0) ⊎ (4096 < length text) → ¬ (IsHexField text octets)
IsHexField-refused text octets (inl e) (inl h) = omega (arith, ap length h.0)
IsHexField-refused text octets (inr e) (inl h) = omega (arith, ap length h.0)
IsHexField-refused text octets (inl e) (inr h) = omega (arith, (decode_of-ok text octets h.2).2)
IsHexField-refused text octets (inr e) (inr h) = omega (arith, (decode_of-ok text octets h.2).2)

pub IsHexField-read : (text octets : List ℕ) → decode_of text ≡ Ok octets → length text ≢ 0 → length text ≤ 4096 → IsHexField text octets
IsHexField-read text octets h some few = inr (omega (arith, (decode_of-ok text octets h).2), omega (arith, (decode_of-ok text octets h).2), h)

bytes-recursive : (xs : List ℕ) → IsBytes xs → AllByRecursion (λ x. x < 256) xs
bytes-recursive [] h = tt
bytes-recursive (x ∷ xs) h = (h 0, bytes-recursive xs (λ k. h (suc k)))

pub decoded-octets : (text octets : List ℕ) → decode_of text ≡ Ok octets → AllByRecursion (λ x. x < 256) octets
decoded-octets text octets h = bytes-recursive octets (decode_of-ok text octets h).3

-- a number of no protocol
no-protocol : (n : ℕ) (p : Protocol) → None ≡ protocol_of n → n ≡ protocol_number p → ⊥
no-protocol n Tcp e same = let bad : None ≡ Some Tcp = e ∙ ap protocol_of same in absurd (cc)
no-protocol n Udp e same = let bad : None ≡ Some Udp = e ∙ ap protocol_of same in absurd (cc)

small : (p : Protocol) → protocol_number p ≤ 255
small Tcp = omega arith
small Udp = omega arith

pub protocol-missed : (text : List ℕ) (n : ℕ) (r : Option Protocol) → r ≡ protocol_of n → text ≡ decimal n → n ≤ 255
    → IfNone r ((p : Protocol) → ¬ (IsProtocolField text p))
protocol-missed text n (Some p) e t few = tt
protocol-missed text n None e t few = λ p h. no-protocol n p e (decimal_injective n (protocol_number p) (omega arith) (omega (arith, small p)) (sym t ∙ h))

pub port-unique : (text : List ℕ) (m n : ℕ) → IsPortField text m → IsPortField text n → m ≡ n
port-unique text m n h k = decimal_injective m n (omega (arith, h.1)) (omega (arith, k.1)) (sym h.0 ∙ k.0)
