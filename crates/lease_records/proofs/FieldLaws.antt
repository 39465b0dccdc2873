-- A field that is read is the field that was written, and what was written is read again.
use Rattle.std.proofs.Common.{◌≡◌, ℕ, suc, ◌+◌, ◌^◌, ◌<◌, ◌≤◌, Bool, true, false, cond, ltb, List, [], ◌∷◌, ◌++◌, length, get_or, take, drop, Option, Some, None, refl, sym, ap, subst, ◌∙◌, append_assoc, arith, inl, inr}
use Rattle.std.specs.Int.{Width, w16, w64, byte_len, from_be_bytes, to_be_bytes}
use Rattle.std.proofs.lemmas.Bool.{cases_lt, ltb-false, le-ltb}
use Rattle.std.proofs.lemmas.List.{take_at, drop_at, take-append-drop, length-append, length-take, get_or-drop, get_or-take, get_or_past}
use Rattle.std.proofs.lemmas.Nat.{be_bytes_2, be_bytes_8, from_be_bytes-to_be_bytes_2, from_be_bytes-to_be_bytes_8}
use Rattle.lease_records.specs.RecordReading.{◌>>=◌, take_octets, octet_at, number_at}

abbrev pub IsBytes : List ℕ → Type 0
IsBytes octets = (i : ℕ) → get_or octets i 0 < 256

pub IsBytes-drop : (n : ℕ) (octets : List ℕ) → IsBytes octets → IsBytes (drop n octets)
IsBytes-drop n octets h i = rw get_or-drop (h (n + i))

pub IsBytes-take : (n : ℕ) (octets : List ℕ) → IsBytes octets → IsBytes (take n octets)
IsBytes-take n octets h i =
    elim (cases_lt i n) [
      | inl lt ↦ rw (get_or-take n octets i 0 lt) (h i)
      | inr le ↦ rw (get_or_past (take n octets) i 0 (omega (arith, length-take n octets))) (omega arith)
    ]

-- the value of a step that gave one
pub bind_some : {A B : Type 0} (r : Option A) (f : A → Option B) (y : B) → (r >>= f) ≡ Some y → (x : A) × (r ≡ Some x) × (f x ≡ Some y)
bind_some (Some x) f y e = (x, refl, e)
bind_some None f y e = absurd cc

abbrev given : {A : Type 0} → A → Option A
given x = Some x

pub some_is : {A : Type 0} (x y : A) → given x ≡ given y → x ≡ y
some_is x y e = cc

-- a test that let a value through
pub none_or : {A : Type 0} (b : Bool) (x : Option A) (y : A) → cond b None x ≡ Some y → (b ≡ false) × (x ≡ Some y)
none_or true x y e = absurd cc
none_or false x y e = (refl, e)

-- what a reader took from the front
pub record Takes (octets text rest : List ℕ) : Type 0 where
  pub parts : octets ≡ text ++ rest
  pub rest_fits : IsBytes rest

pub Takes-then : (a x b y c : List ℕ) → Takes a x b → Takes b y c → Takes a (x ++ y) c
Takes-then a x b y c p q = record { parts = p.parts ∙ ap (λ (t : List ℕ). x ++ t) q.parts ∙ sym (append_assoc x y c); rest_fits = q.rest_fits }

-- ---- octets

pub octets_take : (n : ℕ) (octets : List ℕ) (x : List ℕ × List ℕ) → IsBytes octets → take_octets n octets ≡ Some x → Takes octets x.0 x.1 × (length x.0 ≡ n) × IsBytes x.0
octets_take n octets x fits e =
    let g = none_or (ltb (length octets) n) (Some (take n octets, drop n octets)) x e in
    let long : n ≤ length octets = ltb-false _ _ g.0 in
    subst (λ (y : List ℕ × List ℕ). Takes octets y.0 y.1 × (length y.0 ≡ n) × IsBytes y.0) (some_is (take n octets, drop n octets) x g.1)
    (record { parts = sym (take-append-drop n octets); rest_fits = IsBytes-drop n octets fits }, omega (arith, length-take n octets), IsBytes-take n octets fits)

pub octets_again : (n : ℕ) (front rest : List ℕ) → length front ≡ n → take_octets n (front ++ rest) ≡ Some (front, rest)
octets_again n front rest len =
    let long : ltb (length (front ++ rest)) n ≡ false = le-ltb _ _ (omega (arith, length-append front rest)) in
    rw (long, take_at front rest n len, drop_at front rest n len) refl

pub octet_takes : (octets : List ℕ) (x : ℕ × List ℕ) → IsBytes octets → octet_at octets ≡ Some x → Takes octets (x.0 ∷ []) x.1
octet_takes [] x fits e = absurd cc
octet_takes (o ∷ rest) x fits e = subst (λ (y : ℕ × List ℕ). Takes (o ∷ rest) (y.0 ∷ []) y.1) (some_is (o, rest) x e) (record { parts = refl; rest_fits = λ i. fits (suc i) })

-- ---- numbers

pub record IsWide (w : Width) (limit : ℕ) : Type 0 where
  pub len : (n : ℕ) → length (to_be_bytes w n) ≡ byte_len w
  pub back : (octets : List ℕ) → length octets ≡ byte_len w → IsBytes octets → to_be_bytes w (from_be_bytes w octets) ≡ octets
  pub again : (n : ℕ) → n < limit → from_be_bytes w (to_be_bytes w n) ≡ n
  pub below : (octets : List ℕ) → IsBytes octets → from_be_bytes w octets < limit

pub wide16 : IsWide w16 (2 ^ 16)
wide16 = record {
  len = λ n. refl;
  back = λ octets len fits. be_bytes_2 octets _ len fits refl;
  again = λ n lt. from_be_bytes-to_be_bytes_2 n lt;
  below = λ octets fits. omega (arith, fits 0, fits 1);
}

pub wide64 : IsWide w64 (2 ^ 64)
wide64 = record {
  len = λ n. refl;
  back = λ octets len fits. be_bytes_8 octets _ len fits refl;
  again = λ n lt. from_be_bytes-to_be_bytes_8 n lt;
  below = λ octets fits. omega (arith, fits 0, fits 1, fits 2, fits 3, fits 4, fits 5, fits 6, fits 7);
}

pub number_takes : (w : Width) (limit : ℕ) (wide : IsWide w limit) (octets : List ℕ) (x : ℕ × List ℕ) → IsBytes octets → number_at w octets ≡ Some x → Takes octets (to_be_bytes w x.0) x.1 × (x.0 < limit)
unfolding number_at
number_takes w limit wide octets x fits e =
    let b = bind_some _ _ _ e in
    let t = octets_take (byte_len w) octets b.0 fits b.1 in
    subst (λ (y : ℕ × List ℕ). Takes octets (to_be_bytes w y.0) y.1 × (y.0 < limit)) (some_is (from_be_bytes w b.0.0, b.0.1) x b.2)
    (subst (λ (front : List ℕ). Takes octets front b.0.1) (sym (wide.back b.0.0 t.1 t.2)) t.0, wide.below b.0.0 t.2)

pub number_again : (w : Width) (limit : ℕ) (wide : IsWide w limit) (n : ℕ) (rest : List ℕ) → n < limit → number_at w (to_be_bytes w n ++ rest) ≡ Some (n, rest)
unfolding number_at
number_again w limit wide n rest lt =
    rw (octets_again (byte_len w) (to_be_bytes w n) rest (wide.len n), wide.again n lt) refl
