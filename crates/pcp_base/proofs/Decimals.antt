-- Decimal numbers without a sign or a leading zero, as `parse` reads them.
use Rattle.std.proofs.Common.{◌≡◌, ◌≢◌, ℕ, ◌<◌, ◌^◌, ◌⊎◌, inl, inr, List, codes, decimal, slice_index, length, sym, ap, ◌∙◌, arith, Ok, Err}
use Rattle.std.specs.Int.{IsInRange}
use Rattle.std.specs.Str.{IsUtf8}
use Rattle.std.specs.Str.Parse.{ParsesUnsigned}
use Rattle.std.proofs.lemmas.Str.{IsUtf8-from_ascii}
use Rattle.std.proofs.lemmas.Str.Parse.{numerals_by_value, tells_digits, without_leading_plus_none, digit_at, IsNumeralModel}
use Rattle.std.specs.Str.Parse.{AllDigits, digits_value}
use Rattle.std.proofs.lemmas.Fmt.{decimal-digits_value, digits_decimal, decimal_nonempty, first_decimal, decimal_digit, parse-decimal, IsAscii-decimal}
use Rattle.std.proofs.lemmas.Bool.{cases_eq}

-- `0`, or what begins with another digit
abbrev pub IsPlain : List ℕ → Type 0
IsPlain text = (text ≡ codes "0") ⊎ IsInRange 49 57 (slice_index text 0)

own : IsNumeralModel (AllDigits 10) (digits_value 10)
own = numerals_by_value (AllDigits 10) tells_digits

pub IsPlain-decimal : (n : ℕ) → n < 2 ^ 64 → IsPlain (decimal n)
IsPlain-decimal n h =
    elim (cases_eq n 0) [
      | inl z ↦ inl (ap decimal z ∙ decimal_digit 0 (omega arith))
      | inr pos ↦
          let first = first_decimal n (omega arith) h in
          let range = digit_at (decimal n) 0 (digits_decimal own n h) (decimal_nonempty n h) in
          inr (omega arith, range.1)
    ]

no_plus : (text : List ℕ) → IsPlain text → slice_index text 0 ≢ 43
no_plus text (inl e) = rw e (omega arith)
no_plus text (inr h) = omega (arith, h)

one_zero : (text : List ℕ) → IsPlain text → slice_index text 0 ≡ 48 → length text ≡ 1
one_zero text (inl e) h = ap length e
one_zero text (inr r) h = absurd (omega (arith, r))

pub decimal_parsed : (text : List ℕ) (n : ℕ) → IsPlain text → ParsesUnsigned {E = Unit {0}} 64 10 text (Ok n) → text ≡ decimal n
decimal_parsed text n plain h =
    let same = without_leading_plus_none text (no_plus text plain) in
    let parsed = rw same at h in
    sym (decimal-digits_value own text parsed.0.0.1 parsed.0.0.0 (one_zero text plain) parsed.0.1) ∙ ap decimal (sym parsed.1)

pub decimal_refused : {E : Type 0} (text : List ℕ) (n : ℕ) (e : E) → n < 2 ^ 64 → ParsesUnsigned 64 10 text (Err e) → ¬ (text ≡ decimal n)
decimal_refused text n e fits h same = cc (parse-decimal 64 n text (Err e) fits fits same h)

pub IsUtf8-decimal : (text : List ℕ) (n : ℕ) → n < 2 ^ 64 → text ≡ decimal n → IsUtf8 text
IsUtf8-decimal text n h e = rw e (IsUtf8-from_ascii (decimal n) (IsAscii-decimal n h))
