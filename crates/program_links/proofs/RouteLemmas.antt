-- What the system reads as a number is one by the definition.
use Rattle.std.proofs.Common.{◌≡◌, ℕ, ◌^◌, ◌<◌, List, [], ◌∷◌, Option, Some, None, Bool, true, false, nat_lt, refl, ap, arith, ◌∙◌, if◌then◌else◌}
use Rattle.std.specs.Prelude.{Result, Ok, Err}
use Rattle.std.specs.Char.{digit_value}
use Rattle.std.specs.List.{list_all}
use Rattle.std.specs.Result.{result_ok}
use Rattle.std.specs.Str.Parse.{AllDigits, IsNumeral, ParsesUnsigned, digits_value, without_leading_plus}
use Rattle.std.proofs.lemmas.Bool.{and_from, and_parts, lt-ltb, ltb-false, ltb-true}
use Rattle.program_links.specs.Routes.{is_number, lesser, number_in}
use Rattle.program_links.specs.declared.routes.Route.{Route}

all_pass : (base : ℕ) (ds : List ℕ) → AllDigits base ds → list_all (λ c. nat_lt (digit_value c) base) ds ≡ true
all_pass base [] h = refl
all_pass base (c ∷ cs) h = and_from _ _ (lt-ltb _ _ h.0) (all_pass base cs h.1)

all_are : (base : ℕ) (ds : List ℕ) → list_all (λ c. nat_lt (digit_value c) base) ds ≡ true → AllDigits base ds
all_are base [] h = tt
all_are base (c ∷ cs) h = let both = and_parts _ _ h in (ltb-true _ _ both.0, all_are base cs both.1)

is_one : (base : ℕ) (text : List ℕ) → IsNumeral base text → digits_value base text < 2 ^ 32 → is_number base text ≡ true
is_one base text is fits = and_from _ _ (and_from _ _ (lt-ltb _ _ is.0) (all_pass base text is.1)) (lt-ltb _ _ fits)

one_is : (base : ℕ) (text : List ℕ) → is_number base text ≡ true → IsNumeral base text × (digits_value base text < 2 ^ 32)
one_is base text h = let both = and_parts _ _ h in let front = and_parts _ _ both.0 in
    ((ltb-true _ _ front.0, all_are base text front.1), ltb-true _ _ both.1)

by_test : (b : Bool) (n : ℕ) → b ≡ true → Some n ≡ (if b then Some n else None)
by_test true n h = refl
by_test false n h = absurd (cc)

by_no_test : (b : Bool) (n : ℕ) → (b ≡ true → ⊥) → None ≡ (if b then Some n else None)
by_no_test true n h = absurd (h refl)
by_no_test false n h = refl

pub reads : {E : Type 0} (base : ℕ) (text : List ℕ) (r : Result ℕ E) → ParsesUnsigned 32 base text r → result_ok r ≡ number_in base text
reads base text (Ok n) h = ap Some (h.1) ∙ by_test _ _ (is_one base (without_leading_plus text) h.0.0 h.0.1)
reads base text (Err e) h = by_no_test _ _ (λ yes. h (one_is base (without_leading_plus text) yes))

-- ---- the least of several

none_stays : (b : Bool) (x y : Route) → lesser (if b then Some x else Some y) None ≡ (if b then Some x else Some y)
none_stays true x y = refl
none_stays false x y = refl

three : (a b c : Route) → lesser (if nat_lt b.metric a.metric then Some b else Some a) (Some c) ≡ lesser (Some a) (if nat_lt c.metric b.metric then Some c else Some b)
three a b c = go (nat_lt b.metric a.metric) (nat_lt c.metric b.metric) (nat_lt c.metric a.metric) refl refl refl
  where
    go : (ba cb ca : Bool) → nat_lt b.metric a.metric ≡ ba → nat_lt c.metric b.metric ≡ cb → nat_lt c.metric a.metric ≡ ca
        → lesser (if nat_lt b.metric a.metric then Some b else Some a) (Some c) ≡ lesser (Some a) (if nat_lt c.metric b.metric then Some c else Some b)
    go true true true p q r = rw (p, q, r) refl
    go true true false p q r = absurd (omega (arith, ltb-true _ _ p, ltb-true _ _ q, ltb-false _ _ r))
    go true false ca p q r = rw (q, p, q) refl
    go false true ca p q r = rw (p, q) refl
    go false false true p q r = absurd (omega (arith, ltb-false _ _ p, ltb-false _ _ q, ltb-true _ _ r))
    go false false false p q r = rw (q, p, r) refl

pub lesser_joins : (a b c : Option Route) → lesser (lesser a b) c ≡ lesser a (lesser b c)
lesser_joins None b c = refl
lesser_joins (Some a) None c = refl
lesser_joins (Some a) (Some b) None = none_stays (nat_lt b.metric a.metric) b a
lesser_joins (Some a) (Some b) (Some c) = three a b c
