-- From when on a tick does something.
use Rattle.std.specs.Prelude.{is_some, nat_le, ◌||◌, option_map, position}
use Rattle.std.specs.List.{list_any, position_or_len}
use Rattle.std.proofs.lemmas.Bool.Decides.{nat_tests}
use Rattle.std.proofs.lemmas.List.Quantifiers.{position-Some}
use Rattle.std.proofs.Common.{◌≡◌, ℕ, suc, ◌<◌, ◌==◌, min, nat_lt, cond, Bool, true, false, List, [], ◌∷◌, length, Option, Some, None, refl, ap, sym, ◌∙◌, arith}
use Rattle.client_core.specs.declared.events.HeldLease.{HeldLease}
use Rattle.client_core.specs.declared.reasons.Reason.{Reason}
use Rattle.client_core.specs.declared.reasons.Reason.TheVariants.{Wait, Renewal, Error}
use Rattle.client_core.specs.Meanings.{want_at}
use Rattle.client_core.specs.Wants.{WantView, by_end, due, due_by, is_over_by, next_request}
use Rattle.client_core.specs.Clients.{ClientView, counted, due_in, first_at, first_due, is_due_at, is_over_in, least, least_due, request_due, request_for}
use Rattle.client_core.specs.Dues.{TicksFrom, is_reached, least_next, next_due, next_in}

-- ---- the least time is reached where one of them is

or-false : (a : Bool) → a ≡ (a || false)
or-false true = refl
or-false false = refl

or-twice : (a b : Bool) → (a || b) ≡ ((a || b) || b)
or-twice true b = refl
or-twice false true = refl
or-twice false false = refl

or-crossed : (a b c d : Bool) → ((a || b) || (c || d)) ≡ ((a || c) || (b || d))
or-crossed true b c d = refl
or-crossed false true true d = refl
or-crossed false true false d = refl
or-crossed false false c d = refl

both : (a b c d : Bool) → a ≡ b → c ≡ d → (a || c) ≡ (b || d)
both a b c d first second = ap (λ x. x || c) first ∙ ap (λ y. b || y) second

min-reached : (a b at : ℕ) → nat_le (min a b) at ≡ (nat_le a at || nat_le b at)
min-reached a b at = grind (arith, nat_tests)

reached-least : (a b : Option ℕ) (at : ℕ) → is_reached (least a b) at ≡ (is_reached a at || is_reached b at)
reached-least None b at = refl
reached-least (Some a) None at = or-false (nat_le a at)
reached-least (Some a) (Some b) at = min-reached a b at

-- ---- each want is asked for, or loses its lease

or-ended : (time until at : ℕ) → nat_le (min time until) at ≡ (nat_le (min time until) at || nat_le until at)
or-ended time until at =
    min-reached time until at ∙ or-twice (nat_le time at) (nat_le until at)
    ∙ ap (λ x. x || nat_le until at) (sym (min-reached time until at))

by-end-reached : (reason : Reason) (lease : Option HeldLease) (time at : ℕ)
    → nat_le (by_end lease time) at ≡ (nat_le (due_by reason lease time) at || is_over_by lease at)
by-end-reached Error None time at = or-false (nat_le time at)
by-end-reached Error (Some lease) time at = min-reached time lease.until_ms at
by-end-reached (Wait wait) None time at = or-false (nat_le time at)
by-end-reached (Wait wait) (Some lease) time at = or-ended time lease.until_ms at
by-end-reached (Renewal part) None time at = or-false (nat_le time at)
by-end-reached (Renewal part) (Some lease) time at = or-ended time lease.until_ms at

slot-reached : (x : Option WantView) (at : ℕ) → is_reached (next_in x) at ≡ (is_reached (due_in x) at || is_over_in at x)
slot-reached None at = refl
slot-reached (Some w) at = by-end-reached w.reason w.lease w.time at

all-reached : (xs : List (Option WantView)) (at : ℕ) → is_reached (least_next xs) at ≡ (is_reached (least_due xs) at || list_any (is_over_in at) xs)
all-reached [] at = refl
all-reached (x ∷ xs) at =
    reached-least (next_in x) (least_next xs) at
    ∙ both (is_reached (next_in x) at) (is_reached (due_in x) at || is_over_in at x) (is_reached (least_next xs) at) (is_reached (least_due xs) at || list_any (is_over_in at) xs) (slot-reached x at) (all-reached xs at)
    ∙ or-crossed (is_reached (due_in x) at) (is_over_in at x) (is_reached (least_due xs) at) (list_any (is_over_in at) xs)
    ∙ ap (λ a. a || (is_over_in at x || list_any (is_over_in at) xs)) (sym (reached-least (due_in x) (least_due xs) at))

-- ---- a want that is due first is there

same-number : (a b : ℕ) → a ≡ b → (a == b) ≡ true
same-number a b e = grind (arith, nat_tests)

or-true : (a b : Bool) → b ≡ true → (a || b) ≡ true
or-true true b h = refl
or-true false b h = h

first-of : (a b t : ℕ) → min a b ≡ t → (b ≡ t → ⊥) → a ≡ t
first-of a b t e n = grind (arith, n)

least-first : (a b t : ℕ) → min a b ≡ t → (b ≡ t → ⊥) → ((a == t) || false) ≡ true
least-first a b t e n = sym (or-false (a == t)) ∙ same-number a t (first-of a b t e n)

least-is : (a b t : ℕ) (later : Bool) → min a b ≡ t → (b ≡ t → later ≡ true) → ((a == t) || later) ≡ true
least-is a b t true e h = or-true (a == t) true refl
least-is a b t false e h = least-first a b t e (λ k. let bad : false ≡ true = h k in absurd cc)

least-with : (w : WantView) (o : Option ℕ) (t : ℕ) (later : Bool) → (o ≡ Some t → later ≡ true) → least (Some (due w)) o ≡ Some t → ((due w == t) || later) ≡ true
least-with w None t later h e =
    let same : due w ≡ t = cc in
    rw (same-number (due w) t same) refl
least-with w (Some b) t later h e =
    let same : min (due w) b ≡ t = cc in
    least-is (due w) b t later same (λ k. h (ap Some k))

least-there : (xs : List (Option WantView)) (t : ℕ) → least_due xs ≡ Some t → list_any (is_due_at t) xs ≡ true
least-there [] t e = absurd cc
least-there (None ∷ xs) t e = least-there xs t e
least-there (Some w ∷ xs) t e = least-with w (least_due xs) t (list_any (is_due_at t) xs) (least-there xs t) e

place-with : (p : Option WantView → Bool) (x : Option WantView) (xs : List (Option WantView)) (b : Bool) → p x ≡ b → (list_any p xs ≡ true → position_or_len p xs < length xs) → (b || list_any p xs) ≡ true → position_or_len p (x ∷ xs) < suc (length xs)
place-with p x xs true e later h = rw e (omega arith)
place-with p x xs false e later h = let less = later h in rw e (omega (arith, less))

place-there : (p : Option WantView → Bool) (xs : List (Option WantView)) → list_any p xs ≡ true → position_or_len p xs < length xs
place-there p [] h = absurd cc
place-there p (x ∷ xs) h = place-with p x xs (p x) refl (place-there p xs) h

some-place : (n l : ℕ) → n < l → is_some (cond (nat_lt n l) (Some n) None) ≡ true
some-place n l h = let less : nat_lt n l ≡ true = grind (arith, nat_tests) in rw less refl

if-some : (b : Bool) (o : Option ℕ) → is_some o ≡ true → is_some (cond b o None) ≡ b
if-some true o h = h
if-some false o h = refl

first-by : (xs : List (Option WantView)) (at : ℕ) (o : Option ℕ) → least_due xs ≡ o → is_some (first_at xs at o) ≡ is_reached o at
first-by xs at None e = refl
first-by xs at (Some t) e =
    if-some (nat_le t at) (position (is_due_at t) xs)
    (some-place (position_or_len (is_due_at t) xs) (length xs) (place-there (is_due_at t) xs (least-there xs t e)))

-- ---- and has a request

due-is-some : (t : ℕ) (x : Option WantView) → is_due_at t x ≡ true → is_some x ≡ true
due-is-some t None h = absurd cc
due-is-some t (Some w) h = refl

if-found : (b : Bool) (o : Option ℕ) (id : ℕ) → cond b o None ≡ Some id → o ≡ Some id
if-found true o id h = h
if-found false o id h = absurd cc

first-there : (xs : List (Option WantView)) (at : ℕ) (o : Option ℕ) (id : ℕ) → first_at xs at o ≡ Some id → is_some (want_at xs id) ≡ true
first-there xs at None id e = absurd cc
first-there xs at (Some t) id e =
    let place = position-Some (is_due_at t) xs id None (if-found (nat_le t at) (position (is_due_at t) xs) id e) in
    due-is-some t (want_at xs id) place.1

mapped-some : {A : Type 0} (f : WantView → A) (x : Option WantView) → is_some (option_map f x) ≡ is_some x
mapped-some f None = refl
mapped-some f (Some w) = refl

request-by : (c : ClientView) (o : Option ℕ) → ((id : ℕ) → o ≡ Some id → is_some (want_at c.wants id) ≡ true) → is_some (request_for c o) ≡ is_some o
request-by c None h = refl
request-by c (Some id) h = mapped-some (next_request c.own) (want_at c.wants id) ∙ h id refl

asks-first : (c : ClientView) (now : ℕ) → is_some (request_due c now) ≡ is_reached (least_due c.wants) (counted c now)
asks-first c now =
    request-by c (first_due c.wants (counted c now)) (λ id e. first-there c.wants (counted c now) (least_due c.wants) id e)
    ∙ first-by c.wants (counted c now) (least_due c.wants) refl

pub ticks-from : (c : ClientView) → TicksFrom (next_due c) c
ticks-from c now =
    ap (λ a. a || list_any (is_over_in (counted c now)) c.wants) (asks-first c now)
    ∙ sym (all-reached c.wants (counted c now))
