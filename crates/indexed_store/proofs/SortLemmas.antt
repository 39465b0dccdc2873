-- Owners that are sorted stably, of which the last of each port is kept, are those that came into their places one by one.
use Rattle.std.proofs.Common.{◌≡◌, ℕ, suc, ◌+◌, ◌<◌, Bool, true, false, cond, not, ◌&&◌, ◌||◌, List, [], ◌∷◌, ◌++◌, Option, Some, None, length, drop, take, ◌-◌, ◌≤◌, get_or, filter, find, unwrap_or, slice_get, nat_lt, ◌==◌, true≢false, refl, sym, ap, ◌∙◌, subst, arith, append_assoc, append-nil, drop_of_length-le, Less, Equal, Greater, is_lt, nat_cmp}
use Rattle.std.specs.Prelude.{⊤}
use Rattle.std.specs.Ordering.{ordering_then}
use Rattle.std.specs.List.{AllByRecursion}
use Rattle.std.specs.List.Sorted.{IsSortedBy, IsStableBy, ties}
use Rattle.std.specs.Cmp.{IsStrictWeakOrder}
use Rattle.std.proofs.lemmas.Bool.{cond-true, cond-false}
use Rattle.std.proofs.lemmas.List.{drop_more, take_rest}
use Rattle.std.proofs.lemmas.Option.{none-some}
use Rattle.std.proofs.lemmas.Cmp.{nat_cmp_total, on_total, then_total}
use Rattle.std.proofs.lemmas.List.MinMax.{ranks_by}
use Rattle.pcp_base.specs.declared.leases.Owner.{Owner}
use Rattle.pcp_base.specs.Protocols.{protocol_number}
use Rattle.lease_store.specs.OwnerOrder.{precedes, with_owner, in_order}
use Rattle.indexed_store.specs.Leading.{leads}

-- ---- what owners are sorted by

abbrev pub key_of : Owner → ℕ × ℕ
key_of o = (protocol_number o.protocol, o.external)

abbrev pub is_below : Owner → Owner → Bool
is_below x y = is_lt (ordering_then (nat_cmp (key_of x).0 (key_of y).0) (nat_cmp (key_of x).1 (key_of y).1))

by_tests : (less same more further : Bool) →
    is_lt (ordering_then (cond less Less (cond same Equal Greater)) (cond more Less (cond further Equal Greater))) ≡ (less || (same && more))
by_tests true same more further = refl
by_tests false true true further = refl
by_tests false true false true = refl
by_tests false true false false = refl
by_tests false false more further = refl

is_below-is : (x y : Owner) → is_below x y ≡ precedes x y
is_below-is x y =
    let a = key_of x in
    let b = key_of y in
    by_tests (nat_lt a.0 b.0) (a.0 == b.0) (nat_lt a.1 b.1) (a.1 == b.1)

pub by_precedes : is_below ≡ precedes
by_precedes = λ i x y. is_below-is x y i

law : IsStrictWeakOrder precedes
law = subst IsStrictWeakOrder by_precedes (ranks_by (then_total (on_total (λ (k : ℕ × ℕ). k.0) nat_cmp_total) (on_total (λ (k : ℕ × ℕ). k.1) nat_cmp_total)) key_of)

clash : {A : Type 0} (b : Bool) → b ≡ true → b ≡ false → A
clash b h k = absurd (true≢false (sym h ∙ k))

same_false : (b : Bool) → (b ≡ true → b ≡ false) → b ≡ false
same_false true h = h refl
same_false false h = refl

never : (x : Owner) → precedes x x ≡ false
never x = same_false (precedes x x) (law.one_way x x)

further : (x y z : Owner) → precedes x y ≡ true → precedes y z ≡ true → precedes x z ≡ true
further x y z h k = go (precedes x z) refl
  where
    go : (b : Bool) → precedes x z ≡ b → precedes x z ≡ true
    go true e = e
    go false e = clash (precedes x y) h (law.chain x z y e (law.one_way y z k))

-- ---- owners of one port

tie_by : (b c : Bool) → b ≡ false → c ≡ false → (not b && not c) ≡ true
tie_by true c h k = absurd (true≢false h)
tie_by false true h k = absurd (true≢false k)
tie_by false false h k = refl

tie_parts : (b c : Bool) → (not b && not c) ≡ true → (b ≡ false) × (c ≡ false)
tie_parts true c h = absurd (true≢false (sym h))
tie_parts false true h = absurd (true≢false (sym h))
tie_parts false false h = (refl, refl)

no_tie : (b c : Bool) → b ≡ true → (not b && not c) ≡ false
no_tie true c h = refl
no_tie false c h = absurd (true≢false (sym h))

tie_itself : (x : Owner) → ties precedes x x ≡ true
tie_itself x = tie_by (precedes x x) (precedes x x) (never x) (never x)

tie_along : (x y z : Owner) → ties precedes x y ≡ true → precedes y z ≡ false → precedes z y ≡ false → ties precedes x z ≡ true
tie_along x y z h k l =
    let parts = tie_parts (precedes x y) (precedes y x) h in
    tie_by (precedes x z) (precedes z x) (law.chain x y z parts.0 k) (law.chain z y x l parts.1)

-- what ties with one stands before all that stand behind that one
apart : (x y z : Owner) → ties precedes x y ≡ true → precedes y z ≡ true → ties precedes x z ≡ false
apart x y z h k = go (precedes x z) refl
  where
    go : (b : Bool) → precedes x z ≡ b → ties precedes x z ≡ false
    go true e = no_tie (precedes x z) (precedes z x) e
    go false e = clash (precedes y z) k (law.chain y x z (tie_parts (precedes x y) (precedes y x) h).1 e)

abbrev AllBehind : Owner → List Owner → Type 0
AllBehind o os = AllByRecursion (λ x. precedes o x ≡ true) os

none_behind : (x o : Owner) (os : List Owner) → ties precedes x o ≡ true → AllBehind o os → find (ties precedes x) os ≡ None
none_behind x o [] h all = refl
none_behind x o (y ∷ ys) h all =
    cond-false (ties precedes x y) (Some y) (find (ties precedes x) ys) (apart x o y h all.0) ∙ none_behind x o ys h all.1

all_further : (o x : Owner) (os : List Owner) → precedes o x ≡ true → AllBehind x os → AllBehind o os
all_further o x [] h all = tt
all_further o x (y ∷ ys) h all = (further o x y h all.0, all_further o x ys h all.1)

-- ---- owners in order, each port once

abbrev Stand : List Owner → Type 0
Stand [] = ⊤
Stand (o ∷ os) = AllBehind o os × Stand os

behind-with : (x o : Owner) (os : List Owner) → precedes x o ≡ true → AllBehind x os → AllBehind x (with_owner o os)
behind-with x o [] h all = (h, tt)
behind-with x o (y ∷ ys) h all = go (precedes o y) (precedes y o) (behind-with x o ys h all.1)
  where
    go : (b c : Bool) → AllBehind x (with_owner o ys) → AllBehind x (cond b (o ∷ y ∷ ys) (cond c (y ∷ with_owner o ys) (y ∷ ys)))
    go true c more = (h, all)
    go false true more = (all.0, more)
    go false false more = all

stand-with : (o : Owner) (os : List Owner) → Stand os → Stand (with_owner o os)
stand-with o [] h = (tt, tt)
stand-with o (y ∷ ys) h = go (precedes o y) (precedes y o) refl refl (stand-with o ys h.1)
  where
    go : (b c : Bool) → precedes o y ≡ b → precedes y o ≡ c → Stand (with_owner o ys) → Stand (cond b (o ∷ y ∷ ys) (cond c (y ∷ with_owner o ys) (y ∷ ys)))
    go true c e f more = ((e, all_further o y ys e h.0), h)
    go false true e f more = (behind-with y o ys f h.0, more)
    go false false e f more = h

stand : (os : List Owner) → Stand (in_order os)
stand [] = tt
stand (o ∷ os) = stand-with o (in_order os) (stand os)

-- ---- which owner of a port is found

chosen : (d : Bool) (o : Owner) (f : Option Owner) → (d ≡ true → f ≡ None) → cond d (Some o) f ≡ cond d (Some (unwrap_or f o)) f
chosen true o f h = ap (λ (g : Option Owner). Some (unwrap_or g o)) (sym (h refl))
chosen false o f h = refl

behind : (d e : Bool) (o w : Owner) (f g : Option Owner) → g ≡ cond d (Some (unwrap_or f o)) f →
    cond e (Some w) g ≡ cond d (Some (unwrap_or (cond e (Some w) f) o)) (cond e (Some w) f)
behind true true o w f g h = refl
behind true false o w f g h = h
behind false true o w f g h = refl
behind false false o w f g h = h

held : (d e : Bool) (o w : Owner) (f : Option Owner) → (d ≡ true → e ≡ true) →
    cond e (Some w) f ≡ cond d (Some (unwrap_or (cond e (Some w) f) o)) (cond e (Some w) f)
held true true o w f h = refl
held true false o w f h = absurd (true≢false (sym (h refl)))
held false e o w f h = refl

find-with : (x o : Owner) (os : List Owner) → Stand os → find (ties precedes x) (with_owner o os)
    ≡ cond (ties precedes x o) (Some (unwrap_or (find (ties precedes x) os) o)) (find (ties precedes x) os)
find-with x o [] h = refl
find-with x o (y ∷ ys) h = go (precedes o y) (precedes y o) refl refl (find-with x o ys h.1)
  where
    go : (b c : Bool) → precedes o y ≡ b → precedes y o ≡ c →
        find (ties precedes x) (with_owner o ys) ≡ cond (ties precedes x o) (Some (unwrap_or (find (ties precedes x) ys) o)) (find (ties precedes x) ys) →
        find (ties precedes x) (cond b (o ∷ y ∷ ys) (cond c (y ∷ with_owner o ys) (y ∷ ys)))
        ≡ cond (ties precedes x o) (Some (unwrap_or (find (ties precedes x) (y ∷ ys)) o)) (find (ties precedes x) (y ∷ ys))
    go true c e f more = chosen (ties precedes x o) o (find (ties precedes x) (y ∷ ys)) (λ tie. none_behind x o (y ∷ ys) tie (e, all_further o y ys e h.0))
    go false true e f more = behind (ties precedes x o) (ties precedes x y) o y (find (ties precedes x) ys) (find (ties precedes x) (with_owner o ys)) more
    go false false e f more = held (ties precedes x o) (ties precedes x y) o y (find (ties precedes x) ys) (λ tie. tie_along x o y tie e f)

abbrev last_of : List Owner → Option Owner
last_of [] = None
last_of (o ∷ os) = Some (unwrap_or (last_of os) o)

last_kept : (d : Bool) (o : Owner) (f : Option Owner) (os : List Owner) → f ≡ last_of os →
    cond d (Some (unwrap_or f o)) f ≡ last_of (cond d (o ∷ os) os)
last_kept true o f os h = ap (λ (g : Option Owner). Some (unwrap_or g o)) h
last_kept false o f os h = h

find-in_order : (x : Owner) (os : List Owner) → find (ties precedes x) (in_order os) ≡ last_of (filter (ties precedes x) os)
find-in_order x [] = refl
find-in_order x (o ∷ os) =
    find-with x o (in_order os) (stand os)
    ∙ last_kept (ties precedes x o) o (find (ties precedes x) (in_order os)) (filter (ties precedes x) os) (find-in_order x os)

-- ---- owners that stand in order are told by what is found of each port

at_first : (d : Bool) (o : Owner) (f : Option Owner) → d ≡ true → cond d (Some o) f ≡ Some o
at_first d o f h = cond-true d (Some o) f h

abbrev FindAlike : List Owner → List Owner → Type 0
FindAlike os ps = (x : Owner) → find (ties precedes x) os ≡ find (ties precedes x) ps

not_found : (o : Owner) (os ps : List Owner) → AllBehind o ps → FindAlike (o ∷ os) ps → ⊥
not_found o os ps all f = none-some o (sym (none_behind o o ps (tie_itself o) all) ∙ sym (f o) ∙ at_first (ties precedes o o) o (find (ties precedes o) os) (tie_itself o))

firsts : (o p : Owner) (os ps : List Owner) → ties precedes o p ≡ true → FindAlike (o ∷ os) (p ∷ ps) → o ≡ p
firsts o p os ps tie f =
    ap (λ (g : Option Owner). unwrap_or g o)
    (sym (at_first (ties precedes o o) o (find (ties precedes o) os) (tie_itself o)) ∙ f o ∙ at_first (ties precedes o p) p (find (ties precedes o) ps) tie)

rests : (o : Owner) (os ps : List Owner) → AllBehind o os → AllBehind o ps → FindAlike (o ∷ os) (o ∷ ps) → FindAlike os ps
rests o os ps h k f x = go (ties precedes x o) refl
  where
    go : (d : Bool) → ties precedes x o ≡ d → find (ties precedes x) os ≡ find (ties precedes x) ps
    go true e = none_behind x o os e h ∙ sym (none_behind x o ps e k)
    go false e =
        sym (cond-false (ties precedes x o) (Some o) (find (ties precedes x) os) e)
        ∙ f x ∙ cond-false (ties precedes x o) (Some o) (find (ties precedes x) ps) e

one_list : (o p : Owner) (os ps : List Owner) → o ≡ p → os ≡ ps → o ∷ os ≡ p ∷ ps
one_list o p os ps e f = ap (λ (x : Owner). x ∷ os) e ∙ ap (λ (xs : List Owner). p ∷ xs) f

found_alike : (os ps : List Owner) → Stand os → Stand ps → FindAlike os ps → os ≡ ps
found_alike [] [] h k f = refl
found_alike [] (p ∷ ps) h k f = absurd (not_found p ps [] tt (λ x. sym (f x)))
found_alike (o ∷ os) [] h k f = absurd (not_found o os [] tt f)
found_alike (o ∷ os) (p ∷ ps) h k f = go (precedes o p) (precedes p o) refl refl (found_alike os ps h.1 k.1)
  where
    go : (b c : Bool) → precedes o p ≡ b → precedes p o ≡ c → (FindAlike os ps → os ≡ ps) → o ∷ os ≡ p ∷ ps
    go true c e g more = absurd (not_found o os (p ∷ ps) (e, all_further o p ps e k.0) f)
    go false true e g more = absurd (not_found p ps (o ∷ os) (g, all_further p o os g h.0) (λ x. sym (f x)))
    go false false e g more =
        let same : o ≡ p = firsts o p os ps (tie_by (precedes o p) (precedes p o) e g) f in
        let others : AllBehind o ps = subst (λ (x : Owner). AllBehind x ps) (sym same) k.0 in
        let found : FindAlike (o ∷ os) (o ∷ ps) = subst (λ (x : Owner). FindAlike (o ∷ os) (x ∷ ps)) (sym same) f in
        one_list o p os ps same (more (rests o os ps h.0 others found))

-- a list that keeps the order of owners of one port makes the same
pub stable_same : (os ps : List Owner) → IsStableBy precedes os ps → in_order ps ≡ in_order os
stable_same os ps stable =
    found_alike (in_order ps) (in_order os) (stand ps) (stand os)
    (λ x. find-in_order x ps ∙ ap last_of (stable x) ∙ sym (find-in_order x os))

-- ---- owners that ascend, of which the last of each port is kept

abbrev pub IsNoLater : Owner → List Owner → Type 0
IsNoLater o [] = ⊤
IsNoLater o (x ∷ xs) = precedes x o ≡ false

abbrev pub Ascend : List Owner → Type 0
Ascend [] = ⊤
Ascend (o ∷ os) = IsNoLater o os × Ascend os

ascend : (os : List Owner) → IsSortedBy precedes os → Ascend os
ascend [] h = tt
ascend (x ∷ []) h = (tt, tt)
ascend (x ∷ y ∷ ys) h =
    let one : 0 + 1 < length (x ∷ y ∷ ys) = omega arith in (
      h 0 x (omega arith) one,
      ascend (y ∷ ys) (λ k d low high.
          let next : suc k + 1 ≡ suc (k + 1) = omega arith in
          let inside : suc k + 1 < length (x ∷ y ∷ ys) = omega (arith, high) in
          subst (λ (n : ℕ). precedes (get_or (x ∷ y ∷ ys) n d) (get_or (y ∷ ys) k d) ≡ false) next (h (suc k) d (omega arith) inside)),
    )

-- the list begins with an owner of this one's port
record Begins (o : Owner) (os : List Owner) : Type 0 where
  first : Owner
  rest : List Owner
  is : os ≡ first ∷ rest
  not_before : precedes first o ≡ false
  not_behind : precedes o first ≡ false

begins-on : (x y : Owner) (os : List Owner) → precedes y x ≡ false → Begins y os → Begins x (with_owner x os)
begins-on x y os h b = subst (λ (ws : List Owner). Begins x (with_owner x ws)) (sym b.is) (go (precedes x b.first) refl (law.chain b.first y x b.not_before h))
  where
    go : (d : Bool) → precedes x b.first ≡ d → precedes b.first x ≡ false →
        Begins x (cond d (x ∷ b.first ∷ b.rest) (cond (precedes b.first x) (b.first ∷ with_owner x b.rest) (b.first ∷ b.rest)))
    go true f g = record { first = x; rest = b.first ∷ b.rest; is = refl; not_before = never x; not_behind = never x }
    go false f g = record {
      first = b.first;
      rest = b.rest;
      is = cond-false (precedes b.first x) (b.first ∷ with_owner x b.rest) (b.first ∷ b.rest) g;
      not_before = g;
      not_behind = f;
    }

begins : (o : Owner) (os : List Owner) → Ascend (o ∷ os) → Begins o (in_order (o ∷ os))
begins o [] h = record { first = o; rest = []; is = refl; not_before = never o; not_behind = never o }
begins o (x ∷ xs) h = begins-on o x (in_order (x ∷ xs)) h.0 (begins x xs h.1)

alike : (o x y : Owner) → precedes x y ≡ false → precedes y x ≡ false → precedes o x ≡ precedes o y
alike o x y h k = go (precedes o x) (precedes o y) refl refl
  where
    go : (b c : Bool) → precedes o x ≡ b → precedes o y ≡ c → precedes o x ≡ precedes o y
    go true true e f = e ∙ sym f
    go false false e f = e ∙ sym f
    go true false e f = clash (precedes o x) e (law.chain o y x f k)
    go false true e f = clash (precedes o y) f (law.chain o x y e h)

front-on : (o x : Owner) (os : List Owner) → precedes x o ≡ false → Begins x os → with_owner o os ≡ cond (precedes o x) (o ∷ os) os
front-on o x os h b = subst (λ (ws : List Owner). with_owner o ws ≡ cond (precedes o x) (o ∷ ws) ws) (sym b.is)
    (ap (λ (d : Bool). cond (precedes o b.first) (o ∷ b.first ∷ b.rest) (cond d (b.first ∷ with_owner o b.rest) (b.first ∷ b.rest))) (law.chain b.first x o b.not_before h)
    ∙ ap (λ (d : Bool). cond d (o ∷ b.first ∷ b.rest) (b.first ∷ b.rest)) (alike o b.first x b.not_before b.not_behind))

in_front : (o : Owner) (os : List Owner) → Ascend (o ∷ os) → in_order (o ∷ os) ≡ cond (leads o os) (o ∷ in_order os) (in_order os)
in_front o [] h = refl
in_front o (x ∷ xs) h = front-on o x (in_order (x ∷ xs)) h.0 (begins x xs h.1)

pub leads-none : (o : Owner) (os : List Owner) → None ≡ slice_get os 0 → true ≡ leads o os
leads-none o [] h = refl
leads-none o (x ∷ xs) h = absurd (none-some x h)

pub leads-some : (o x : Owner) (os : List Owner) → Some x ≡ slice_get os 0 → precedes o x ≡ leads o os
leads-some o x [] h = absurd (none-some x (sym h))
leads-some o x (y ∷ ys) h = ap (λ (g : Option Owner). precedes o (unwrap_or g x)) h

-- ---- a loop over owners that ascend: what is kept, and what the rest makes

abbrev pub IsKept : List Owner → List Owner → ℕ → Type 0
IsKept kept os i = (kept ++ in_order (drop i os) ≡ in_order os) × Ascend (drop i os)

abbrev pub with_next : Bool → List Owner → Owner → List Owner
with_next b kept o = cond b (kept ++ o ∷ []) kept

kept-next : (b : Bool) (kept : List Owner) (o : Owner) (os : List Owner) → with_next b kept o ++ os ≡ kept ++ cond b (o ∷ os) os
kept-next true kept o os = append_assoc kept (o ∷ []) os
kept-next false kept o os = refl

one-turn : (kept next all : List Owner) (o : Owner) (os : List Owner) → Ascend (o ∷ os) → next ≡ with_next (leads o os) kept o →
    kept ++ in_order (o ∷ os) ≡ all → next ++ in_order os ≡ all
one-turn kept next all o os h is so_far =
    ap (λ (ws : List Owner). ws ++ in_order os) is
    ∙ kept-next (leads o os) kept o (in_order os)
    ∙ ap (λ (ws : List Owner). kept ++ ws) (sym (in_front o os h))
    ∙ so_far

pub kept-turn : (kept next os : List Owner) (i : ℕ) (d : Owner) → i < length os → IsKept kept os i →
    next ≡ with_next (leads (get_or os i d) (take (length os - (i + 1)) (drop (i + 1) os))) kept (get_or os i d) → IsKept next os (i + 1)
kept-turn kept next os i d inside h is =
    let o = get_or os i d in
    let rest : drop i os ≡ o ∷ drop (i + 1) os = drop_more os i d inside in
    let both = subst (λ (ws : List Owner). (kept ++ in_order ws ≡ in_order os) × Ascend ws) rest h in
    (one-turn kept next (in_order os) o (drop (i + 1) os) both.1 (is ∙ ap (λ (ws : List Owner). with_next (leads o ws) kept o) (take_rest os (i + 1))) both.0, both.1.1)

pub kept-begins : (kept os : List Owner) → kept ≡ [] → IsSortedBy precedes os → IsKept kept os 0
kept-begins kept os h sorted = (ap (λ (ws : List Owner). ws ++ in_order os) h, ascend os sorted)

pub kept-ends : (kept os : List Owner) (i : ℕ) → length os ≤ i → IsKept kept os i → kept ≡ in_order os
kept-ends kept os i over h =
    sym (append-nil kept)
    ∙ ap (λ (ws : List Owner). kept ++ in_order ws) (sym (drop_of_length-le os over))
    ∙ h.0
