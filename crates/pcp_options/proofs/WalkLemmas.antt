-- The walk through the options of a request.
use Rattle.std.specs.Int.{from_be_bytes, w16}
use Rattle.std.specs.List.{list_any, cons_option}
use Rattle.std.proofs.Common.{◌≡◌, ℕ, zero, suc, ◌+◌, ◌%◌, ◌≤◌, ◌==◌, ◌&&◌, ◌||◌, Bool, true, false, cond, List, [], ◌∷◌, ◌++◌, length, take, drop, min, Option, Some, None, is_some, get_or, refl, ap, ◌∙◌, arith}
use Rattle.std.proofs.lemmas.Bool.Decides.{nat_tests}
use Rattle.std.specs.Option.{option_or}
use Rattle.pcp_base.specs.declared.addresses.Address.{Address}
use Rattle.pcp_base.specs.declared.leases.Filter as Filters
use Rattle.pcp_base.specs.declared.asks.PortSet as Sets
use Rattle.pcp_codec.specs.Fields.{octet, octets_at, u16_at}
use Rattle.pcp_options.specs.declared.options.Item.{Item}
use Rattle.pcp_options.specs.declared.options.Item.TheVariants.{ThirdParty, PreferFailure, Filter, PortSet}
use Rattle.pcp_options.specs.declared.options.Seen.{Seen}
use Rattle.pcp_options.specs.Options.{FoundOption, fill, found_after, found_in, items_of}
use Rattle.pcp_options.specs.Asking.{third_of, prefers, set_of, seen_of}

-- what is passed over is dropped
pub after-drop : (n : ℕ) (text : List ℕ) → found_after n text ≡ found_after 0 (drop n text)
after-drop zero text = refl
after-drop (suc n) [] = refl
after-drop (suc n) (x ∷ text) = after-drop n text

-- the first option of octets, and those behind it
first-found : (text : List ℕ) → 4 ≤ length text → found_in text ≡ (record { code = get_or text 0 0; claimed = from_be_bytes w16 (get_or text 2 0 ∷ get_or text 3 0 ∷ []); content = take (from_be_bytes w16 (get_or text 2 0 ∷ get_or text 3 0 ∷ [])) (drop 4 text) }) ∷ found_in (drop (from_be_bytes w16 (get_or text 2 0 ∷ get_or text 3 0 ∷ []) + fill (from_be_bytes w16 (get_or text 2 0 ∷ get_or text 3 0 ∷ []))) (drop 4 text))
first-found [] h = absurd (omega (arith, h))
first-found (a ∷ []) h = absurd (omega (arith, h))
first-found (a ∷ b ∷ []) h = absurd (omega (arith, h))
first-found (a ∷ b ∷ c ∷ []) h = absurd (omega (arith, h))
first-found (a ∷ b ∷ c ∷ d ∷ rest) h =
    let n = from_be_bytes w16 (c ∷ d ∷ []) in
    ap (λ os. (record { code = a; claimed = n; content = take n rest }) ∷ os) (after-drop (n + fill n) rest)

take-min : (xs : List ℕ) (n : ℕ) → take (min n (length xs)) xs ≡ take n xs
take-min [] zero = refl
take-min [] (suc n) = let e : min (suc n) 0 ≡ 0 = omega arith in rw e refl
take-min (x ∷ xs) zero = let e : min 0 (suc (length xs)) ≡ 0 = omega arith in rw e refl
take-min (x ∷ xs) (suc n) = let e : min (suc n) (suc (length xs)) ≡ suc (min n (length xs)) = omega arith in rw e (ap (λ ys. x ∷ ys) (take-min xs n))

pub drop-min : (xs : List ℕ) (n : ℕ) → drop (min n (length xs)) xs ≡ drop n xs
drop-min [] zero = refl
drop-min [] (suc n) = let e : min (suc n) 0 ≡ 0 = omega arith in rw e refl
drop-min (x ∷ xs) zero = let e : min 0 (suc (length xs)) ≡ 0 = omega arith in rw e refl
drop-min (x ∷ xs) (suc n) = let e : min (suc n) (suc (length xs)) ≡ suc (min n (length xs)) = omega arith in rw e (drop-min xs n)

-- the first option, as slices tell it
pub split-found : (text behind content rest : List ℕ) (claimed few padded start : ℕ) → 4 ≤ length text → behind ≡ drop 4 text → claimed ≡ from_be_bytes w16 (get_or text 2 0 ∷ get_or text 3 0 ∷ []) → few ≡ min claimed (length behind) → padded ≡ claimed + fill claimed → start ≡ min padded (length behind) → content ≡ take few behind → rest ≡ drop start behind → found_in text ≡ (record { code = get_or text 0 0; claimed = claimed; content = content }) ∷ found_in rest
split-found text behind content rest claimed few padded start h b n f p s c r =
    let content-is : content ≡ take claimed behind = c ∙ ap (λ k. take k behind) f ∙ take-min behind claimed in
    let rest-is : rest ≡ drop (claimed + fill claimed) behind = r ∙ ap (λ k. drop k behind) s ∙ drop-min behind padded ∙ ap (λ k. drop k behind) p in
    rw (content-is, rest-is, b, n) (first-found text h)

-- what an option says, by its code
abbrev pub third_in : FoundOption → Address
third_in o = record { 0 = octets_at o.content 0 16 }

abbrev pub filter_in : FoundOption → Filters.Filter
filter_in o = record { prefix = octet o.content 1; port = u16_at o.content 2; remote = record { 0 = octets_at o.content 4 16 } }

abbrev pub set_in : FoundOption → Sets.PortSet
set_in o = record { size = u16_at o.content 0; first = u16_at o.content 2; parity = octet o.content 4 % 2 == 1 }

abbrev pub item_by : Bool → Bool → Bool → Bool → Address → Filters.Filter → Sets.PortSet → Option Item
item_by a b c d t f s = cond a (Some (ThirdParty t)) (cond b (Some PreferFailure) (cond c (Some (Filter f)) (cond d (Some (PortSet s)) None)))

third-step : (a b c d : Bool) (t : Address) (f : Filters.Filter) (s : Sets.PortSet) (items : List Item) → is_some (third_of (cons_option (item_by a b c d t f s) items)) ≡ (a || is_some (third_of items))
third-step true b c d t f s items = refl
third-step false true c d t f s items = refl
third-step false false true d t f s items = refl
third-step false false false true t f s items = refl
third-step false false false false t f s items = refl

pub third-stands : (before : List FoundOption) → is_some (third_of (items_of before)) ≡ list_any (λ o. o.code == 1) before
third-stands [] = refl
third-stands (o ∷ os) =
    third-step (o.code == 1) (o.code == 2) (o.code == 3) (o.code == 130) (third_in o) (filter_in o) (set_in o) (items_of os)
    ∙ ap (λ b. o.code == 1 || b) (third-stands os)

not-both : (n : ℕ) → ((n == 1) && (n == 2)) ≡ false
not-both n = grind (arith, nat_tests)

prefers-step : (a b c d : Bool) (t : Address) (f : Filters.Filter) (s : Sets.PortSet) (items : List Item) → (a && b) ≡ false → prefers (cons_option (item_by a b c d t f s) items) ≡ (b || prefers items)
prefers-step true true c d t f s items h = absurd cc
prefers-step true false c d t f s items h = refl
prefers-step false true c d t f s items h = refl
prefers-step false false true d t f s items h = refl
prefers-step false false false true t f s items h = refl
prefers-step false false false false t f s items h = refl

pub prefers-stands : (before : List FoundOption) → prefers (items_of before) ≡ list_any (λ o. o.code == 2) before
prefers-stands [] = refl
prefers-stands (o ∷ os) =
    prefers-step (o.code == 1) (o.code == 2) (o.code == 3) (o.code == 130) (third_in o) (filter_in o) (set_in o) (items_of os) (not-both o.code)
    ∙ ap (λ b. o.code == 2 || b) (prefers-stands os)

not-these : (n : ℕ) → ((n == 1 || (n == 2 || n == 3)) && (n == 130)) ≡ false
not-these n = grind (arith, nat_tests)

set-step : (a b c d : Bool) (t : Address) (f : Filters.Filter) (s : Sets.PortSet) (items : List Item) → ((a || (b || c)) && d) ≡ false → is_some (set_of (cons_option (item_by a b c d t f s) items)) ≡ (d || is_some (set_of items))
set-step true b c true t f s items h = absurd cc
set-step true b c false t f s items h = refl
set-step false true c true t f s items h = absurd cc
set-step false true c false t f s items h = refl
set-step false false true true t f s items h = absurd cc
set-step false false true false t f s items h = refl
set-step false false false true t f s items h = refl
set-step false false false false t f s items h = refl

pub set-stands : (before : List FoundOption) → is_some (set_of (items_of before)) ≡ list_any (λ o. o.code == 130) before
set-stands [] = refl
set-stands (o ∷ os) =
    set-step (o.code == 1) (o.code == 2) (o.code == 3) (o.code == 130) (third_in o) (filter_in o) (set_in o) (items_of os) (not-these o.code)
    ∙ ap (λ b. o.code == 130 || b) (set-stands os)

-- one item more
third-append : (items : List Item) (x : Item) → third_of (items ++ x ∷ []) ≡ option_or (third_of items) (third_of (x ∷ []))
third-append [] x = refl
third-append (ThirdParty a ∷ items) x = refl
third-append (PreferFailure ∷ items) x = third-append items x
third-append (Filter f ∷ items) x = third-append items x
third-append (PortSet s ∷ items) x = third-append items x

prefers-append : (items : List Item) (x : Item) → prefers (items ++ x ∷ []) ≡ (prefers items || prefers (x ∷ []))
prefers-append [] x = refl
prefers-append (ThirdParty a ∷ items) x = prefers-append items x
prefers-append (PreferFailure ∷ items) x = refl
prefers-append (Filter f ∷ items) x = prefers-append items x
prefers-append (PortSet s ∷ items) x = prefers-append items x

set-append : (items : List Item) (x : Item) → set_of (items ++ x ∷ []) ≡ option_or (set_of items) (set_of (x ∷ []))
set-append [] x = refl
set-append (ThirdParty a ∷ items) x = set-append items x
set-append (PreferFailure ∷ items) x = set-append items x
set-append (Filter f ∷ items) x = set-append items x
set-append (PortSet s ∷ items) x = refl

pub or-none : {X : Type 0} → (o : Option X) → option_or o None ≡ o
or-none None = refl
or-none (Some x) = refl

pub or-false : (b : Bool) → (b || false) ≡ b
or-false true = refl
or-false false = refl

pub or-true : (b : Bool) → (b || true) ≡ true
or-true true = refl
or-true false = refl

abbrev pub seen_with : Option Address → Bool → Option Sets.PortSet → Seen
seen_with third prefers set = record { third = third; prefers = prefers; set = set }

pub seen-more : (items : List Item) (x : Item) → seen_of (items ++ x ∷ []) ≡ seen_with (option_or (third_of items) (third_of (x ∷ []))) (prefers items || prefers (x ∷ [])) (option_or (set_of items) (set_of (x ∷ [])))
seen-more items x = rw (third-append items x, prefers-append items x, set-append items x) refl

pub with-third : (items : List Item) (self : Seen) (item : Item) (a : Address) (t : Option Address) → self ≡ seen_of items → item ≡ ThirdParty a → t ≡ option_or self.third (Some a) → seen_with t self.prefers self.set ≡ seen_of (items ++ item ∷ [])
with-third items self item a t h i e = rw (i, e, h, seen-more items (ThirdParty a), or-false (prefers items), or-none (set_of items)) refl

pub with-prefer : (items : List Item) (self : Seen) (item : Item) → self ≡ seen_of items → item ≡ PreferFailure → seen_with self.third true self.set ≡ seen_of (items ++ item ∷ [])
with-prefer items self item h i = rw (i, h, seen-more items PreferFailure, or-none (third_of items), or-true (prefers items), or-none (set_of items)) refl

pub with-set : (items : List Item) (self : Seen) (item : Item) (s : Sets.PortSet) (t : Option Sets.PortSet) → self ≡ seen_of items → item ≡ PortSet s → t ≡ option_or self.set (Some s) → seen_with self.third self.prefers t ≡ seen_of (items ++ item ∷ [])
with-set items self item s t h i e = rw (i, e, h, seen-more items (PortSet s), or-none (third_of items), or-false (prefers items)) refl

pub with-filter : (items : List Item) (self : Seen) (item : Item) (f : Filters.Filter) → self ≡ seen_of items → item ≡ Filter f → self ≡ seen_of (items ++ item ∷ [])
with-filter items self item f h i = rw (i, h, seen-more items (Filter f), or-none (third_of items), or-false (prefers items), or-none (set_of items)) refl

pub append-none : {X : Type 0} → (xs : List X) → xs ++ [] ≡ xs
append-none [] = refl
append-none (x ∷ xs) = ap (λ ys. x ∷ ys) (append-none xs)
