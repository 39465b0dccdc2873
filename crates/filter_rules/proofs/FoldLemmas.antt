-- Filters that are folded one by one.
use Rattle.std.specs.Bool.{IsTrue, OnTrue}
use Rattle.std.specs.List.{list_any}
use Rattle.std.proofs.Common.{◌≡◌, ℕ, ◌+◌, ◌-◌, ◌<◌, ◌≤◌, ◌==◌, ◌&&◌, ◌||◌, Bool, true, false, bytes_eq, List, [], ◌∷◌, ◌++◌, length, take, drop, get_or, refl, ap, sym, ◌∙◌, arith, rules, length-append}
use Rattle.std.proofs.lemmas.Bool.{eqb-true}
use Rattle.std.proofs.lemmas.Slice.Eq.{bytes_eq-Decides}
use Rattle.std.proofs.lemmas.List.{get_or-drop, length-drop, take_more}
use Rattle.std.proofs.lemmas.List.Sums.{fold-append}
use Rattle.std.proofs.lemmas.List.Folds.{list_any-append}
use Rattle.pcp_base.specs.declared.leases.Filter.{Filter}
use Rattle.filter_rules.specs.Filters.{same_filter, add_filter, fold_filters}

-- whether the filter is one of these
abbrev is_among : Filter → List Filter → Bool
is_among f filters = list_any (same_filter f) filters

-- what is so far: a filter is in the folded list where it is in the list that the last emptying left, or
-- among those behind it
pub record IsFolded (old new : List Filter) (i : ℕ) (base : List Filter) (from : ℕ) (list : List Filter) (count : ℕ) : Type 0 where
  pub begun : from ≤ i
  pub among : (f : Filter) → is_among f (fold_filters old (take i new)) ≡ (is_among f base || is_among f (take (i - from) (drop from new)))
  pub counted : count ≡ length (fold_filters old (take i new))
  pub few : count ≤ i + 8
  pub folded : count ≤ 8 → list ≡ fold_filters old (take i new)

both : (a b : Bool) → (a && b) ≡ true → (a ≡ true) × (b ≡ true)
both true b h = (refl, h)
both false b h = absurd cc

filter-same : (f g : Filter) → f.prefix ≡ g.prefix → f.port ≡ g.port → f.remote.0 ≡ g.remote.0 → f ≡ g
filter-same f g x y z = let same : f ≡ record { prefix = g.prefix; port = g.port; remote = record { 0 = g.remote.0 } } = rw (← x, ← y, ← z) refl in same

is_same : (f g : Filter) → same_filter f g ≡ true → f ≡ g
is_same f g h =
    let x = both (f.prefix == g.prefix && f.port == g.port) (bytes_eq f.remote.0 g.remote.0) h in
    let y = both (f.prefix == g.prefix) (f.port == g.port) x.0 in
    filter-same f g (eqb-true f.prefix g.prefix y.0) (eqb-true f.port g.port y.1) ((bytes_eq-Decides f.remote.0 g.remote.0).0 x.1)

or-false : (b : Bool) → (b || false) ≡ b
or-false true = refl
or-false false = refl

or-assoc : (a b c : Bool) → ((a || b) || c) ≡ (a || (b || c))
or-assoc true b c = refl
or-assoc false b c = refl

-- one more that is there already
one_more : (a b c : Bool) → (c ≡ true → (a || b) ≡ true) → (a || b) ≡ (a || (b || (c || false)))
one_more true b c h = refl
one_more false true c h = refl
one_more false false true h = h refl
one_more false false false h = refl

-- one more filter of the request
further : (old new : List Filter) (i : ℕ) (d : Filter) → i < length new → fold_filters old (take (i + 1) new) ≡ add_filter (fold_filters old (take i new)) (get_or new i d)
further old new i d within = ap (fold_filters old) (take_more new i d within) ∙ fold-append add_filter old (take i new) (get_or new i d ∷ [])

-- one of prefix length 0
emptied-list : (x : Filter) (list : List Filter) → x.prefix ≡ 0 → add_filter list x ≡ []
emptied-list x list h = rw h refl

pub emptied : (old new : List Filter) (i : ℕ) (d : Filter) → i < length new → (get_or new i d).prefix ≡ 0 → IsFolded old new (i + 1) [] (i + 1) [] 0
emptied old new i d within h =
    let none : fold_filters old (take (i + 1) new) ≡ [] = further old new i d within ∙ emptied-list (get_or new i d) (fold_filters old (take i new)) h in
    let all : (i + 1) - (i + 1) ≡ 0 = omega arith in
    record {
      begun = omega arith;
      among = λ f. rw (none, all) refl;
      counted = rw none refl;
      few = omega arith;
      folded = λ few. sym none;
    }

-- one that is there
there-list : (x : Filter) (list : List Filter) → ¬ (x.prefix ≡ 0) → is_among x list ≡ true → add_filter list x ≡ list
there-list x list some h = let no : (x.prefix == 0) ≡ false = search rules in rw (no, h) refl

new-list : (x : Filter) (list : List Filter) → ¬ (x.prefix ≡ 0) → is_among x list ≡ false → add_filter list x ≡ list ++ x ∷ []
new-list x list some h = let no : (x.prefix == 0) ≡ false = search rules in rw (no, h) refl

-- those behind the last emptying, one more
behind : (new : List Filter) (i from : ℕ) (d : Filter) → from ≤ i → i < length new → take (i + 1 - from) (drop from new) ≡ take (i - from) (drop from new) ++ get_or new i d ∷ []
behind new i from d begun within =
    let e : i + 1 - from ≡ (i - from) + 1 = omega (arith, begun) in
    let inside : i - from < length (drop from new) = omega (arith, length-drop from new, begun, within) in
    let place : from + (i - from) ≡ i = omega (arith, begun) in
    let item : get_or (drop from new) (i - from) d ≡ get_or new i d = get_or-drop from new (i - from) d ∙ ap (λ k. get_or new k d) place in
    ap (λ k. take k (drop from new)) e ∙ take_more (drop from new) (i - from) d inside ∙ ap (λ y. take (i - from) (drop from new) ++ y ∷ []) item

among-more : (f x : Filter) (base middle : List Filter) → (is_among x base || is_among x middle) ≡ true → (is_among f base || is_among f middle) ≡ (is_among f base || is_among f (middle ++ x ∷ []))
among-more f x base middle h =
    rw (list_any-append (same_filter f) middle (x ∷ []))
    (one_more (is_among f base) (is_among f middle) (same_filter f x) (λ same. rw (is_same f x same) h))

pub there : (old new : List Filter) (i : ℕ) (base : List Filter) (from : ℕ) (list : List Filter) (count : ℕ) → IsFolded old new i base from list count → (d : Filter) → i < length new → ¬ ((get_or new i d).prefix ≡ 0) → (is_among (get_or new i d) base || is_among (get_or new i d) (take (i - from) (drop from new))) ≡ true → IsFolded old new (i + 1) base from list count
there old new i base from list count h d within some found =
    let x = get_or new i d in
    let middle = take (i - from) (drop from new) in
    let same : fold_filters old (take (i + 1) new) ≡ fold_filters old (take i new) =
    further old new i d within ∙ there-list x (fold_filters old (take i new)) some (h.among x ∙ found) in
    let begun = h.begun in
    let few = h.few in
    record {
      begun = omega (arith, begun);
      among = λ f. rw (same, behind new i from d begun within) (h.among f ∙ among-more f x base middle found);
      counted = rw same h.counted;
      few = omega (arith, few);
      folded = λ few. rw same (h.folded few);
    }

among-new : (f x : Filter) (base middle : List Filter) → ((is_among f base || is_among f middle) || (same_filter f x || false)) ≡ (is_among f base || is_among f (middle ++ x ∷ []))
among-new f x base middle =
    rw (list_any-append (same_filter f) middle (x ∷ []))
    (or-assoc (is_among f base) (is_among f middle) (same_filter f x || false))

pub added : (old new : List Filter) (i : ℕ) (base : List Filter) (from : ℕ) (list more : List Filter) (count : ℕ) → IsFolded old new i base from list count → (d : Filter) → i < length new → ¬ ((get_or new i d).prefix ≡ 0) → (is_among (get_or new i d) base || is_among (get_or new i d) (take (i - from) (drop from new))) ≡ false → (length list < 8 → more ≡ list ++ get_or new i d ∷ []) → IsFolded old new (i + 1) base from more (count + 1)
added old new i base from list more count h d within some missing pushed =
    let x = get_or new i d in
    let middle = take (i - from) (drop from new) in
    let so_far = fold_filters old (take i new) in
    let same : fold_filters old (take (i + 1) new) ≡ so_far ++ x ∷ [] =
    further old new i d within ∙ new-list x so_far some (h.among x ∙ missing) in
    let begun = h.begun in
    let few = h.few in
    let counted = h.counted in
    record {
      begun = omega (arith, begun);
      among = λ f. rw (same, behind new i from d begun within, list_any-append (same_filter f) so_far (x ∷ []), h.among f) (among-new f x base middle);
      counted = rw (same, length-append so_far (x ∷ [])) (ap (λ n. n + 1) counted);
      few = omega (arith, few);
      folded = λ least.
          let room : count ≤ 8 = omega (arith, least) in
          let list-is = h.folded room in
          let short : length list < 8 = rw list-is (omega (arith, counted, least)) in
          pushed short ∙ ap (λ l. l ++ x ∷ []) list-is ∙ sym same;
    }

-- what a test that is true says
pub said : (b : Bool) (P : Type 0) → OnTrue b P → IsTrue b → P
said true P h t = h
said false P h t = absurd (search (rules, t))
