-- How many internal ports come before the next one in use.
use Rattle.std.proofs.Common.{◌≡◌, ℕ, ◌<◌, ◌≤◌, ◌+◌, ◌-◌, ◌||◌, Bool, true, false, cond, nat_le, nat_lt, min, find, Option, Some, None, IfSome, IfNone, refl, sym, ap, ◌∙◌, arith}
use Rattle.std.specs.List.{list_any, range_with_len}
use Rattle.std.proofs.Math.Nat.{min-eq_left, min-eq_right}
use Rattle.std.proofs.lemmas.Bool.{or_from, or_left, or_right, leb-true, leb-false, ltb-true, ltb-false, false_from_ne_true}
use Rattle.pcp_base.proofs.Members.{find-some, range-IsIn}
use Rattle.ordered_index.specs.Lesser.{lesser}
use Rattle.pcp_base.specs.declared.leases.Endpoint.{Endpoint}
use Rattle.pcp_base.specs.Tables.{Table, covers, live, names}
use Rattle.mapping_table.specs.MapLists.{is_covered, IsNextCovered}
use Rattle.peer_table.specs.PeerLists.{is_named, IsNextNamed}
use Rattle.lease_store.specs.Lookups.{is_taken_inside, next_inside, up_to_next, with_port}
use Rattle.indexed_store.proofs.Uniques.{first-in_range}

-- the least number above one and below another that passes, None exactly where there is none
pub record IsNextOf (test : ℕ → Bool) (after end : ℕ) (r : Option ℕ) : Type 0 where
  pub above : IfSome r (λ n. after < n)
  pub below : IfSome r (λ n. n < end)
  pub passes : IfSome r (λ n. test n ≡ true)
  pub between : IfSome r (λ n. (other : ℕ) → after < other → other < n → test other ≡ false)
  pub none : IfNone r ((other : ℕ) → after < other → other < end → test other ≡ false)

module _ (p q : ℕ → Bool) (after end : ℕ) where
  abbrev either : ℕ → Bool
  either n = p n || q n

  -- the lesser of both is the next one that passes either
  pub lesser-next : (a b : Option ℕ) → IsNextOf p after end a → IsNextOf q after end b → IsNextOf either after end (lesser a b)
  lesser-next None None h k = record {
    above = tt;
    below = tt;
    passes = tt;
    between = tt;
    none = λ o up less. or_from _ _ (h.none o up less) (k.none o up less);
  }
  lesser-next (Some x) None h k = record {
    above = h.above;
    below = h.below;
    passes = or_left _ _ h.passes;
    between = λ o up less. or_from _ _ (h.between o up less) (k.none o up (let under = h.below in omega (arith, less, under)));
    none = tt;
  }
  lesser-next None (Some y) h k = record {
    above = k.above;
    below = k.below;
    passes = or_right _ _ k.passes;
    between = λ o up less. or_from _ _ (h.none o up (let under = k.below in omega (arith, less, under))) (k.between o up less);
    none = tt;
  }
  lesser-next (Some x) (Some y) h k = step (nat_le x y) refl
    where
      step : (c : Bool) → nat_le x y ≡ c → IsNextOf either after end (cond c (Some x) (Some y))
      step true is = record {
        above = h.above;
        below = h.below;
        passes = or_left _ _ h.passes;
        between = λ o up less. or_from _ _ (h.between o up less) (k.between o up (let le = leb-true x y is in omega (arith, less, le)));
        none = tt;
      }
      step false is = record {
        above = k.above;
        below = k.below;
        passes = or_right _ _ k.passes;
        between = λ o up less. or_from _ _ (h.between o up (let le = leb-false x y is in omega (arith, less, le))) (k.between o up less);
        none = tt;
      }

-- how far it is to the next, or to the end
abbrev pub up_to : ℕ → ℕ → Option ℕ → ℕ
up_to after most None = most
up_to after most (Some n) = n - after

module _ (test : ℕ → Bool) (after most : ℕ) (within : after + most ≤ 65536) (some : 1 ≤ most) where
  abbrev all : Option ℕ
  all = find test (range_with_len (after + 1) (65535 - after))

  -- where it is asked as far as there is room, the next of all ports is told
  pub up_to-next : (r : Option ℕ) → IsNextOf test after (after + most) r → up_to after most r ≡ up_to_next all after most
  up_to-next (Some n) h =
      let up = h.above in let under = h.below in
      sym (min-eq_right {n = n - after} {m = most} (omega (arith, up, under)))
      ∙ ap (λ o. up_to_next o after most)
      (first-in_range test (after + 1) (65535 - after) n (omega (arith, up)) (omega (arith, up, under, within)) h.passes (λ o lo hi. h.between o (omega (arith, lo)) hi))
  up_to-next None all_fail = step all refl
    where
      h : (other : ℕ) → after < other → other < after + most → test other ≡ false
      h = all_fail.none

      far : (n : ℕ) → after + 1 ≤ n → test n ≡ true → most ≤ n - after
      far n lo passes = part (nat_lt n (after + most)) refl
        where
          part : (b : Bool) → nat_lt n (after + most) ≡ b → most ≤ n - after
          part true is = absurd (let fails : test n ≡ false = h n (omega (arith, lo)) (ltb-true n (after + most) is) in let never : true ≡ false = sym passes ∙ fails in cc)
          part false is = let more = ltb-false n (after + most) is in omega (arith, lo, more)

      step : (o : Option ℕ) → all ≡ o → most ≡ up_to_next o after most
      step None is = refl
      step (Some n) is =
          let f = find-some test (range_with_len (after + 1) (65535 - after)) n is in
          let from = range-IsIn (after + 1) (65535 - after) n f.0 in
          let lo = from.0 in
          sym (min-eq_left {n = most} {m = n - after} (far n lo f.1))

-- what is next inside is told by the live leases
pub next-live : (t u : Table) (m : ℕ) (e : Endpoint) → live t m ≡ live u m → next_inside t m e ≡ next_inside u m e
unfolding next_inside
next-live t u m e same =
    ap (λ (x : Table). find (λ port. list_any (λ l. covers l (with_port e port)) x.maps || list_any (λ l. names l (with_port e port)) x.peers)
    (range_with_len (e.port + 1) (65535 - e.port))) same

-- ---- the next port that a lease of either kind covers or names

module _ (t : Table) (m : ℕ) (e : Endpoint) (end : ℕ) where
  next-covered : (r : Option ℕ) → IsNextCovered e end (live t m).maps r → IsNextOf (is_covered e (live t m).maps) e.port end r
  next-covered None h = record { above = tt; below = tt; passes = tt; between = tt; none = h.none }
  next-covered (Some n) h = record {
    above = h.above;
    below = h.below;
    passes = h.covered;
    between = λ o up less. let under = h.below in false_from_ne_true (is_covered e (live t m).maps o) (λ k. let low = h.least o up (omega (arith, less, under)) k in absurd (omega (arith, low, less)));
    none = tt;
  }

  next-named : (r : Option ℕ) → IsNextNamed e end (live t m).peers r → IsNextOf (is_named e (live t m).peers) e.port end r
  next-named None h = record { above = tt; below = tt; passes = tt; between = tt; none = h.none }
  next-named (Some n) h = record {
    above = h.above;
    below = h.below;
    passes = h.named;
    between = λ o up less. false_from_ne_true (is_named e (live t m).peers o) (λ k. let low = h.least o up k in absurd (omega (arith, low, less)));
    none = tt;
  }

  pub next-taken : (a b : Option ℕ) → IsNextCovered e end (live t m).maps a → IsNextNamed e end (live t m).peers b
      → IsNextOf (is_taken_inside t m e) e.port end (lesser a b)
  next-taken a b h k = lesser-next (is_covered e (live t m).maps) (is_named e (live t m).peers) e.port end a b (next-covered a h) (next-named b k)

-- so far it is to the lesser of what both tables tell
pub room-known : (t : Table) (m : ℕ) (e : Endpoint) (most : ℕ) (within : e.port + most ≤ 65536) (some : 1 ≤ most) (a b : Option ℕ)
    → IsNextCovered e (e.port + most) (live t m).maps a → IsNextNamed e (e.port + most) (live t m).peers b
    → up_to e.port most (lesser a b) ≡ up_to_next (next_inside t m e) e.port most
unfolding next_inside
room-known t m e most within some a b h k = up_to-next (is_taken_inside t m e) e.port most within some (lesser a b) (next-taken t m e (e.port + most) a b h k)

-- a port is at least one way before the next
pub room-one : (t : Table) (m : ℕ) (e : Endpoint) → e.port + 1 ≤ 65536 → 1 ≡ up_to_next (next_inside t m e) e.port 1
unfolding next_inside
room-one t m e within = up_to-next (is_taken_inside t m e) e.port 1 within (omega arith) None (record {
  above = tt;
  below = tt;
  passes = tt;
  between = tt;
  none = λ o up less. absurd (omega (arith, up, less));
})

-- where all ports above one are asked, the next one is told
module _ (test : ℕ → Bool) (after : ℕ) (within : after < 65536) where
  abbrev found : Option ℕ
  found = find test (range_with_len (after + 1) (65535 - after))

  pub next-found : (r : Option ℕ) → IsNextOf test after 65536 r → r ≡ found
  next-found (Some n) h =
      let up = h.above in let under = h.below in
      first-in_range test (after + 1) (65535 - after) n (omega (arith, up)) (omega (arith, up, under, within)) h.passes (λ o lo hi. h.between o (omega (arith, lo)) hi)
  next-found None all_fail = step found refl
    where
      fails : (other : ℕ) → after < other → other < 65536 → test other ≡ false
      fails = all_fail.none

      step : (o : Option ℕ) → found ≡ o → None ≡ o
      step None is = refl
      step (Some n) is =
          let f = find-some test (range_with_len (after + 1) (65535 - after)) n is in
          let from = range-IsIn (after + 1) (65535 - after) n f.0 in
          let lo = from.0 in let hi = from.1 in
          let never : test n ≡ false = fails n (omega (arith, lo)) (omega (arith, hi, within)) in
          absurd (let both : true ≡ false = sym f.1 ∙ never in cc)

-- the lesser of what both tables tell is the next of all
pub next-known : (t : Table) (m : ℕ) (e : Endpoint) (within : e.port < 65536) (a b : Option ℕ)
    → IsNextCovered e 65536 (live t m).maps a → IsNextNamed e 65536 (live t m).peers b
    → lesser a b ≡ next_inside t m e
unfolding next_inside
next-known t m e within a b h k = next-found (is_taken_inside t m e) e.port within (lesser a b) (next-taken t m e 65536 a b h k)

-- no port is above the last one
pub next-last : (t : Table) (m : ℕ) (e : Endpoint) → e.port ≡ 65535 → None ≡ next_inside t m e
unfolding next_inside
next-last t m e last =
    ap (λ n. find (is_taken_inside t m e) (range_with_len (e.port + 1) n)) (let none : 0 ≡ 65535 - e.port = omega (arith, last) in none)
