-- What is shown of flags, port by port.
use Rattle.std.proofs.Common.{◌≡◌, ℕ, zero, suc, ◌+◌, ◌-◌, ◌<◌, ◌≤◌, ◌&&◌, ◌||◌, not, Bool, true, false, List, [], slice_index_or, nat_eq, nat_le, nat_lt, refl, sym, ◌∙◌, ap, arith, IsTrue, subst, ◌↔◌, length, Option, Some, None}
use Rattle.std.proofs.lemmas.Bool.Decides.{nat_tests}
use Rattle.std.proofs.lemmas.Map.Views.{any-filter_same}
use Rattle.std.specs.List.{filter, list_any, range_with_len}
use Rattle.port_runs.specs.Ports.{Ports, is_taken, is_untaken, IsFreeRun, is_in_run, IsFittingRun, HasFittingRun, IsLeast, IsGreatest, IsCountAt, TakesRun, GivesRun, untaken}
use Rattle.port_runs.specs.Flags.{AreOfRange, IsSetBetween, shown, FitsFlags, HasSetRun, IsSetCountAt, IsSetAlone, IsMarked}
use Rattle.std.specs.Prelude.{Vec}
use Rattle.std.specs.Vec.{with_items}
use Rattle.std.proofs.lemmas.List.{with_items_is}
use Rattle.std.specs.List.Sorted.{IsStrictlyIncreasing}
use Rattle.std.proofs.lemmas.List.Kept.{IsStrictlyIncreasing-filter}
use Rattle.std.proofs.lemmas.List.FromFn.{length-range_with_len, get_or-range_with_len}

-- a port is among n ports from a on
among_step : (a n p : ℕ) → (nat_eq p a || (nat_le (a + 1) p && nat_lt p ((a + 1) + n))) ≡ (nat_le a p && nat_lt p (a + suc n))
among_step a n p = grind (arith, nat_tests)

among_none : (a p : ℕ) → false ≡ (nat_le a p && nat_lt p (a + 0))
among_none a p = grind (arith, nat_tests)

among_range : (a n p : ℕ) → list_any (nat_eq p) (range_with_len a n) ≡ (nat_le a p && nat_lt p (a + n))
among_range a zero p = among_none a p
among_range a (suc n) p = ap (λ b. nat_eq p a || b) (among_range (a + 1) n p) ∙ among_step a n p

-- a filter keeps the ports that pass it
among_filter : (f : ℕ → Bool) (p : ℕ) (xs : List ℕ) → list_any (nat_eq p) (filter f xs) ≡ (f p && list_any (nat_eq p) xs)
among_filter f p xs = any-filter_same (nat_eq p) f (f p) (λ k h. let e : k ≡ p = grind (arith, nat_tests) in ap f e) xs

ends : (low high p : ℕ) → low ≤ high → (nat_le low p && nat_lt p (low + (high + 1 - low))) ≡ (nat_le low p && nat_le p high)
ends low high p h = grind (arith, nat_tests)

pub is_taken-shown : (low high : ℕ) (free : List Bool) (p : ℕ) → low ≤ high → is_taken (shown low high free) p ≡ (not (slice_index_or free p false) && (nat_le low p && nat_le p high))
is_taken-shown low high free p h =
    among_filter (λ q. not (slice_index_or free q false)) p (range_with_len low (high + 1 - low))
    ∙ ap (λ b. not (slice_index_or free p false) && b) (among_range low (high + 1 - low) p ∙ ends low high p h)

module _ (low high : ℕ) (free : List Bool) (ok : AreOfRange low high free) where
  free_tests : (f : Bool) (p : ℕ) → (p < low → f ≡ false) → (high < p → f ≡ false) → (nat_le low p && nat_le p high && not (not f && (nat_le low p && nat_le p high))) ≡ f
  free_tests true p below above = grind (arith, nat_tests)
  free_tests false p below above = grind (arith, nat_tests)

  pub is_untaken-shown : (p : ℕ) → is_untaken (shown low high free) p ≡ slice_index_or free p false
  is_untaken-shown p =
      ap (λ b. nat_le low p && nat_le p high && not b) (is_taken-shown low high free p ok.ordered)
      ∙ free_tests (slice_index_or free p false) p (ok.below p) (ok.above p)

increasing_range : (a n : ℕ) → IsStrictlyIncreasing (range_with_len a n)
increasing_range a n k h =
    let few : k + 1 < n = omega (arith, length-range_with_len a n) in
    omega (arith, get_or-range_with_len a n k 0 (omega arith), get_or-range_with_len a n (k + 1) 0 few)

pub ascending-shown : (low high : ℕ) (free : List Bool) → IsStrictlyIncreasing (shown low high free).taken
ascending-shown low high free =
    IsStrictlyIncreasing-filter (λ port. not (slice_index_or free port false)) (range_with_len low (high + 1 - low)) (increasing_range low (high + 1 - low))

-- no port is taken where all are free
none_taken : (free : List Bool) (a n : ℕ) → IsSetBetween free a (a + n) → filter (λ port. not (slice_index_or free port false)) (range_with_len a n) ≡ []
none_taken free a zero h = refl
none_taken free a (suc n) h =
    rw (h a (omega arith) (omega arith)) (none_taken free (a + 1) n (λ i low high. h i (omega arith) (omega arith)))

-- flags that are set by one mark
pub alone_marked : (from to : ℕ) (old new : List Bool) → length old ≡ 65536 → ((i : ℕ) → slice_index_or old i false ≡ false) → IsMarked from to true old new → IsSetAlone from to new
alone_marked from to old new all clear marked = record {
  whole = marked.same_length ∙ all;
  set = marked.marked;
  below = λ i h. marked.below i h ∙ clear i;
  above = λ i h. marked.above i h ∙ clear i;
}

-- the flags of a range with no port taken
module _ (low high : ℕ) (flags : List Bool) (some : 1 ≤ low) (ordered : low ≤ high) (small : high < 65536) (alone : IsSetAlone low (high + 1) flags) where
  pub untaken_of_range : AreOfRange low high flags
  untaken_of_range = record {
    some = some;
    ordered = ordered;
    small = small;
    all = alone.whole;
    below = alone.below;
    above = λ i h. alone.above i (omega arith);
  }

  pub untaken_shown : shown low high flags ≡ untaken low high
  untaken_shown =
      let none : filter (λ port. not (slice_index_or flags port false)) (range_with_len low (high + 1 - low)) ≡ [] =
      none_taken flags low (high + 1 - low) (λ i a b. alone.set i a (omega arith))
      in ap (λ (taken : List ℕ). let v : Ports = record { low = low; high = high; taken = taken } in v) none

-- the flags of a vector after its slice was marked
pub marked_items : {Z : Type 0} (v : Vec Bool Z) (old new : List Bool) (from to : ℕ) (value : Bool) → old ≡ v.items → IsMarked from to value old new → IsMarked from to value v.items (with_items v new).items
marked_items v old new from to value same m =
    let long : length new ≡ v.len = m.same_length ∙ (ap length same ∙ sym v.ok.0) in
    let kept : IsMarked from to value old (with_items v new).items = subst (λ (xs : List Bool). IsMarked from to value old xs) (sym (with_items_is v new long)) m in
    subst (λ (xs : List Bool). IsMarked from to value xs (with_items v new).items) same kept

-- what fits both ways
least_same : (P Q : ℕ → Type 0) → ((n : ℕ) → P n → Q n) → ((n : ℕ) → Q n → P n) → (result : Option ℕ) → IsLeast P result → IsLeast Q result
least_same P Q there back None h = record { fits = tt; least = tt; none = λ other q. h.none other (back other q) }
least_same P Q there back (Some n) h = record { fits = there n h.fits; least = λ other q. h.least other (back other q); none = tt }

-- a count over a vector's flags
pub count_items : (flags items : List Bool) (start most count : ℕ) → flags ≡ items → IsSetCountAt flags start most count → IsSetCountAt items start most count
count_items flags items start most count same h = subst (λ (xs : List Bool). IsSetCountAt xs start most count) same h

-- what a caller sees, v, of the flags that a body reads
module _ (low high : ℕ) (free : List Bool) (ok : AreOfRange low high free) (v : Ports) (seen : shown low high free ≡ v) (flags : List Bool) (same : flags ≡ free) where
  pub is_untaken-seen : (p : ℕ) → is_untaken v p ≡ slice_index_or flags p false
  is_untaken-seen p = ap (λ w. is_untaken w p) (sym seen) ∙ (is_untaken-shown low high free ok p ∙ ap (λ f. slice_index_or f p false) (sym same))

  pub free_run_of_set : (start n : ℕ) → IsSetBetween flags start (start + n) → IsFreeRun v start n
  free_run_of_set start n h p a b = is_untaken-seen p ∙ h p a b

  pub set_of_free_run : (start n : ℕ) → IsFreeRun v start n → IsSetBetween flags start (start + n)
  set_of_free_run start n h p a b = sym (is_untaken-seen p) ∙ h p a b

  pub fits_of_flags : (n : ℕ) (parity : Option ℕ) (start : ℕ) → FitsFlags flags n parity start → IsFittingRun v n parity start
  fits_of_flags n parity start f = (free_run_of_set start n f.run, f.remainder)

  pub flags_of_fits : (n : ℕ) (parity : Option ℕ) (start : ℕ) → IsFittingRun v n parity start → FitsFlags flags n parity start
  flags_of_fits n parity start f = record { run = set_of_free_run start n f.0; remainder = f.1 }

  pub least-seen : (n : ℕ) (parity : Option ℕ) (result : Option ℕ) → IsLeast (FitsFlags flags n parity) result → IsLeast (IsFittingRun v n parity) result
  least-seen n parity result h = least_same (FitsFlags flags n parity) (IsFittingRun v n parity) (fits_of_flags n parity) (flags_of_fits n parity) result h

  pub longest-seen : (parity : Option ℕ) (n : ℕ) → IsGreatest (HasSetRun flags parity) n → IsGreatest (HasFittingRun v parity) n
  longest-seen parity n h = record {
    fits = λ some. let run = h.fits some in (run.0, fits_of_flags n parity run.0 run.1);
    greatest = λ other run. h.greatest other (run.0, flags_of_fits other parity run.0 run.1);
  }

  pub count-seen : (start most count : ℕ) → IsSetCountAt flags start most count → IsCountAt v start most count
  count-seen start most count h = record {
    most = h.most;
    free = free_run_of_set start count h.free;
    stops = λ few. is_untaken-seen (start + count) ∙ h.stops few;
  }

  pub no_run : (start n count : ℕ) → count < n → slice_index_or flags (start + count) false ≡ false → IsTrue false ↔ IsFreeRun v start n
  no_run start n count few stops =
      (λ e. absurd (let bad : false ≡ true = e in (cc)), λ h. sym stops ∙ set_of_free_run start n h (start + count) (omega arith) (omega arith))

  pub a_run : (start n count : ℕ) → n ≤ count → IsSetBetween flags start (start + count) → IsTrue true ↔ IsFreeRun v start n
  a_run start n count enough h =
      (λ _. free_run_of_set start n (λ p a b. h p a (omega arith)), λ _. refl)

-- what a caller sees after flags were set or cleared
module _ (low high : ℕ) (free : List Bool) (ordered : low ≤ high) (v : Ports) (seen : shown low high free ≡ v) (start n : ℕ) (from_low : low ≤ start) (to_high : start + n ≤ high + 1) where
  taken_tests : (old new : Bool) (p : ℕ) → (start ≤ p → p < start + n → new ≡ false) → (p < start → new ≡ old) → (start + n ≤ p → new ≡ old) → (not new && (nat_le low p && nat_le p high)) ≡ ((not old && (nat_le low p && nat_le p high)) || is_in_run start n p)
  taken_tests old new p within below above = grind (arith, nat_tests)

  given_tests : (old new : Bool) (p : ℕ) → (start ≤ p → p < start + n → new ≡ true) → (p < start → new ≡ old) → (start + n ≤ p → new ≡ old) → (not new && (nat_le low p && nat_le p high)) ≡ ((not old && (nat_le low p && nat_le p high)) && not (is_in_run start n p))
  given_tests old new p within below above = grind (arith, nat_tests)

  pub taken-shown : (new : List Bool) → IsMarked start (start + n) false free new → (p : ℕ) → is_taken (shown low high new) p ≡ (is_taken v p || is_in_run start n p)
  taken-shown new m p =
      is_taken-shown low high new p ordered
      ∙ (taken_tests (slice_index_or free p false) (slice_index_or new p false) p (m.marked p) (m.below p) (m.above p)
      ∙ ap (λ b. b || is_in_run start n p) (sym (is_taken-shown low high free p ordered) ∙ ap (λ w. is_taken w p) seen))

  pub given-shown : (new : List Bool) → IsMarked start (start + n) true free new → (p : ℕ) → is_taken (shown low high new) p ≡ (is_taken v p && not (is_in_run start n p))
  given-shown new m p =
      is_taken-shown low high new p ordered
      ∙ (given_tests (slice_index_or free p false) (slice_index_or new p false) p (m.marked p) (m.below p) (m.above p)
      ∙ ap (λ b. b && not (is_in_run start n p)) (sym (is_taken-shown low high free p ordered) ∙ ap (λ w. is_taken w p) seen))

-- the calls that take and give
module _ (low high : ℕ) (free : List Bool) (ok : AreOfRange low high free) (v : Ports) (seen : shown low high free ≡ v) (start n : ℕ) (from_low : v.low ≤ start) (to_high : start + n ≤ v.high + 1) where
  low_at : low ≤ start
  low_at = subst (λ (w : Ports). w.low ≤ start) (sym seen) from_low

  high_at : start + n ≤ high + 1
  high_at = subst (λ (w : Ports). start + n ≤ w.high + 1) (sym seen) to_high

  pub takes_run : (count : ℕ) → n ≤ count → IsSetBetween free start (start + count) → (new : List Bool) → IsMarked start (start + n) false free new → TakesRun v start n true (shown low high new)
  takes_run count enough set new m = record {
    answer = a_run low high free ok v seen free refl start n count enough set;
    low = ap (λ (w : Ports). w.low) seen;
    high = ap (λ (w : Ports). w.high) seen;
    taken = taken-shown low high free ok.ordered v seen start n low_at high_at new m;
    unchanged = tt;
    ascending = ascending-shown low high new;
  }

  pub takes_none : (count : ℕ) → count < n → slice_index_or free (start + count) false ≡ false → TakesRun v start n false v
  takes_none count few stops = record {
    answer = no_run low high free ok v seen free refl start n count few stops;
    low = refl;
    high = refl;
    taken = tt;
    unchanged = refl;
    ascending = subst (λ (w : Ports). IsStrictlyIncreasing w.taken) seen (ascending-shown low high free);
  }

  pub gives_run : (new : List Bool) → IsMarked start (start + n) true free new → GivesRun v start n (shown low high new)
  gives_run new m = record {
    low = ap (λ (w : Ports). w.low) seen;
    high = ap (λ (w : Ports). w.high) seen;
    taken = given-shown low high free ok.ordered v seen start n low_at high_at new m;
    ascending = ascending-shown low high new;
  }
