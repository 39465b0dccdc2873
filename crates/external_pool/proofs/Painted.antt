-- Uses after some of them were painted.
use Rattle.std.specs.Prelude.{◌⊎◌}
use Rattle.std.proofs.lemmas.Bool.{eqb-true, eq-eqb}
use Rattle.std.proofs.Common.{◌==◌, inl, inr, length-set, take-append-drop, slice_set, ◌≡◌, ℕ, zero, suc, ◌+◌, ◌-◌, ◌<◌, ◌≤◌, ◌&&◌, nat_le, nat_lt, Bool, true, false, cond, List, ◌∷◌, ◌++◌, length, take, drop, replicate, refl, sym, ap, ◌∙◌, arith, length-take-le, length-append, length-drop, get_or-take, get_or-drop, Vec}
use Rattle.std.proofs.lemmas.List.{append-nil, drop_all, get_or-append_right, with_items_is, get_or_append_left, ext_get_or, get_or-set_same, get_or-set_other}
use Rattle.std.proofs.lemmas.Bool.Decides.{nat_tests}
use Rattle.std.specs.Vec.{with_items}
use Rattle.port_runs.specs.Ports.{is_in_run}
use Rattle.pcp_base.specs.declared.addresses.Address.{Address}
use Rattle.external_pool.specs.declared.uses.Use.{Use}
use Rattle.external_pool.specs.declared.uses.Use.TheVariants.{Free}
use Rattle.external_pool.specs.declared.uses.Use.TheVariants.{Held, Resting}
use Rattle.external_pool.specs.PortUses.{all_free, use_at, use_along, uses_along, with_run, is_free_use, is_held_by}

at_replicate : (count port : ℕ) → use_at (replicate count Free) port ≡ Free
at_replicate zero port = refl
at_replicate (suc count) zero = refl
at_replicate (suc count) (suc port) = at_replicate count port

pub use_at-all_free : (count port : ℕ) → use_at (all_free count) port ≡ Free
unfolding all_free
use_at-all_free count port = at_replicate count port

-- the uses of ports in a row
along_none : (value : Use) → use_along 0 value ≡ value
along_none Free = refl
along_none (Held who) = refl
along_none (Resting last internal) = ap (Resting last) (omega arith)

along_more : (i : ℕ) (value : Use) → use_along i (use_along 1 value) ≡ use_along (suc i) value
along_more i Free = refl
along_more i (Held who) = refl
along_more i (Resting last internal) = ap (Resting last) (omega arith)

pub free_along : (i : ℕ) (value : Use) → is_free_use (use_along i value) ≡ is_free_use value
free_along i Free = refl
free_along i (Held who) = refl
free_along i (Resting last internal) = refl

pub held_along : (who : Address) (i : ℕ) (value : Use) → is_held_by who (use_along i value) ≡ is_held_by who value
held_along who i Free = refl
held_along who i (Held holder) = refl
held_along who i (Resting last internal) = refl

pub length-uses_along : (n : ℕ) (value : Use) → length (uses_along n value) ≡ n
length-uses_along zero value = refl
length-uses_along (suc n) value = let rest = length-uses_along n (use_along 1 value) in omega (arith, rest)

pub use_at-uses_along : (n i : ℕ) (value : Use) → i < n → use_at (uses_along n value) i ≡ use_along i value
use_at-uses_along zero i value h = absurd (omega (arith, h))
use_at-uses_along (suc n) zero value h = sym (along_none value)
use_at-uses_along (suc n) (suc i) value h = use_at-uses_along n i (use_along 1 value) (omega (arith, h)) ∙ along_more i value

all_along : (n : ℕ) → uses_along n Free ≡ replicate n Free
all_along zero = refl
all_along (suc n) = ap (λ (us : List Use). Free ∷ us) (all_along n)

-- two numbers are the same, or not
same_or : (a b : ℕ) → (a ≡ b) ⊎ (a ≡ b → ⊥)
same_or a b = step (a == b) refl
  where
    step : (c : Bool) → (a == b) ≡ c → (a ≡ b) ⊎ (a ≡ b → ⊥)
    step true e = inl (eqb-true a b e)
    step false e = inr (λ same. absurd (let no : true ≡ false = sym (eq-eqb a b same) ∙ e in cc))

module _ (start n : ℕ) (value : Use) (each : List Use) (within : start + n ≤ length each) where
  first : length (take start each) ≡ start
  first = length-take-le start each (omega arith)

  pub length-with_run : length (with_run start n value each) ≡ length each
  length-with_run =
      omega (arith, within, first, length-append (take start each) (uses_along n value ++ drop (start + n) each), length-append (uses_along n value) (drop (start + n) each), length-uses_along n value, length-drop (start + n) each)

  below : (port : ℕ) → port < start → use_at (with_run start n value each) port ≡ use_at each port
  below port h =
      let short : port < length (take start each) = omega (arith, h, first) in
      get_or_append_left (take start each) (uses_along n value ++ drop (start + n) each) Free port short ∙ get_or-take start each port Free h

  past : (port : ℕ) → start ≤ port → use_at (with_run start n value each) port ≡ use_at (uses_along n value ++ drop (start + n) each) (port - start)
  past port h = get_or-append_right (take start each) (uses_along n value ++ drop (start + n) each) start port Free first h

  inside : (port : ℕ) → start ≤ port → port < start + n → use_at (with_run start n value each) port ≡ use_along (port - start) value
  inside port h few =
      let short : port - start < length (uses_along n value) = omega (arith, h, few, length-uses_along n value) in
      let less : port - start < n = omega arith in
      past port h ∙ get_or_append_left (uses_along n value) (drop (start + n) each) Free (port - start) short ∙ use_at-uses_along n (port - start) value less

  above : (port : ℕ) → start + n ≤ port → use_at (with_run start n value each) port ≡ use_at each port
  above port h =
      let from : start ≤ port = omega arith in
      let rest : n ≤ port - start = omega arith in
      let place : start + n + (port - start - n) ≡ port = omega arith in
      past port from ∙ get_or-append_right (uses_along n value) (drop (start + n) each) n (port - start) Free (length-uses_along n value) rest
      ∙ get_or-drop (start + n) each (port - start - n) Free ∙ ap (use_at each) place

  by_tests : (b c : Bool) (port : ℕ) → nat_le start port ≡ b → nat_lt port (start + n) ≡ c → use_at (with_run start n value each) port ≡ cond (b && c) (use_along (port - start) value) (use_at each port)
  by_tests true true port e f = inside port (grind (arith, nat_tests)) (grind (arith, nat_tests))
  by_tests true false port e f = above port (grind (arith, nat_tests))
  by_tests false c port e f = below port (grind (arith, nat_tests))

  pub use_at-with_run : (port : ℕ) → use_at (with_run start n value each) port ≡ cond (is_in_run start n port) (use_along (port - start) value) (use_at each port)
  use_at-with_run port = by_tests (nat_le start port) (nat_lt port (start + n)) port refl refl

-- what stands in a vector after its slice was painted
pub painted_items : {Z : Type 0} (v : Vec Use Z) (old new : List Use) (start n : ℕ) (value : Use) → old ≡ v.items → new ≡ with_run start n value old → start + n ≤ length v.items → (with_items v new).items ≡ with_run start n value v.items
painted_items v old new start n value same is within =
    let new_is : new ≡ with_run start n value v.items = is ∙ ap (with_run start n value) same in
    let long : length new ≡ v.len = ap length new_is ∙ length-with_run start n value v.items within ∙ sym v.ok.0 in
    with_items_is v new long ∙ new_is

-- all of a list painted free
pub with_run-all : (each : List Use) (n : ℕ) → n ≡ length each → with_run 0 n Free each ≡ all_free n
unfolding all_free
with_run-all each n e = ap (λ (rest : List Use). uses_along n Free ++ rest) (drop_all (0 + n) each (omega arith)) ∙ append-nil (uses_along n Free) ∙ all_along n

-- nothing is painted yet
pub with_run-none : (start : ℕ) (value : Use) (each : List Use) → with_run start 0 value each ≡ each
with_run-none start value each =
    let same : start + 0 ≡ start = omega arith in
    ap (λ (k : ℕ). take start each ++ drop k each) same ∙ take-append-drop start each

-- one more is painted
module _ (start i : ℕ) (value : Use) (each : List Use) (within : start + (i + 1) ≤ length each) where
  before : start + i ≤ length each
  before = omega (arith, within)

  long : length (with_run start i value each) ≡ length each
  long = length-with_run start i value each before

  at_place : (k : ℕ) → use_at (slice_set (with_run start i value each) (start + i) (use_along i value)) k ≡ use_at (with_run start (i + 1) value each) k
  at_place k = elim (same_or k (start + i)) [
    | inl same ↦ (let own : k - start ≡ i = omega (arith, same) in
        let within_run : is_in_run start (i + 1) k ≡ true = grind (arith, nat_tests, same) in
        ap (use_at (slice_set (with_run start i value each) (start + i) (use_along i value))) same
        ∙ get_or-set_same (with_run start i value each) (start + i) (use_along i value) Free (omega (arith, within, long))
        ∙ ap (λ (j : ℕ). use_along j value) (sym own)
        ∙ sym (ap (λ (b : Bool). cond b (use_along (k - start) value) (use_at each k)) within_run)
        ∙ sym (use_at-with_run start (i + 1) value each within k))
    | inr other ↦ (let same_run : is_in_run start i k ≡ is_in_run start (i + 1) k = grind (arith, nat_tests, other) in
        get_or-set_other (with_run start i value each) (start + i) k (use_along i value) Free other
        ∙ use_at-with_run start i value each before k
        ∙ ap (λ (b : Bool). cond b (use_along (k - start) value) (use_at each k)) same_run
        ∙ sym (use_at-with_run start (i + 1) value each within k))
  ]

  pub with_run-more : slice_set (with_run start i value each) (start + i) (use_along i value) ≡ with_run start (i + 1) value each
  with_run-more = ext_get_or Free (slice_set (with_run start i value each) (start + i) (use_along i value)) (with_run start (i + 1) value each)
      (length-set (with_run start i value each) (start + i) (use_along i value) ∙ long ∙ sym (length-with_run start (i + 1) value each within)) (λ k few. at_place k)
