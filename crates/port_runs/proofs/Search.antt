-- The way down the tree to the least run.
use Rattle.std.proofs.Common.{◌≡◌, ℕ, zero, suc, ◌+◌, ◌-◌, ◌*◌, ◌/◌, length, ◌<◌, ◌≤◌, Bool, true, false, List, Option, Some, None, is_some, IfSome, IfNone, slice_index_or, refl, sym, ◌∙◌, ap, subst, arith, inl, inr}
use Rattle.std.proofs.lemmas.Bool.{cases_lt}
use Rattle.std.proofs.lemmas.List.{get_or_past}
use Rattle.port_runs.specs.declared.node.Node.{Node}
use Rattle.port_runs.specs.Flags.{FitsFlags, FitsBlock, HasSetRun}
use Rattle.port_runs.specs.Nodes.{IsSummary, IsFirstOver, longest, node_at, AreLeaves, AreJoined, IsCostOfWay}
use Rattle.port_runs.specs.Ports.{HasParity, IsLeast, IsGreatest}
use Rattle.port_runs.proofs.Blocks.{begins_late, ends_early, set_and_not}
use Rattle.port_runs.proofs.Summary.{RunAsked, longest_most, longest_met, width, width_some, width_even, block, left_place, right_place, place_small}

-- two blocks side by side, of which the left one has no such run
module _ (flags : List Bool) (n : ℕ) (parity : Option ℕ) (some : 1 ≤ n) (a m b : ℕ) (left right : Node) (l : IsSummary flags a m left) (r : IsSummary flags m b right) (short : longest parity left < n) (low : (t : ℕ) → FitsFlags flags n parity t → a ≤ t) where
  begins_after : (t : ℕ) → FitsFlags flags n parity t → m ≤ t + left.suffix
  begins_after t f = elim (cases_lt m (t + n)) [
    | inr inside ↦ absurd (omega (arith, longest_most flags a m left l parity t n f.remainder (low t f) inside f.run))
    | inl over ↦ elim (cases_lt t m) [
      | inl before ↦ begins_late flags a m b left.suffix t l.suffix (low t f) (λ i from to. f.run i from (omega arith))
      | inr past ↦ omega arith
    ]
  ]

  pub fits_over : (start : ℕ) → IsFirstOver (m - left.suffix) (m + right.prefix) n parity start → FitsFlags flags n parity start
  fits_over start f = record {
    run = λ i from to. elim (cases_lt i m) [ inl before ↦ l.suffix.set i (omega (arith, f.from)) before | inr past ↦ r.prefix.set i past (omega (arith, f.to)) ];
    remainder = f.remainder;
  }

  pub least_over : (start : ℕ) → IsFirstOver (m - left.suffix) (m + right.prefix) n parity start → (t : ℕ) → FitsFlags flags n parity t → start ≤ t
  least_over start f t fits = f.least t fits.remainder (omega (arith, begins_after t fits))

  module _ (none : (start : ℕ) → HasParity parity start → m ≤ start + left.suffix → m + right.prefix < start + n) (run : RunAsked flags a b n parity) where
    run_fits : FitsFlags flags n parity run.start
    run_fits = record { run = run.set; remainder = run.has }

    not_before : (t : ℕ) → FitsFlags flags n parity t → t + n ≤ b → m ≤ t
    not_before t f to = elim (cases_lt t m) [
      | inr past ↦ past
      | inl before ↦
          let beyond : m + right.prefix < t + n = none t f.remainder (begins_after t f) in
          absurd (omega (arith, ends_early flags a m b right.prefix (t + n) r.prefix to (λ i from upto. f.run i (omega arith) upto)))
    ]

    run_right : m ≤ run.start
    run_right = not_before run.start run_fits run.to

    pub longest_right : n ≤ longest parity right
    longest_right = longest_most flags m b right r parity run.start n run.has run_right run.to run.set

    pub low_right : (t : ℕ) → FitsFlags flags n parity t → m ≤ t
    low_right t f = elim (cases_lt t m) [
      | inr past ↦ past
      | inl before ↦ not_before t f (omega (arith, run_right, run.to))
    ]

-- the way has come to a node in whose block the least run begins, or, where it is longer, would begin
pub record Spot (flags : List Bool) (nodes : List Node) (n : ℕ) (parity : Option ℕ) (k place first half : ℕ) : Type 0 where
  pub half_is : half * 2 ≡ width k
  pub at : place * width k ≡ 65536 + first
  pub within : first + width k ≤ 65536
  pub some : n ≤ longest parity (node_at nodes place)
  pub allowed : IfSome parity (λ remainder. remainder < 2)
  pub low : (t : ℕ) → FitsFlags flags n parity t → first ≤ t

allowed_of : (n : ℕ) (parity : Option ℕ) (node : Node) → 1 ≤ n → n ≤ longest parity node → IfSome parity (λ remainder. remainder < 2)
unfolding longest
allowed_of n None node some h = tt
allowed_of n (Some zero) node some h = omega arith
allowed_of n (Some (suc zero)) node some h = omega arith
allowed_of n (Some (suc (suc r))) node some h = absurd (omega arith)

module _ (flags : List Bool) (nodes : List Node) (n : ℕ) (parity : Option ℕ) (some : 1 ≤ n) (all : length flags ≡ 65536) (clear : slice_index_or flags 0 false ≡ false) (leaves : AreLeaves flags nodes) (joined : AreJoined nodes) where
  root : IsSummary flags 0 65536 (node_at nodes 1)
  root = block flags clear nodes leaves joined 10 1 0 refl (omega arith)

  within_all : (t : ℕ) → FitsFlags flags n parity t → t + n ≤ 65536
  within_all t f = elim (cases_lt 65536 (t + n)) [
    | inr fits ↦ fits
    | inl over ↦ absurd (set_and_not flags (t + n - 1) (f.run (t + n - 1) (omega arith) (omega arith)) (get_or_past flags (t + n - 1) false (omega arith)))
  ]

  pub root_none : longest parity (node_at nodes 1) < n → (t : ℕ) → FitsFlags flags n parity t → ⊥
  root_none short t f = absurd (omega (arith, longest_most flags 0 65536 (node_at nodes 1) root parity t n f.remainder (omega arith) (within_all t f) f.run))

  pub none_first : longest parity (node_at nodes 1) < n → IsLeast (FitsFlags flags n parity) None
  none_first short = record { fits = tt; least = tt; none = root_none short }

  pub root_spot : n ≤ longest parity (node_at nodes 1) → Spot flags nodes n parity 10 1 0 32768
  root_spot h = record {
    half_is = refl;
    at = refl;
    within = omega arith;
    some = h;
    allowed = allowed_of n parity (node_at nodes 1) some h;
    low = λ t f. omega arith;
  }

  pub level_down : (level place first half : ℕ) → level < 10 → Spot flags nodes n parity (10 - level) place first half → Spot flags nodes n parity (suc (9 - level)) place first half
  level_down level place first half h spot =
      let e : 10 - level ≡ suc (9 - level) = omega arith in
      subst (λ (k : ℕ). Spot flags nodes n parity k place first half) e spot

  pub level_on : (level place first half : ℕ) → Spot flags nodes n parity (9 - level) place first half → Spot flags nodes n parity (10 - (level + 1)) place first half
  level_on level place first half spot =
      let e : 9 - level ≡ 10 - (level + 1) = omega arith in
      subst (λ (k : ℕ). Spot flags nodes n parity k place first half) e spot

  pub level_end : (level place first half : ℕ) → 10 ≤ level → Spot flags nodes n parity (10 - level) place first half → Spot flags nodes n parity 0 place first half
  level_end level place first half h spot =
      let e : 10 - level ≡ 0 = omega arith in
      subst (λ (k : ℕ). Spot flags nodes n parity k place first half) e spot

  pub spot_within : (k place first half : ℕ) → Spot flags nodes n parity k place first half → first + half * 2 ≤ 65536
  spot_within k place first half spot = let h = spot.within in omega (arith, spot.half_is)

  pub spot_place : (k place first half : ℕ) → 1 ≤ k → Spot flags nodes n parity k place first half → place < 1024
  spot_place zero place first half h spot = absurd (omega arith)
  spot_place (suc k) place first half h spot = place_small place (width k) first spot.at spot.within (width_some k)

  module _ (k place first half : ℕ) (spot : Spot flags nodes n parity (suc k) place first half) where
    half_width : half ≡ width k
    half_width = let h = spot.half_is in omega arith

    pub spot_small : place < 1024
    spot_small = place_small place (width k) first spot.at spot.within (width_some k)

    pub left_summary : IsSummary flags first (first + half) (node_at nodes (2 * place))
    left_summary = rw half_width (block flags clear nodes leaves joined k (2 * place) first (left_place place (width k) first spot.at) (let h = spot.within in omega arith))

    pub right_summary : IsSummary flags (first + half) (first + half + half) (node_at nodes (2 * place + 1))
    right_summary = rw half_width (block flags clear nodes leaves joined k (2 * place + 1) (first + width k) (right_place place (width k) first spot.at) (let h = spot.within in omega arith))

    whole_run : RunAsked flags first (first + half + half) n parity
    whole_run =
        let run = longest_met flags first (first + width (suc k)) (node_at nodes place) (block flags clear nodes leaves joined (suc k) place first spot.at spot.within) parity n some spot.some in
        record { start = run.start; from = run.from; to = (let h = run.to in omega (arith, half_width)); has = run.has; set = run.set }

    pub go_left : n ≤ longest parity (node_at nodes (2 * place)) → Spot flags nodes n parity k (2 * place) first (half / 2)
    go_left h = record {
      half_is = omega (arith, half_width, width_even k);
      at = left_place place (width k) first spot.at;
      within = (let h = spot.within in omega arith);
      some = h;
      allowed = spot.allowed;
      low = spot.low;
    }

    module _ (short : longest parity (node_at nodes (2 * place)) < n) where
      pub over_fits : (start : ℕ) → IsFirstOver (first + half - (node_at nodes (2 * place)).suffix) (first + half + (node_at nodes (2 * place + 1)).prefix) n parity start → FitsFlags flags n parity start
      over_fits = fits_over flags n parity some first (first + half) (first + half + half) (node_at nodes (2 * place)) (node_at nodes (2 * place + 1)) left_summary right_summary short spot.low

      pub over_least : (start : ℕ) → IsFirstOver (first + half - (node_at nodes (2 * place)).suffix) (first + half + (node_at nodes (2 * place + 1)).prefix) n parity start → (t : ℕ) → FitsFlags flags n parity t → start ≤ t
      over_least = least_over flags n parity some first (first + half) (first + half + half) (node_at nodes (2 * place)) (node_at nodes (2 * place + 1)) left_summary right_summary short spot.low

      pub go_right : ((start : ℕ) → HasParity parity start → first + half ≤ start + (node_at nodes (2 * place)).suffix → first + half + (node_at nodes (2 * place + 1)).prefix < start + n) → Spot flags nodes n parity k (2 * place + 1) (first + half) (half / 2)
      go_right none = record {
        half_is = omega (arith, half_width, width_even k);
        at = right_place place (width k) first spot.at ∙ ap (λ w. 65536 + (first + w)) (sym half_width);
        within = (let h = spot.within in omega (arith, half_width));
        some = longest_right flags n parity some first (first + half) (first + half + half) (node_at nodes (2 * place)) (node_at nodes (2 * place + 1)) left_summary right_summary short spot.low none whole_run;
        allowed = spot.allowed;
        low = low_right flags n parity some first (first + half) (first + half + half) (node_at nodes (2 * place)) (node_at nodes (2 * place + 1)) left_summary right_summary short spot.low none whole_run;
      }

    -- what was found over the middle of the two nodes that were looked at
    module _ (left right : Node) (left_is : left ≡ node_at nodes (2 * place)) (right_is : right ≡ node_at nodes (2 * place + 1)) (short : longest parity left < n) where
      short_at : longest parity (node_at nodes (2 * place)) < n
      short_at = subst (λ (node : Node). longest parity node < n) left_is short

      first_over_at : (start : ℕ) → IsFirstOver (first + half - left.suffix) (first + half + right.prefix) n parity start → IsFirstOver (first + half - (node_at nodes (2 * place)).suffix) (first + half + (node_at nodes (2 * place + 1)).prefix) n parity start
      first_over_at start f =
          subst (λ (node : Node). IsFirstOver (first + half - node.suffix) (first + half + (node_at nodes (2 * place + 1)).prefix) n parity start) left_is
          (subst (λ (node : Node). IsFirstOver (first + half - left.suffix) (first + half + node.prefix) n parity start) right_is f)

      pub found_fits : (result : Option ℕ) → IfSome result (IsFirstOver (first + half - left.suffix) (first + half + right.prefix) n parity) → IfSome result (FitsFlags flags n parity)
      found_fits None f = tt
      found_fits (Some start) f = over_fits short_at start (first_over_at start f)

      pub found_least : (result : Option ℕ) → IfSome result (IsFirstOver (first + half - left.suffix) (first + half + right.prefix) n parity) → IfSome result (λ start. (t : ℕ) → FitsFlags flags n parity t → start ≤ t)
      found_least None f = tt
      found_least (Some start) f = over_least short_at start (first_over_at start f)

      pub found_first : (result : Option ℕ) → is_some result ≡ true → IfSome result (IsFirstOver (first + half - left.suffix) (first + half + right.prefix) n parity) → IsLeast (FitsFlags flags n parity) result
      found_first None there f = (cc)
      found_first (Some start) there f = record { fits = found_fits (Some start) f; least = found_least (Some start) f; none = tt }

      pub none_found : ((start : ℕ) → HasParity parity start → first + half ≤ start + left.suffix → first + half + right.prefix < start + n) → Spot flags nodes n parity k (2 * place + 1) (first + half) (half / 2)
      none_found none =
          go_right short_at
          (subst (λ (node : Node). (start : ℕ) → HasParity parity start → first + half ≤ start + node.suffix → first + half + (node_at nodes (2 * place + 1)).prefix < start + n) left_is
          (subst (λ (node : Node). (start : ℕ) → HasParity parity start → first + half ≤ start + left.suffix → first + half + node.prefix < start + n) right_is none))

  -- the last block is that of a word
  module _ (place first half : ℕ) (spot : Spot flags nodes n parity 0 place first half) where
    pub word_index : 64 * (place - 1024) ≡ first
    word_index = let at = spot.at in omega arith

    pub word_within : place - 1024 < 1024
    word_within = let at = spot.at in let within = spot.within in omega arith

    last_run : RunAsked flags first (first + 64) n parity
    last_run = longest_met flags first (first + 64) (node_at nodes place) (block flags clear nodes leaves joined 0 place first spot.at spot.within) parity n some spot.some

    last_fits : FitsBlock flags first (first + 64) n parity last_run.start
    last_fits = record { fits = record { run = last_run.set; remainder = last_run.has }; from = last_run.from; to = last_run.to }

    least_of_word : (result : Option ℕ) → IsLeast (FitsBlock flags first (first + 64) n parity) result → IsLeast (FitsFlags flags n parity) result
    least_of_word None h = absurd (h.none last_run.start last_fits)
    least_of_word (Some start) h = record {
      fits = h.fits.fits;
      least = λ t f. elim (cases_lt (first + 64) (t + n)) [
        | inl over ↦ (let to = h.fits.to in omega arith)
        | inr inside ↦ h.least t (record { fits = f; from = spot.low t f; to = inside })
      ];
      none = tt;
    }

    pub word_has : (result : Option ℕ) → IsLeast (FitsBlock flags (64 * (place - 1024)) (64 * (place - 1024) + 64) n parity) result → is_some result ≡ true
    word_has None h = absurd (h.none last_run.start (subst (λ (a : ℕ). FitsBlock flags a (a + 64) n parity last_run.start) (sym word_index) last_fits))
    word_has (Some start) h = refl

    pub least_in_word : (result : Option ℕ) → IsLeast (FitsBlock flags (64 * (place - 1024)) (64 * (place - 1024) + 64) n parity) result → IsLeast (FitsFlags flags n parity) result
    least_in_word result h = least_of_word result (subst (λ (a : ℕ). IsLeast (FitsBlock flags a (a + 64) n parity) result) word_index h)

-- the root tells of the longest run of all
module _ (flags : List Bool) (nodes : List Node) (parity : Option ℕ) (all : length flags ≡ 65536) (clear : slice_index_or flags 0 false ≡ false) (leaves : AreLeaves flags nodes) (joined : AreJoined nodes) where
  whole : IsSummary flags 0 65536 (node_at nodes 1)
  whole = block flags clear nodes leaves joined 10 1 0 refl (omega arith)

  run_of : (n : ℕ) → RunAsked flags 0 65536 n parity → HasSetRun flags parity n
  run_of n run = (run.start, record { run = run.set; remainder = run.has })

  no_longer : (n start : ℕ) → FitsFlags flags n parity start → n ≤ longest parity (node_at nodes 1)
  no_longer zero start f = omega arith
  no_longer (suc n) start f = longest_most flags 0 65536 (node_at nodes 1) whole parity start (suc n) f.remainder (omega arith) (within_all flags nodes (suc n) parity (omega arith) all clear leaves joined start f) f.run

  pub root_longest : IsGreatest (HasSetRun flags parity) (longest parity (node_at nodes 1))
  root_longest = record {
    fits = λ some. run_of (longest parity (node_at nodes 1)) (longest_met flags 0 65536 (node_at nodes 1) whole parity (longest parity (node_at nodes 1)) some (omega arith));
    greatest = λ other run. no_longer other run.0 run.1;
  }

-- as a caller sees the flags
pub longest_at_root : (flags : List Bool) (nodes : List Node) (parity : Option ℕ) (v : List Bool) → flags ≡ v → length flags ≡ 65536 → slice_index_or v 0 false ≡ false → AreLeaves flags nodes → AreJoined nodes → IsGreatest (HasSetRun v parity) (longest parity (node_at nodes 1))
longest_at_root flags nodes parity v seen all clear leaves joined =
    subst (λ (xs : List Bool). IsGreatest (HasSetRun xs parity) (longest parity (node_at nodes 1))) seen
    (root_longest flags nodes parity all (subst (λ (xs : List Bool). slice_index_or xs 0 false ≡ false) (sym seen) clear) leaves joined)

pub some_cost : {old new : ℕ} (result : Option ℕ) → IsCostOfWay old new → IfSome result (λ _. IsCostOfWay old new)
some_cost None cost = tt
some_cost (Some start) cost = cost

pub none_cost : (P : Type 0) (result : Option ℕ) → is_some result ≡ true → IfNone result P
none_cost P None there = (cc)
none_cost P (Some start) there = tt

pub none_when : (P : Type 0) (result : Option ℕ) → is_some result ≡ false → IfNone result P → P
none_when P None isnt h = h
none_when P (Some x) isnt h = (cc)
