-- The longest run, found from the last flag back.
use Rattle.std.proofs.Common.{◌≡◌, ℕ, ◌+◌, ◌<◌, ◌≤◌, Bool, true, false, List, length, Option, slice_index_or, subst, arith, inl, inr}
use Rattle.std.proofs.lemmas.Bool.{cases_lt, cases_eq}
use Rattle.std.proofs.lemmas.List.{get_or_past}
use Rattle.port_runs.specs.Flags.{FitsFlags, HasSetRun, IsSetBetween}
use Rattle.port_runs.specs.Ports.{HasParity, IsGreatest}
use Rattle.port_runs.proofs.Blocks.{set_and_not}

-- so many flags are set from start on, and not one more
pub record IsRunFrom (flags : List Bool) (start run : ℕ) : Type 0 where
  pub set : IsSetBetween flags start (start + run)
  pub ends : slice_index_or flags (start + run) false ≡ false
  pub within : start + run ≤ length flags

-- the longest run that begins at start or behind it
pub record IsLongestFrom (flags : List Bool) (parity : Option ℕ) (start longest : ℕ) : Type 0 where
  pub met : 1 ≤ longest → HasSetRun flags parity longest
  pub most : (other n : ℕ) → start ≤ other → FitsFlags flags n parity other → n ≤ longest

module _ (flags : List Bool) (parity : Option ℕ) where
  no_longer : (start run n : ℕ) → IsRunFrom flags start run → IsSetBetween flags start (start + n) → n ≤ run
  no_longer start run n is set = elim (cases_lt run n) [
    | inl over ↦ absurd (set_and_not flags (start + run) (set (start + run) (omega arith) (omega arith)) is.ends)
    | inr few ↦ few
  ]

  pub run_begins : IsRunFrom flags (length flags) 0
  run_begins = record { set = λ i from to. absurd (omega arith); ends = get_or_past flags (length flags + 0) false (omega arith); within = omega arith }

  pub longest_begins : IsLongestFrom flags parity (length flags) 0
  longest_begins = record {
    met = λ some. absurd (omega arith);
    most = λ other n past f. elim (cases_lt 0 n) [
      | inl some ↦ absurd (set_and_not flags other (f.run other (omega arith) (omega arith)) (get_or_past flags other false past))
      | inr none ↦ none
    ];
  }

  pub run_on : (start run : ℕ) → slice_index_or flags start false ≡ true → IsRunFrom flags (start + 1) run → IsRunFrom flags start (run + 1)
  run_on start run is h = record {
    set = λ i from to. elim (cases_eq i start) [ inl here ↦ rw here is | inr other ↦ h.set i (omega arith) (omega arith) ];
    ends = (let same : start + (run + 1) ≡ start + 1 + run = omega arith in rw same h.ends);
    within = omega (arith, h.within);
  }

  pub run_ends : (start run : ℕ) → start < length flags → slice_index_or flags start false ≡ false → IsRunFrom flags start 0
  run_ends start run within isnt = record {
    set = λ i from to. absurd (omega arith);
    ends = (let same : start + 0 ≡ start = omega arith in rw same isnt);
    within = omega arith;
  }

  pub longest_met : (start run longest : ℕ) → HasParity parity start → longest < run → IsRunFrom flags start run → IsLongestFrom flags parity (start + 1) longest → IsLongestFrom flags parity start run
  longest_met start run longest has longer is h = record {
    met = λ some. (start, record { run = is.set; remainder = has });
    most = λ other n from f. elim (cases_eq other start) [
      | inl here ↦ no_longer start run n is (subst (λ (s : ℕ). IsSetBetween flags s (s + n)) here f.run)
      | inr other_start ↦ (let few : n ≤ longest = h.most other n (omega arith) f in omega arith)
    ];
  }

  pub longest_stays : (start run longest : ℕ) → (HasParity parity start → run ≤ longest) → IsRunFrom flags start run → IsLongestFrom flags parity (start + 1) longest → IsLongestFrom flags parity start longest
  longest_stays start run longest no_more is h = record {
    met = h.met;
    most = λ other n from f. elim (cases_eq other start) [
      | inl here ↦
          let few : n ≤ run = no_longer start run n is (subst (λ (s : ℕ). IsSetBetween flags s (s + n)) here f.run) in
          let more : run ≤ longest = no_more (subst (HasParity parity) here f.remainder) in
          omega arith
      | inr other_start ↦ h.most other n (omega arith) f
    ];
  }

  pub longest_of_all : (longest : ℕ) → IsLongestFrom flags parity 0 longest → IsGreatest (HasSetRun flags parity) longest
  longest_of_all longest h = record { fits = h.met; greatest = λ other run. h.most run.0 other (omega arith) run.1 }
