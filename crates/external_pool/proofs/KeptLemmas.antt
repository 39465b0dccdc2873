-- What is kept of the ports of one protocol, seen from outside.
use Rattle.std.proofs.Common.{◌≡◌, ℕ, ◌+◌, ◌-◌, ◌<◌, ◌≤◌, min, max, ◌&&◌, not, nat_le, nat_lt, Bool, true, false, cond, List, [], length, Option, Some, None, IsTrue, refl, sym, ap, subst, ◌∙◌, arith}
use Rattle.std.proofs.lemmas.Bool.Decides.{nat_tests}
use Rattle.port_runs.specs.Ports.{Ports, is_taken, is_untaken, is_in_run, IsFittingRun, HasFittingRun, IsLeast, IsGreatest}
use Rattle.external_pool.specs.declared.uses.Use.{Use}
use Rattle.external_pool.specs.PortUses.{PortUses, use_at, use_along, is_in_range, is_free_use, is_vacant, with_run, all_free, AreUsed}
use Rattle.external_pool.specs.declared.uses.Use.TheVariants.{Free}
use Rattle.external_pool.specs.Choosing.{IsVacantRun, HasVacantRun, IsLongest}
use Rattle.external_pool.specs.Kept.{IsKept}
use Rattle.external_pool.proofs.Painted.{free_along, use_at-with_run, length-with_run, use_at-all_free}

-- what isn't above a number is at most it
pub at_most : (n most : ℕ) → (most < n → ⊥) → n ≤ most
at_most n most none = grind (arith, none)

vacant_test : (a b f : Bool) → (a && b && not ((a && b) && not f)) ≡ ((a && b) && f)
vacant_test true true true = refl
vacant_test true true false = refl
vacant_test true false f = refl
vacant_test false b f = refl

module _ (low high : ℕ) (runs : Ports) (each : List Use) (kept : IsKept low high runs each) where
  -- a free port of the runs is a vacant one
  pub free-vacant : (port : ℕ) → is_untaken runs port ≡ is_vacant (record { low = low; high = high; each = each }) port
  free-vacant port =
      ap (λ (t : Bool). nat_le runs.low port && nat_le port runs.high && not t) (kept.taken port)
      ∙ ap (λ (l : ℕ). nat_le l port && nat_le port runs.high && not (is_in_range low high port && not (is_free_use (use_at each port)))) kept.same_low
      ∙ ap (λ (h : ℕ). nat_le low port && nat_le port h && not (is_in_range low high port && not (is_free_use (use_at each port)))) kept.same_high
      ∙ vacant_test (nat_le low port) (nat_le port high) (is_free_use (use_at each port))

  module _ (uses : PortUses) (seen : record { low = low; high = high; each = each } ≡ uses) (parity : Option ℕ) where
    pub fitting : (n start : ℕ) → IsVacantRun uses n parity start → IsFittingRun runs n parity start
    fitting n start is =
        (λ port from to. subst IsTrue (sym (free-vacant port ∙ ap (λ (u : PortUses). is_vacant u port) seen)) (is.vacant port from to), is.remainder)

    pub vacating : (n start : ℕ) → IsFittingRun runs n parity start → IsVacantRun uses n parity start
    vacating n start is = record {
      vacant = λ port from to. subst IsTrue (free-vacant port ∙ ap (λ (u : PortUses). is_vacant u port) seen) (is.0 port from to);
      remainder = is.1;
    }

    pub least_vacant : (n : ℕ) (found : Option ℕ) → IsLeast (IsFittingRun runs n parity) found → IsLeast (IsVacantRun uses n parity) found
    least_vacant n None is = record {
      fits = tt;
      least = tt;
      none = λ other vacant. is.none other (fitting n other vacant);
    }
    least_vacant n (Some start) is = record {
      fits = vacating n start is.fits;
      least = λ other vacant. is.least other (fitting n other vacant);
      none = tt;
    }

    pub most_vacant : (most : ℕ) → IsGreatest (HasFittingRun runs parity) most → IsGreatest (HasVacantRun uses parity) most
    most_vacant most is = record {
      fits = λ some. let run = is.fits some in (run.0, vacating most run.0 run.1);
      greatest = λ other run. is.greatest other (run.0, fitting other run.0 run.1);
    }

module _ (uses : PortUses) (parity : Option ℕ) (room most count : ℕ) (is : IsGreatest (HasVacantRun uses parity) most) (count_is : count ≡ min most room) where
  no_more : (n : ℕ) → n ≤ room → HasVacantRun uses parity n → n ≤ count
  no_more n few run = omega (arith, few, is.greatest n run, count_is)

  pub longest_none : count ≡ 0 → IsLongest uses parity room None
  longest_none zero_is n some few run = omega (arith, some, no_more n few run, zero_is)

  pub longest_found : 1 ≤ count → (found : ℕ) → IsVacantRun uses count parity found → ((other : ℕ) → IsVacantRun uses count parity other → found ≤ other)
      → IsLongest uses parity room (Some (record { start = found; count = count }))
  longest_found some found vacant least = record {
    some = some;
    within = omega (arith, count_is);
    vacant = vacant;
    least = least;
    greatest = no_more;
  }

-- of at most one port the longest run is the first vacant one
module _ (uses : PortUses) (parity : Option ℕ) where
  pub first_none : IsLeast (IsVacantRun uses 1 parity) None → IsLongest uses parity 1 None
  first_none is n some few run = let one : n ≡ 1 = omega (arith, some, few) in is.none run.0 (subst (λ (k : ℕ). IsVacantRun uses k parity run.0) one run.1)

  pub first_found : (found : ℕ) → IsLeast (IsVacantRun uses 1 parity) (Some found) → IsLongest uses parity 1 (Some (record { start = found; count = 1 }))
  first_found found is = record {
    some = omega arith;
    within = omega arith;
    vacant = is.fits;
    least = is.least;
    greatest = λ n few run. few;
  }

-- a use painted over the part of a run that lies in the range
painted_tests : (r s : Bool) (value later old : Use) → is_free_use later ≡ is_free_use value → cond (r && s) (not (is_free_use value)) (r && not (is_free_use old)) ≡ (r && not (is_free_use (cond s later old)))
painted_tests true true value later old same = ap not (sym same)
painted_tests true false value later old same = refl
painted_tests false s value later old same = refl

pub clipped : (low high start n from to port : ℕ) → from ≡ max start low → to ≡ min (start + n) (high + 1) → from < to → is_in_run from (to - from) port ≡ (is_in_range low high port && is_in_run start n port)
clipped low high start n from to port e f h = grind (arith, nat_tests)

pub apart : (low high start n from to port : ℕ) → from ≡ max start low → to ≡ min (start + n) (high + 1) → to ≤ from → (is_in_range low high port && is_in_run start n port) ≡ false
apart low high start n from to port e f h = grind (arith, nat_tests)

module _ (low high : ℕ) (runs : Ports) (each : List Use) (kept : IsKept low high runs each) (start n : ℕ) (value : Use) (within : start + n ≤ length each) where
  -- ports that were marked as vacant or not
  pub kept_settled : (new : Ports) → new.low ≡ low → new.high ≡ high
      → ((port : ℕ) → is_taken new port ≡ cond (is_in_range low high port && is_in_run start n port) (not (is_free_use value)) (is_taken runs port)) → IsKept low high new (with_run start n value each)
  kept_settled new same_low same_high taken = record {
    all = length-with_run start n value each within ∙ kept.all;
    same_low = same_low;
    same_high = same_high;
    taken = λ port. taken port
        ∙ ap (cond (is_in_range low high port && is_in_run start n port) (not (is_free_use value))) (kept.taken port)
        ∙ painted_tests (is_in_range low high port) (is_in_run start n port) value (use_along (port - start) value) (use_at each port) (free_along (port - start) value)
        ∙ ap (λ (u : Use). is_in_range low high port && not (is_free_use u)) (sym (use_at-with_run start n value each within port));
  }

  still_used : AreUsed each start n → is_free_use value ≡ false → (b c : Bool) (port : ℕ) → nat_le start port ≡ b → nat_lt port (start + n) ≡ c
      → is_free_use (use_at each port) ≡ is_free_use (cond (b && c) (use_along (port - start) value) (use_at each port))
  still_used used stays true true port e f = used port (grind (arith, nat_tests)) (grind (arith, nat_tests)) ∙ sym (free_along (port - start) value ∙ stays)
  still_used used stays true false port e f = refl
  still_used used stays false c port e f = refl

  -- used ports that got other uses
  pub kept_noted : AreUsed each start n → is_free_use value ≡ false → IsKept low high runs (with_run start n value each)
  kept_noted used stays = record {
    all = length-with_run start n value each within ∙ kept.all;
    same_low = kept.same_low;
    same_high = kept.same_high;
    taken = λ port. kept.taken port
        ∙ ap (λ (b : Bool). is_in_range low high port && not b) (still_used used stays (nat_le start port) (nat_lt port (start + n)) port refl refl)
        ∙ ap (λ (u : Use). is_in_range low high port && not (is_free_use u)) (sym (use_at-with_run start n value each within port));
  }

no_test : (r : Bool) → false ≡ (r && not (is_free_use Free))
no_test true = refl
no_test false = refl

-- what is kept of a range of which no port is used
pub kept_new : (low high count : ℕ) (runs : Ports) (each : List Use) → length each ≡ 65536 → runs ≡ record { low = low; high = high; taken = [] } → each ≡ all_free count → IsKept low high runs each
kept_new low high count runs each all new free = record {
  all = all;
  same_low = ap (λ (r : Ports). r.low) new;
  same_high = ap (λ (r : Ports). r.high) new;
  taken = λ port. ap (λ (r : Ports). is_taken r port) new ∙ no_test (is_in_range low high port)
      ∙ ap (λ (u : Use). is_in_range low high port && not (is_free_use u)) (sym (ap (λ (es : List Use). use_at es port) free ∙ use_at-all_free count port));
}
