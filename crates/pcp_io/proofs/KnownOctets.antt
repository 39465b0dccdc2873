-- Reads and writes one after the other, where the octets are told.
use Rattle.std.proofs.Common.{◌≡◌, ℕ, ◌+◌, ◌-◌, ◌≤◌, List, ◌++◌, length, take, drop, Option, None, Some, refl, sym, ap, ◌∙◌, subst, append_assoc, length-drop, take-add, take_all, arith}
use Rattle.std.specs.Io.KnownBytes.{prepend_known, append_known}
use Rattle.pcp_io.specs.Reads.{Reads}
use Rattle.pcp_io.specs.Writes.{Writes}

pub append_known-append : (known : Option (List ℕ)) (xs ys : List ℕ) → append_known (append_known known xs) ys ≡ append_known known (xs ++ ys)
append_known-append None xs ys = refl
append_known-append (Some os) xs ys = ap Some (append_assoc os xs ys)

pub prepend_known-append : (xs ys : List ℕ) (known : Option (List ℕ)) → prepend_known xs (prepend_known ys known) ≡ prepend_known (xs ++ ys) known
prepend_known-append xs ys None = refl
prepend_known-append xs ys (Some os) = ap Some (sym (append_assoc xs ys os))

-- a source that told what was left tells what is left now
pub Reads-told : (xs : List ℕ) (now : Option (List ℕ)) (old new : List ℕ) (n : ℕ) → Reads (Some xs) now old new n → (ys : List ℕ) × (now ≡ Some ys) × (xs ≡ take n new ++ ys)
Reads-told xs None old new n h = absurd (let e : Some xs ≡ None = h.octets in cc)
Reads-told xs (Some ys) old new n h = (ys, refl, let e : Some xs ≡ Some (take n new ++ ys) = h.octets in cc)

-- first octets, and then octets of what lies behind them
pub append_known-take : (before : Option (List ℕ)) (octets : List ℕ) (taken n : ℕ) → append_known (append_known before (take taken octets)) (take n (drop taken octets)) ≡ append_known before (take (taken + n) octets)
append_known-take before octets taken n = append_known-append before (take taken octets) (take n (drop taken octets)) ∙ ap (append_known before) (sym (take-add taken n octets))

-- some first octets were taken, and the count of faults hasn't fallen
pub record HasTaken (before now : Option (List ℕ)) (octets : List ℕ) (taken faults_before faults_now : ℕ) : Type 0 where
  pub within : taken ≤ length octets
  pub front : now ≡ append_known before (take taken octets)
  pub later : faults_before ≤ faults_now

-- what lies behind the octets taken, as a write is passed it
pub behind : (octets : List ℕ) (taken : ℕ) → take (length octets - taken) (drop taken octets) ≡ drop taken octets
behind octets taken = take_all (length octets - taken) (drop taken octets) (omega (arith, length-drop taken octets))

-- a write goes no further than the octets reach
pub Writes-within : (mid now : Option (List ℕ)) (octets : List ℕ) (taken n : ℕ) → taken ≤ length octets
    → Writes mid now (take (length octets - taken) (drop taken octets)) n → taken + n ≤ length octets
Writes-within mid now octets taken n within h =
    let bound : n ≤ length (drop taken octets) = subst (λ piece. n ≤ length piece) (behind octets taken) h.bound in
    omega (arith, length-drop taken octets)

-- after a write of what lies behind the octets taken
pub Writes-after : (before mid now : Option (List ℕ)) (octets : List ℕ) (taken n : ℕ) → mid ≡ append_known before (take taken octets)
    → Writes mid now (take (length octets - taken) (drop taken octets)) n
    → now ≡ append_known before (take (taken + n) octets)
Writes-after before mid now octets taken n earlier h = rw (h.octets, behind octets taken, earlier) (append_known-take before octets taken n)
