-- Reading filters one after the other, as a loop does.
use Rattle.std.proofs.Common.{◌≡◌, ℕ, suc, ◌-◌, ◌+◌, ◌≤◌, ◌<◌, List, [], ◌∷◌, ◌++◌, Option, Some, None, refl, sym, ap, ◌∙◌, append_assoc, arith}
use Rattle.std.proofs.lemmas.List.{append-nil}
use Rattle.pcp_base.specs.declared.leases.Filter.{Filter}
use Rattle.lease_records.specs.RecordReading.{◌>>=◌, filter_at, filters_at}

-- what was read before, and what is still read
abbrev pub with_front : List Filter → Option (List Filter × List ℕ) → Option (List Filter × List ℕ)
with_front front read = read >>= λ x. Some (front ++ x.0, x.1)

regroup : (front : List Filter) (f : Filter) (read : Option (List Filter × List ℕ)) → with_front front (read >>= λ x. Some (f ∷ x.0, x.1)) ≡ with_front (front ++ f ∷ []) read
regroup front f (Some x) = ap (λ (fs : List Filter). Some (fs, x.1)) (simp append_assoc)
regroup front f None = refl

pub goes_on : (front : List Filter) (count i : ℕ) (octets : List ℕ) (f : Filter) (after : List ℕ) (total : Option (List Filter × List ℕ)) → i < count → filter_at octets ≡ Some (f, after)
    → with_front front (filters_at (count - i) octets) ≡ total → with_front (front ++ f ∷ []) (filters_at (count - (i + 1)) after) ≡ total
unfolding filters_at
goes_on front count i octets f after total lt h so_far =
    let k : count - i ≡ suc (count - (i + 1)) = omega arith in
    let one : with_front front (filters_at (count - i) octets) ≡ with_front (front ++ f ∷ []) (filters_at (count - (i + 1)) after) = rw (k, h) (regroup front f (filters_at (count - (i + 1)) after)) in
    sym one ∙ so_far

pub ends : (front : List Filter) (count i : ℕ) (octets : List ℕ) (total : Option (List Filter × List ℕ)) → i < count → filter_at octets ≡ None
    → with_front front (filters_at (count - i) octets) ≡ total → total ≡ None
unfolding filters_at
ends front count i octets total lt h so_far =
    let k : count - i ≡ suc (count - (i + 1)) = omega arith in
    let one : with_front front (filters_at (count - i) octets) ≡ None = rw (k, h) refl in
    sym so_far ∙ one

pub is_done : (front : List Filter) (count i : ℕ) (octets : List ℕ) (total : Option (List Filter × List ℕ)) → count ≤ i → with_front front (filters_at (count - i) octets) ≡ total → total ≡ Some (front, octets)
unfolding filters_at
is_done front count i octets total le so_far =
    let k : count - i ≡ 0 = omega arith in
    let one : with_front front (filters_at (count - i) octets) ≡ Some (front, octets) = rw k (ap (λ (fs : List Filter). Some (fs, octets)) (append-nil front)) in
    sym so_far ∙ one
