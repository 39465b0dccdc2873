-- Histories with entries behind them.
use Rattle.std.specs.List.{AllByRecursion, last_or}
use Rattle.std.specs.Option.{option_map_or}
use Rattle.std.proofs.Common.{◌≡◌, ◌≢◌, ◌∙◌, ℕ, ◌+◌, ◌<◌, List, [], ◌∷◌, ◌++◌, Option, Some, None}
use Rattle.std.proofs.Common.{cond, inl, inr, refl, ap, arith}
use Rattle.std.proofs.lemmas.List.Elements.{filter_map-append}
use Rattle.std.proofs.lemmas.List.Sums.{fold-append, sum_by-append}
use Rattle.pcp_base.specs.declared.datagrams.Entry.{Entry}
use Rattle.pcp_base.specs.Apply.{apply, apply_all}
use Rattle.pcp_base.specs.States.{State}
use Rattle.lease_disk.specs.declared.disks.DiskPair.{DiskPair}
use Rattle.lease_disk.specs.Pairs.{PairHasCause}
use Rattle.lease_histories.specs.Entries.{entry_kind}
use Rattle.lease_histories.specs.Legal.{records_of, state_after, moment_after, base_after}
use Rattle.turned_shards.specs.FaultCounts.{HaveRisenBy, fault_count, is_of_fault}

pub state-append : (s : State) (xs ys : List Entry) →
    state_after s (xs ++ ys) ≡ apply_all (state_after s xs) (records_of ys)
state-append s xs ys =
    ap (apply_all s) (filter_map-append (λ (e : Entry). e.kept) xs ys)
    ∙ fold-append apply s (records_of xs) (records_of ys)

-- ---- the last entry

pub last-append : (o : Option Entry) (xs : List Entry) (y : Entry) (ys : List Entry) →
    last_or o (xs ++ y ∷ ys) ≡ last_or (Some y) ys
last-append o [] y ys = refl
last-append o (x ∷ xs) y ys = last-append (Some x) xs y ys

last-all : (P : Entry → Type 0) (y : Entry) (ys : List Entry) → P y → AllByRecursion P ys →
    (z : Entry) × (last_or (Some y) ys ≡ Some z) × P z
last-all P y [] here all = (y, refl, here)
last-all P y (z ∷ ys) here all = last-all P z ys all.0 all.1

-- entries of one moment and base are behind the others
pub after-all : (s : State) (xs ys : List Entry) (m base : ℕ) → ys ≢ [] →
    AllByRecursion (λ (e : Entry). (e.moment ≡ m) × (e.base ≡ base)) ys →
    (moment_after s (xs ++ ys) ≡ m) × (base_after s (xs ++ ys) ≡ base)
after-all s xs [] m base some all = absurd (some refl)
after-all s xs (y ∷ ys) m base some all =
    let z = last-all (λ (e : Entry). (e.moment ≡ m) × (e.base ≡ base)) y ys all.0 all.1 in
    let at : last_or None (xs ++ y ∷ ys) ≡ Some z.0 = last-append None xs y ys ∙ z.1 in (
      ap (λ (l : Option Entry). option_map_or (λ (e : Entry). e.moment) l s.last) at ∙ z.2.0,
      ap (λ (l : Option Entry). option_map_or (λ (e : Entry). e.base) l s.base) at ∙ z.2.1,
    )

pub after-one : (s : State) (xs : List Entry) (e : Entry) →
    (moment_after s (xs ++ e ∷ []) ≡ e.moment) × (base_after s (xs ++ e ∷ []) ≡ e.base)
after-one s xs e = after-all s xs (e ∷ []) e.moment e.base (λ h. absurd cc) ((refl, refl), tt)

-- ---- faults

pub faults-append : (xs ys : List Entry) → fault_count (xs ++ ys) ≡ fault_count xs + fault_count ys
faults-append xs ys = sum_by-append (λ (e : Entry). cond (is_of_fault (entry_kind e)) 1 0) xs ys

module _ {D : Type 0} (faults : D → ℕ) where
  pub risen-on : (old mid new : DiskPair D) (n : ℕ) (F : Type 0) → HaveRisenBy faults old mid n →
      PairHasCause faults mid new F → HaveRisenBy faults old new n
  risen-on old mid new n F has cause =
      let a = has.later_a in let b = has.later_b in let c = cause.later_a in
      let d = cause.later_b in
      record {
        later_a = omega arith;
        later_b = omega arith;
        by = λ small_a small_b. let p : faults mid.a < 18446744073709551615 = omega arith in
            let q : faults mid.b < 18446744073709551615 = omega arith in let e = has.by p q in
            omega arith;
      }

  pub risen-more : (old mid new : DiskPair D) (n : ℕ) (F : Type 0) → F →
      HaveRisenBy faults old mid n → PairHasCause faults mid new F →
      HaveRisenBy faults old new (n + 1)
  risen-more old mid new n F failed has cause =
      let a = has.later_a in let b = has.later_b in let c = cause.later_a in
      let d = cause.later_b in
      record {
        later_a = omega arith;
        later_b = omega arith;
        by = λ small_a small_b. let p : faults mid.a < 18446744073709551615 = omega arith in
            let q : faults mid.b < 18446744073709551615 = omega arith in let e = has.by p q in
            elim (cause.risen failed) [
              | inl up ↦ elim up
                  [ inl more ↦ omega (arith, more, e) | inr end ↦ omega (arith, end, small_a) ]
              | inr up ↦ elim up
                  [ inl more ↦ omega (arith, more, e) | inr end ↦ omega (arith, end, small_b) ]
            ];
      }
