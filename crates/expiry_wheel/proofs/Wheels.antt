-- What stands in the lists of a wheel, of the map that it is seen as.
use Rattle.std.proofs.Common.{◌≡◌, ◌≢◌, ℕ, ◌-◌, ◌<◌, ◌≤◌, List, Some, ◌∙◌, arith, inl, inr}
use Rattle.std.specs.Ordering.{nat_cmp}
use Rattle.std.specs.FinMap.{FinMap, get}
use Rattle.expiry_wheel.specs.declared.TheConstants.{NEVER}
use Rattle.expiry_wheel.specs.Moments.{expiries_by, kept_at, latest, IsFirstIn, IsNextIn}
use Rattle.expiry_wheel.specs.Blocks.{IsWheel}
use Rattle.expiry_wheel.specs.Due.{IsFirstDue, IsNextDue}
use Rattle.expiry_wheel.proofs.Maps.{same_or_not, cond_same, cond_other, below_or_not}
use Rattle.expiry_wheel.proofs.Moments.{moment_of, not_never, within_moments, expires_at}

-- the last moment up to m
pub latest_either : (m : ℕ) → m ≤ NEVER → (latest m ≤ m) × (latest m < NEVER) × ((e : ℕ) → e ≤ m → e ≢ NEVER → e ≤ latest m)
latest_either m most = elim (same_or_not m NEVER) [
  | inl same ↦
      let is : latest m ≡ NEVER - 1 = cond_same m NEVER (NEVER - 1) m same in
      (omega (arith, is, same), omega (arith, is), λ e due ne. omega (arith, is, same, due, ne))
  | inr ne ↦
      let is : latest m ≡ m = cond_other m NEVER (NEVER - 1) m ne in
      (omega (arith, is), omega (arith, is, ne, most), λ e due other. omega (arith, is, due))
]

-- a moment that is due is an expiry
due_expires : (moments : List ℕ) (view : FinMap nat_cmp ℕ) (m id : ℕ) → expiries_by moments ≡ view → m ≤ NEVER → kept_at moments id ≤ latest m → get view id ≡ Some (kept_at moments id)
due_expires moments view m id seen most due = expires_at moments view id seen (λ never. omega (arith, never, due, (latest_either m most).1))

pub next_seen : (moments leasts : List ℕ) (view : FinMap nat_cmp ℕ) (m id : ℕ) → expiries_by moments ≡ view → IsWheel moments leasts → m ≤ NEVER → IsNextIn moments (latest m) id → IsNextDue view m id
next_seen moments leasts view m id seen wheel most next = record {
  expiry = kept_at moments id;
  expires = due_expires moments view m id seen most (omega (arith, next.first.due, next.due));
  due = omega (arith, next.first.due, next.due, (latest_either m most).0);
  least = λ other e found.
      let is = moment_of moments view other e seen found in
      let low = within_moments moments view other e seen found in
      omega (arith, is, next.first.due, next.least other low);
  first = λ other found. elim (below_or_not other id) [
    | inl before ↦
        let is = moment_of moments view other (kept_at moments id) seen found in
        absurd (omega (arith, is, next.first.first other (omega arith) before, next.first.due))
    | inr on ↦ on
  ];
}

pub first_seen : (moments leasts : List ℕ) (view : FinMap nat_cmp ℕ) (from m id : ℕ) → expiries_by moments ≡ view → IsWheel moments leasts → m ≤ NEVER → IsFirstIn moments from (latest m) id → IsFirstDue view from m id
first_seen moments leasts view from m id seen wheel most first = record {
  expiry = kept_at moments id;
  expires = due_expires moments view m id seen most first.due;
  due = omega (arith, first.due, (latest_either m most).0);
  from_on = first.from_on;
  first = λ other e found due after. elim (below_or_not other id) [
    | inl before ↦
        let is = moment_of moments view other e seen found in
        let ne = not_never moments view other e seen found in
        let at = (latest_either m most).2 e due (λ never. ne (is ∙ never)) in
        absurd (omega (arith, is, at, first.first other after before))
    | inr on ↦ on
  ];
}

-- where no moment from an id on is due, no expiry is
pub none_seen : (moments leasts : List ℕ) (view : FinMap nat_cmp ℕ) (from m : ℕ) → expiries_by moments ≡ view → IsWheel moments leasts → m ≤ NEVER → ((id : ℕ) → from ≤ id → id < 131072 → latest m < kept_at moments id) → (id e : ℕ) → get view id ≡ Some e → from ≤ id → m < e
none_seen moments leasts view from m seen wheel most later id e found after = elim (below_or_not m e) [
  | inl on ↦ on
  | inr due ↦
      let is = moment_of moments view id e seen found in
      let ne = not_never moments view id e seen found in
      let at = (latest_either m most).2 e due (λ never. ne (is ∙ never)) in
      let low = within_moments moments view id e seen found in
      absurd (omega (arith, is, at, later id after (omega (arith, low, wheel.ids))))
]

-- an id with an expiry is in the wheel
pub past_none : (moments leasts : List ℕ) (view : FinMap nat_cmp ℕ) (id e : ℕ) → expiries_by moments ≡ view → IsWheel moments leasts → get view id ≡ Some e → id < 131072
past_none moments leasts view id e seen wheel found = omega (arith, within_moments moments view id e seen found, wheel.ids)
