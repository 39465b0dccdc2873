-- What is live in a state is what is live in its tables.
use Rattle.std.proofs.Common.{◌≡◌, ℕ, ◌≤◌, ap, sym, subst, ◌∙◌, arith}
use Rattle.pcp_base.specs.Tables.{Table, live}
use Rattle.indexed_store.specs.Indexed.{IsKept}
use Rattle.indexed_store.specs.Judging.{IsCurrent}
use Rattle.indexed_store.specs.Tabled.{AreTabled, TabledState}

module _ (s : TabledState) (m : ℕ) (kept : IsKept s) (later : s.ports.reached ≤ m) where
  pub state-live : live s.leases m ≡ live s.state.table m
  state-live = sym (kept.live m later)

-- what is looked up in the tables of a value is looked up in its state
pub looked_in : {X : Type 0} (look : Table → X) (s : TabledState) (m : ℕ) (leases : Table) → leases ≡ s.leases → IsKept s → s.ports.reached ≤ m
    → look (live leases m) ≡ look (live s.state.table m)
looked_in look s m leases same kept later = ap (λ (t : Table). look (live t m)) same ∙ ap look (state-live s m kept later)

-- no later moment was reached than one that isn't before the last, where that was reached
pub reached-later : (s : TabledState) (m : ℕ) → IsCurrent s m → s.ports.reached ≤ m
reached-later s m is = let at = is.at_last in let later = is.later in omega (arith, at, later)

pub leases_of : {a b : TabledState} → a ≡ b → a.leases ≡ b.leases
leases_of {a} {b} same = ap (λ (v : TabledState). v.leases) same

pub tabled_of : {a b : TabledState} → a ≡ b → IsKept b → AreTabled a.leases
tabled_of {a} {b} same kept = subst AreTabled (sym (leases_of same)) kept.tabled
