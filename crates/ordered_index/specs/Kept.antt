-- How a table keeps its leases (our own; for proofs alone).
use Rattle.std.specs.Prelude.{◌≡◌, ℕ, ◌<◌, ◌%◌, Bool, List, Some, count_by}
use Rattle.std.specs.declared.cmp.Ordering.{Ordering}
use Rattle.std.specs.Ordering.{nat_cmp}
use Rattle.std.specs.BTreeMap.{IsOrdered, get}
use Rattle.ordered_index.specs.declared.numbered.Numbered.{Numbered}
use Rattle.ordered_index.specs.declared.slots.TheConstants.{MOST_SLOTS}

-- the images of the first list are the second list, in some order: each test passes as many
abbrev pub Mirrors : {A B : Type 0} → (A → B) → List A → List B → Type 0
Mirrors {A} {B} image from to =
    (test : B → Bool) → count_by test to ≡ count_by (λ a. test (image a)) from

-- what a table looks its leases up by
pub record Keying (L K P : Type 0) : Type 0 where
  pub key : L → K
  pub port : L → P
  pub key_cmp : K → K → Ordering
  pub port_cmp : P → P → Ordering

-- the leases stand in the order of their numbers, which are below the next step, and each other map
-- has for each lease one entry
pub record IsKept {L K P : Type 0} (by : Keying L K P) (it : Numbered L K P) : Type 0 where
  pub ordered : IsOrdered nat_cmp it.leases
  pub below : (n : ℕ) (l : L) → get nat_cmp it.leases n ≡ Some l → n < it.next
  pub step : it.next % MOST_SLOTS ≡ 0
  pub keys_ordered : IsOrdered by.key_cmp it.keys
  pub keys : Mirrors (λ e. (by.key e.1, e.0)) it.leases.entries it.keys.entries
  pub ports_ordered : IsOrdered by.port_cmp it.ports
  pub ports : Mirrors (λ e. (by.port e.1, e.0)) it.leases.entries it.ports.entries
