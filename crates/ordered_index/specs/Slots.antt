-- How leases stand in slots (our own; for proofs alone).
use Rattle.std.specs.Prelude.{◌≡◌, ℕ, zero, suc, ◌+◌, ◌%◌, ◌==◌, Bool, false, List, [], ◌∷◌, count_by, Option, Some, None, is_some, IfSome, if◌then◌else◌, ⊤}
use Rattle.std.specs.Ordering.{nat_cmp}
use Rattle.std.specs.BTreeMap.{BTreeMap, IsOrdered, get, values}
use Rattle.std_collections.specs.Layout.BTreeMap.{btree_map}
use Rattle.slab.specs.Slab as slab
use Rattle.ordered_index.specs.declared.slots.TheConstants.{MOST_SLOTS, BLOCKS}
use Rattle.expiry_wheel.specs.declared.TheConstants.{NEVER}
use Rattle.expiry_wheel.specs.Blocks.{AreLeasts}
use mathlib.Core.Logic.{inl}

-- these entries as an ordered map
abbrev pub order_of : List (ℕ × ⊤) → BTreeMap ℕ ⊤
order_of numbers = btree_map numbers (inl tt)

-- their numbers are in order
abbrev pub AreOrdered : List (ℕ × ⊤) → Type 0
AreOrdered numbers = IsOrdered nat_cmp (order_of numbers)

module _ {L : Type 0} where
  -- the number of what a slab tells of a slot
  abbrev pub number_of : ℕ × (ℕ × L) → ℕ
  number_of entry = entry.1.0

  -- the lease of a slot, if that has this number
  abbrev pub lease_of : ℕ → Option (ℕ × L) → Option L
  lease_of n None = None
  lease_of n (Some e) = if e.0 == n then Some e.1 else None

  -- the lease with a number, which stands in the slot that the number names
  abbrev pub lease_at : slab.Slab (ℕ × L) → ℕ → Option L
  lease_at slots n = lease_of n (slab.get slots (n % MOST_SLOTS))

  -- a number and its lease, before others
  abbrev pub with_lease : ℕ → Option L → List (ℕ × L) → List (ℕ × L)
  with_lease n None rest = rest
  with_lease n (Some l) rest = (n, l) ∷ rest

  -- the numbers, each with its lease
  abbrev pub entries_of : (ℕ → Option L) → List (ℕ × ⊤) → List (ℕ × L)
  entries_of lease [] = []
  entries_of lease (e ∷ es) = with_lease e.0 (lease e.0) (entries_of lease es)

  -- the numbers in order, and a lease for each of them and for no other, which stands in the slot
  -- that its number names
  pub record AreSlots (slots : slab.Slab (ℕ × L)) (order : BTreeMap ℕ ⊤) : Type 0 where
    pub ordered : IsOrdered nat_cmp order
    pub listed : (n : ℕ) → is_some (lease_at slots n) ≡ is_some (get nat_cmp order n)
    pub named : (slot : ℕ) → IfSome (slab.get slots slot) (λ e. e.0 % MOST_SLOTS ≡ slot)

  -- the expiry of what stands in a slot, NEVER where nothing does
  abbrev pub moment_of : (L → ℕ) → Option (ℕ × L) → ℕ
  moment_of expiry None = NEVER
  moment_of expiry (Some e) = expiry e.1

  abbrev pub moment_at : (L → ℕ) → slab.Slab (ℕ × L) → ℕ → ℕ
  moment_at expiry slots slot = moment_of expiry (slab.get slots slot)

  -- whether a lease stands there that passes the test
  abbrev pub holds : (L → Bool) → Option (ℕ × L) → Bool
  holds test None = false
  holds test (Some e) = test e.1

  -- in how many of the slots below one
  unfoldable pub held_below : (L → Bool) → slab.Slab (ℕ × L) → ℕ → ℕ
  held_below test slots zero = 0
  held_below test slots (suc n) =
      held_below test slots n + (if holds test (slab.get slots n) then 1 else 0)

  -- what they are seen as
  abbrev pub leases_of : slab.Slab (ℕ × L) → BTreeMap ℕ ⊤ → BTreeMap ℕ L
  leases_of slots order = btree_map (entries_of (lease_at slots) order.entries) (inl tt)

  -- the leases in their slots, of which as many pass a test as leases do, and the least expiry of
  -- each block of them
  pub record AreDueSlots (expiry : L → ℕ) (slots : slab.Slab (ℕ × L)) (order : BTreeMap ℕ ⊤)
      (leasts : List ℕ) : Type 0 where
    pub are : AreSlots slots order
    pub counted : (test : L → Bool)
        → held_below test slots MOST_SLOTS ≡ count_by test (values (leases_of slots order))
    pub due : AreLeasts BLOCKS (moment_at expiry slots) leasts
