-- How many ports each address holds, as it is kept (our own).
use Rattle.std.specs.Prelude.{◌≡◌, ℕ, ◌+◌, ◌≤◌, ◌⊎◌, ◌==◌, Bool, bytes_eq, if◌then◌else◌, List, length, replicate, slice_index_or, slice_set, unwrap_or}
use Rattle.std.specs.Ordering.{nat_cmp}
use Rattle.std.specs.Cmp.Lexicographic.{slice_cmp}
use Rattle.std.specs.BTreeMap.{is_at}
use Rattle.std.specs.Map.{lookup}
use Rattle.pcp_base.specs.declared.addresses.Address.{Address}
use Rattle.external_pool.specs.HostSlots.{slot_of}
use Rattle.external_pool.specs.declared.hosts.TheConstants.{SLOTS}
use Rattle.external_pool.specs.declared.host_counts.HostSlot.{HostSlot}

-- what is counted in slots, and what beside them
pub record HeldCounts : Type 0 where
  pub slots : List HostSlot
  pub others : List (List ℕ × ℕ)

abbrev pub held_counts : List HostSlot → List (List ℕ × ℕ) → HeldCounts
held_counts slots others = record { slots = slots; others = others }

-- a slot in which nothing is counted
abbrev pub free_slot : HostSlot
free_slot = record { host = replicate 16 0; count = 0 }

unfoldable pub free_slots : ℕ → List HostSlot
free_slots count = replicate count free_slot

-- the slot that a host has
abbrev pub slot_at : List HostSlot → List ℕ → HostSlot
slot_at slots host = slice_index_or slots (slot_of host) free_slot

-- how many ports of a host are counted in its slot, which may count those of another
abbrev pub in_slot : List HostSlot → List ℕ → ℕ
in_slot slots host =
    if bytes_eq (slot_at slots host).host host then (slot_at slots host).count else 0

-- so many ports of a host are counted in its slot, and none of another
abbrev pub with_slot : List HostSlot → List ℕ → ℕ → List HostSlot
with_slot slots host count =
    slice_set slots (slot_of host) (record { host = host; count = count })

-- how many are counted beside the slots
abbrev pub in_others : List (List ℕ × ℕ) → List ℕ → ℕ
in_others others host = unwrap_or (lookup (is_at (slice_cmp nat_cmp host)) others) 0

-- how many ports the address holds
abbrev pub held_by : HeldCounts → Address → ℕ
held_by counts who = in_slot counts.slots who.0 + in_others counts.others who.0

-- whether a host is counted in its slot: where that is free, it is if nothing is counted elsewhere
abbrev pub is_in_slot : List HostSlot → List (List ℕ × ℕ) → List ℕ → Bool
is_in_slot slots others host =
    if (slot_at slots host).count == 0 then in_others others host == 0
    else bytes_eq (slot_at slots host).host host

-- there is each slot, and no host is counted both in its slot and beside the slots
pub record AreApart (slots : List HostSlot) (others : List (List ℕ × ℕ)) : Type 0 where
  pub all : length slots ≡ SLOTS
  pub apart : (host : List ℕ) → (in_slot slots host ≡ 0) ⊎ (in_others others host ≡ 0)

-- beside that, nobody holds more than the most
pub record AreKept (slots : List HostSlot) (others : List (List ℕ × ℕ)) (most : ℕ) : Type 0 where
  pub places : AreApart slots others
  pub bound : (who : Address) → held_by (held_counts slots others) who ≤ most
