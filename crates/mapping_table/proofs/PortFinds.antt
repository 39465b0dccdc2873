-- What is found in the slots of ports.
use Rattle.std.proofs.Common.{◌≡◌, ℕ, Option, Some, None, refl, sym, ap, ◌∙◌, subst}
use Rattle.std.specs.Ordering.{nat_cmp}
use Rattle.std.specs.BTreeMap.{BTreeMap, get}
use Rattle.pcp_base.specs.declared.leases.MapLease.{MapLease}
use Rattle.ordered_index.specs.declared.numbered.Numbered.{Numbered}
use Rattle.ordered_index.specs.Orders.{Place, port_cmp, IsLast}
use Rattle.ordered_index.specs.PortSlots.{slot_of, IsLastSlot}
use Rattle.ordered_index.proofs.Keeping.{port-from}
use Rattle.ordered_index.proofs.PortLemmas.{some_slot}
use Rattle.mapping_table.specs.Kept.{map_keying, AreKeptMaps, IsInSlot}
use Rattle.mapping_table.proofs.MapKeeping.{map_laws}

pub no_number : (o : Option ℕ) → None ≡ slot_of o → o ≡ None
no_number None h = refl
no_number (Some n) h = absurd (let no : None ≡ slot_of (Some n) = h in cc)

pub no_last_number : (map : BTreeMap (ℕ × ℕ) ℕ) (p : ℕ × ℕ) → IsLastSlot map p None → IsLast port_cmp map p None
no_last_number map p h = subst (IsLast port_cmp map p) (no_number h.number h.named) h.last

-- what stands in the slot of a number is its lease
module _ (it : Numbered MapLease Place (ℕ × ℕ)) (h : AreKeptMaps it) (p : ℕ × ℕ) (slot : ℕ) (r : Option MapLease) (found : IsInSlot it slot r) where
  by_number : (q : ℕ × ℕ) (n : ℕ) → get port_cmp it.ports q ≡ Some n → Some slot ≡ slot_of (Some n) → r ≡ get nat_cmp it.leases n
  by_number q n number is = let from = port-from map_keying map_laws it h.kept q n number in found n from.0 from.1 is ∙ sym from.1

  pub slot_found : Some slot ≡ slot_of (get port_cmp it.ports p) → (n : ℕ) × (get port_cmp it.ports p ≡ Some n) × (r ≡ get nat_cmp it.leases n)
  slot_found is = let s = some_slot (get port_cmp it.ports p) slot is in (s.0, s.1, by_number p s.0 s.1 (is ∙ ap slot_of s.1))

  last_cases : (number : Option ℕ) → IsLast port_cmp it.ports p number → Some slot ≡ slot_of number → (n : ℕ) × IsLast port_cmp it.ports p (Some n) × (r ≡ get nat_cmp it.leases n)
  last_cases None last is = absurd (let no : Some slot ≡ None = is in cc)
  last_cases (Some n) last is = (n, last, by_number last.0 n last.1.found is)

  pub last_found : IsLastSlot it.ports p (Some slot) → (n : ℕ) × IsLast port_cmp it.ports p (Some n) × (r ≡ get nat_cmp it.leases n)
  last_found last = last_cases last.number last.last last.named
