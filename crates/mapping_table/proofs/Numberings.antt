-- What calls do to the numbers of leases.
use Rattle.std.proofs.Common.{◌≡◌, ◌<◌, ℕ, Bool, true, false, cond, List, Option, Some, None, sym, ap, ◌∙◌, subst, arith}
use Rattle.std.specs.Ordering.{nat_cmp}
use Rattle.std.specs.Map.{lookup}
use Rattle.std.specs.BTreeMap.{BTreeMap, get, is_at}
use Rattle.pcp_base.specs.declared.leases.MapLease.{MapLease}
use Rattle.ordered_index.specs.declared.numbered.Numbered.{Numbered}
use Rattle.ordered_index.specs.Orders.{Place, place_cmp, port_cmp}
use Rattle.ordered_index.specs.MapSteps.{Removes}
use Rattle.ordered_index.specs.Steps.{Appends, Replaces, Stays}
use Rattle.ordered_index.proofs.Entries.{number_other}
use Rattle.pcp_base.specs.declared.leases.Endpoint.{Endpoint}
use Rattle.pcp_base.specs.Tables.{first_endpoint}
use Rattle.ordered_index.specs.Orders.{place_of}
use Rattle.ordered_index.proofs.EntryLaws.{none_some, some_one}
use Rattle.ordered_index.proofs.Keeping.{key-to, key-from}
use Rattle.ordered_index.proofs.OrderLaws.{place_of-one}
use Rattle.mapping_table.specs.Kept.{BareLeases, KeepsNumbers, AreKeptMaps, leases_in, place_of_lease, map_keying}
use Rattle.mapping_table.proofs.MapKeeping.{map_laws}

module _ (it new : Numbered MapLease Place (ℕ × ℕ)) where
  -- where nothing changes
  pub numbers_stay : Stays it new → KeepsNumbers it new
  numbers_stay h = record {
    next = (let same = h.next in omega (arith, same));
    fresh = λ n below free. ap (λ (es : List (ℕ × MapLease)). lookup (is_at (nat_cmp n)) es) h.leases ∙ free;
  }

  -- where a lease is appended
  pub numbers_appended : (l : MapLease) (k : Place) (p : ℕ × ℕ) (n : ℕ) → Appends place_cmp port_cmp it new l k p n → KeepsNumbers it new
  numbers_appended l k p n h = record {
    next = (let more = h.next in omega (arith, more));
    fresh = λ m below free.
        let other : is_at (nat_cmp n) m ≡ false = number_other n m (λ same. let from = h.from in absurd (omega (arith, same, from, below))) in
        h.leases.changed m ∙ ap (λ b. cond b (Some l) (get nat_cmp it.leases m)) other ∙ free;
  }

  -- where a lease is replaced
  pub numbers_replaced : (n : ℕ) (l x : MapLease) (from to : ℕ × ℕ) → get nat_cmp it.leases n ≡ Some x → Replaces port_cmp it new n l from to → KeepsNumbers it new
  numbers_replaced n l x from to at_n h = record {
    next = (let same = h.next in omega (arith, same));
    fresh = λ m below free.
        let other : is_at (nat_cmp n) m ≡ false = number_other n m (λ same. none_some (get nat_cmp it.leases m) x free (ap (get nat_cmp it.leases) (sym same) ∙ at_n)) in
        h.leases.changed m ∙ ap (λ b. cond b (Some l) (get nat_cmp it.leases m)) other ∙ free;
  }

-- where a lease is taken out
removed_step : (b : Bool) (l o : Option MapLease) → l ≡ cond b None o → o ≡ None → l ≡ None
removed_step true l o is free = is
removed_step false l o is free = is ∙ free

pub numbers_removed : (old new : BTreeMap ℕ MapLease) (n : ℕ) → Removes nat_cmp old new n → (m : ℕ) → get nat_cmp old m ≡ None → get nat_cmp new m ≡ None
numbers_removed old new n h m free = removed_step (is_at (nat_cmp n) m) (get nat_cmp new m) (get nat_cmp old m) (h.changed m) free

-- of a map that is seen as the same
pub removes_seen : (old new : BTreeMap ℕ MapLease) (it : BareLeases) (next next' n : ℕ) → Removes nat_cmp old new n → (record { next = next; entries = old.entries }) ≡ it →
    Removes nat_cmp (leases_in it) (leases_in (record { next = next'; entries = new.entries })) n
removes_seen old new it next next' n h seen = subst (λ (t : BareLeases). Removes nat_cmp (leases_in t) (leases_in (record { next = next'; entries = new.entries })) n) seen
    (record { entries = h.entries; changed = h.changed; ordered = h.ordered })

module _ (it : Numbered MapLease Place (ℕ × ℕ)) (kept : AreKeptMaps it) (n : ℕ) (x : MapLease) (at_n : get nat_cmp it.leases n ≡ Some x) where
  -- the number of a lease stands under its place
  pub number_under : (k : Place) → k ≡ place_of_lease x → get place_cmp it.keys k ≡ Some n
  number_under k k_is = ap (get place_cmp it.keys) k_is ∙ key-to map_keying map_laws it kept.kept n x at_n

  -- the lease whose number stands under the place of an endpoint begins there
  pub begins_at : (e : Endpoint) (k : Place) → k ≡ place_of e → get place_cmp it.keys k ≡ Some n → first_endpoint x ≡ e
  begins_at e k k_is number =
      let y = key-from map_keying map_laws it kept.kept k n number in
      place_of-one (first_endpoint x) e (ap place_of_lease (some_one (get nat_cmp it.leases n) x y.0 at_n y.1) ∙ y.2 ∙ k_is)
