-- What the calls of numbered leases do to their maps (our own).
use Rattle.std.specs.Prelude.{◌≡◌, ℕ, ◌+◌, ◌<◌, ◌≤◌}
use Rattle.std.specs.declared.cmp.Ordering.{Ordering}
use Rattle.std.specs.Ordering.{nat_cmp}
use Rattle.ordered_index.specs.declared.numbered.Numbered.{Numbered}
use Rattle.ordered_index.specs.declared.slots.TheConstants.{MOST_SLOTS}
use Rattle.ordered_index.specs.MapSteps.{IsBlankMap, Inserts, Overwrites, Removes, Moves}

module _ {L K P : Type 0} (key_cmp : K → K → Ordering) (port_cmp : P → P → Ordering) where
  -- no lease
  pub record IsBlank (it : Numbered L K P) : Type 0 where
    pub next : it.next ≡ 0
    pub leases : IsBlankMap nat_cmp it.leases
    pub keys : IsBlankMap key_cmp it.keys
    pub ports : IsBlankMap port_cmp it.ports

  -- a lease with a number above all before, which stands under its key and port
  pub record Appends (old new : Numbered L K P) (lease : L) (key : K) (port : P) (number : ℕ)
      : Type 0 where
    pub from : old.next ≤ number
    pub below : number < new.next
    pub next : new.next ≡ old.next + MOST_SLOTS
    pub leases : Inserts nat_cmp old.leases new.leases number lease
    pub keys : Inserts key_cmp old.keys new.keys key number
    pub ports : Inserts port_cmp old.ports new.ports port number

  -- a number less
  pub record Forgets (old new : Numbered L K P) (number : ℕ) (key : K) (port : P) : Type 0 where
    pub next : new.next ≡ old.next
    pub leases : Removes nat_cmp old.leases new.leases number
    pub keys : Removes key_cmp old.keys new.keys key
    pub ports : Removes port_cmp old.ports new.ports port

-- another lease at a number, with its key, and with another port
pub record Replaces {L K P : Type 0} (port_cmp : P → P → Ordering) (old new : Numbered L K P)
    (number : ℕ) (lease : L) (from to : P) : Type 0 where
  pub next : new.next ≡ old.next
  pub leases : Overwrites nat_cmp old.leases new.leases number lease
  pub keys : new.keys ≡ old.keys
  pub ports : Moves port_cmp old.ports new.ports from to number

-- the entries of all maps stay
pub record Stays {L K P : Type 0} (old new : Numbered L K P) : Type 0 where
  pub next : new.next ≡ old.next
  pub leases : new.leases.entries ≡ old.leases.entries
  pub keys : new.keys.entries ≡ old.keys.entries
  pub ports : new.ports.entries ≡ old.ports.entries
