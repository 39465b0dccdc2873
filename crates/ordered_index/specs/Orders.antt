-- The orders by which leases are found (our own; for proofs alone).
use Rattle.std.specs.Prelude.{◌≡◌, ℕ, List, false, Option, Some, None, IsSome}
use Rattle.std.specs.Ordering.{nat_cmp, ordering_then, is_gt, is_lt}
use Rattle.std.specs.BTreeMap.{BTreeMap, get}
use Rattle.std.specs.declared.cmp.Ordering.{Ordering}
use Rattle.std.specs.Cmp.{IsTotalOrder, nat_cmp_total, on_total, then_total}
use Rattle.std.specs.Cmp.Lexicographic.{slice_cmp, nat_list_cmp_total}
use Rattle.pcp_base.specs.declared.leases.Protocol.{Protocol}
use Rattle.pcp_base.specs.Protocols.{protocol_number}
use Rattle.pcp_base.specs.declared.leases.Endpoint.{Endpoint}

-- an address, a protocol number and a port
abbrev pub Place : Type 0
Place = List ℕ × (ℕ × ℕ)

abbrev pub port_at : Protocol → ℕ → ℕ × ℕ
port_at protocol port = (protocol_number protocol, port)

abbrev pub place_of : Endpoint → Place
place_of e = (e.address.0, port_at e.protocol e.port)

-- by protocol number, then port
abbrev pub port_cmp : ℕ × ℕ → ℕ × ℕ → Ordering
port_cmp a b = ordering_then (nat_cmp a.0 b.0) (nat_cmp a.1 b.1)

-- by address, then protocol number, then port
abbrev pub place_cmp : Place → Place → Ordering
place_cmp a b = ordering_then (slice_cmp nat_cmp a.0 b.0) (port_cmp a.1 b.1)

-- both are total orders
pub port_total : IsTotalOrder port_cmp
port_total = then_total (on_total (λ (p : ℕ × ℕ). p.0) nat_cmp_total)
    (on_total (λ (p : ℕ × ℕ). p.1) nat_cmp_total)

pub place_total : IsTotalOrder place_cmp
place_total = then_total (on_total (λ (p : Place). p.0) nat_list_cmp_total)
    (on_total (λ (p : Place). p.1) port_total)

module _ {K : Type 0} (cmp : K → K → Ordering) where
  -- the number is that of the last key up to this one
  pub record IsLastKey (m : BTreeMap K ℕ) (k : K) (n : ℕ) (last : K) : Type 0 where
    pub found : get cmp m last ≡ Some n
    pub up_to : is_gt (cmp last k) ≡ false
    pub greatest : (q : K) → is_gt (cmp q k) ≡ false → IsSome (get cmp m q)
        → is_lt (cmp last q) ≡ false

  -- the number of the last key up to this one, None where there is none
  abbrev pub IsLast : BTreeMap K ℕ → K → Option ℕ → Type 0
  IsLast m k None = (q : K) → is_gt (cmp q k) ≡ false → get cmp m q ≡ None
  IsLast m k (Some n) = (last : K) × IsLastKey m k n last

  -- this is the first key from another on
  pub record IsFirstKey {V : Type 0} (m : BTreeMap K V) (k first : K) : Type 0 where
    pub found : IsSome (get cmp m first)
    pub from : is_gt (cmp k first) ≡ false
    pub least : (q : K) → is_gt (cmp k q) ≡ false → IsSome (get cmp m q)
        → is_gt (cmp first q) ≡ false

  -- the first key from this one on, None where there is none
  abbrev pub IsFirst : {V : Type 0} → BTreeMap K V → K → Option K → Type 0
  IsFirst m k None = (q : K) → is_gt (cmp k q) ≡ false → get cmp m q ≡ None
  IsFirst m k (Some first) = IsFirstKey m k first
