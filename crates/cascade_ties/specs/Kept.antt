-- How a table keeps its ties (our own; for proofs alone).
use Rattle.std.specs.Prelude.{◌≡◌, ℕ, ◌<◌, ◌≤◌, ◌/◌, ◌%◌, ◌==◌, List, Option, Some, None, replicate, if◌then◌else◌}
use Rattle.std.specs.List.{AllByRecursion}
use Rattle.std.specs.BTreeMap.{values}
use Rattle.std.specs.FinMap.{FinMap, contains_key, get, insert}
use Rattle.std.specs.Ordering.{nat_cmp}
use Rattle.pcp_base.specs.declared.addresses.Address.{Address}
use Rattle.pcp_base.specs.declared.leases.Protocol.{Protocol}
use Rattle.pcp_base.specs.declared.leases.Protocol.TheVariants.{Tcp, Udp}
use Rattle.external_pool.specs.declared.uses.Use.{Use}
use Rattle.external_pool.specs.declared.uses.Use.TheVariants.{Free, Held, Resting}
use Rattle.external_pool.specs.HeldCounts.{HeldCounts, held_by}
use Rattle.external_pool.specs.Holdings.{Holdings, IsWhole, use_of, ports_held, with_use}
use Rattle.ordered_index.specs.declared.numbered.Numbered.{Numbered}
use Rattle.ordered_index.specs.Kept.{Keying, IsKept}
use Rattle.ordered_index.specs.Orders.{Place, place_of, port_at, place_cmp, port_cmp}
use Rattle.cascade_ties.specs.declared.ties.Tied.{Tied}
use Rattle.cascade_ties.specs.Ties.{Ties, TiesDiffer, spot, ties_held, tie_at}

abbrev pub place_of_tie : Tied → Place
place_of_tie t = place_of t.tie.client

abbrev pub port_of_tie : Tied → ℕ × ℕ
port_of_tie t = port_at t.tie.client.protocol t.tie.local

-- a tie is looked up by its client's endpoint, and by its protocol and local port
abbrev pub tie_keying : Keying Tied Place (ℕ × ℕ)
tie_keying = record {
  key = place_of_tie;
  port = port_of_tie;
  key_cmp = place_cmp;
  port_cmp = port_cmp;
}

pub record HasLocal (t : Tied) : Type 0 where
  pub from : 1 ≤ t.tie.local
  pub to : t.tie.local ≤ 65535

-- ties that differ, in the order of their numbers, with their maps
pub record AreKeptTies (it : Numbered Tied Place (ℕ × ℕ)) : Type 0 where
  pub differ : TiesDiffer (values it.leases)
  pub locals : AllByRecursion HasLocal (values it.leases)
  pub kept : IsKept tie_keying it

-- the use of a port that rests, to which no endpoint may go back
abbrev pub at_rest : Use
at_rest = Resting (record { 0 = replicate 16 0 }) 0

-- what a port is used for, by the tie to it, and by until when it rests
abbrev pub use_by : Option Tied → Option ℕ → Use
use_by None None = Free
use_by None (Some until) = at_rest
use_by (Some t) rest = Held t.tie.client.address

-- the pool after the hold of a port ended, which then rests, if it is to
abbrev pub left_use : Protocol → ℕ → Option ℕ → Holdings → Holdings
left_use protocol port None pool = with_use protocol port 1 Free pool
left_use protocol port (Some until) pool =
    with_use protocol port 1 at_rest (with_use protocol port 1 Free pool)

-- the protocol and the port whose rest stands at a spot
abbrev pub protocol_at : ℕ → Protocol
protocol_at at = if at % 2 == 0 then Tcp else Udp

abbrev pub port_of_spot : ℕ → ℕ
port_of_spot at = at / 2

-- the rests with room for one more
abbrev pub reserved : FinMap nat_cmp ℕ → ℕ → ℕ → FinMap nat_cmp ℕ
reserved rests at until = if contains_key rests at then rests else insert rests at until

-- until when each port rests
abbrev pub rest_in : FinMap nat_cmp ℕ → Protocol → ℕ → Option ℕ
rest_in rests protocol port = get rests (spot protocol port)

-- the pool of these ties: each address holds the local ports of its ties, and others rest; its quota
-- is never reached
pub record IsTiePool (pool : Holdings) (rest : Protocol → ℕ → Option ℕ) (ts : List Tied) : Type 0
  where
    pub quota : pool.quota ≡ 4294967295
    pub low : pool.udp.low ≡ pool.tcp.low
    pub high : pool.udp.high ≡ pool.tcp.high
    pub some : 1 ≤ pool.tcp.low
    pub top : pool.tcp.high ≤ 65535
    pub whole : IsWhole pool
    pub uses : (protocol : Protocol) (port : ℕ) →
        use_of pool protocol port ≡ use_by (tie_at protocol port ts) (rest protocol port)
    pub counts : (who : Address) → ports_held pool who ≡ ties_held who ts

-- how many ties each address has
abbrev pub AreCounted : HeldCounts → List Tied → Type 0
AreCounted counts ts = (who : Address) → held_by counts who ≡ ties_held who ts

-- what a table is seen as
abbrev pub ties_of : Holdings → FinMap nat_cmp ℕ → List Tied → Ties
ties_of pool rests ts =
    record { low = pool.tcp.low; high = pool.tcp.high; each = ts; rests = rests }

-- the spots of ports of 16 bits
abbrev pub AreSpots : FinMap nat_cmp ℕ → Type 0
AreSpots rests = (at until : ℕ) → get rests at ≡ Some until → at < 131072

pub record IsTieTable (it : Numbered Tied Place (ℕ × ℕ)) (holdings : Holdings)
    (rests : FinMap nat_cmp ℕ) : Type 0 where
  pub ties : AreKeptTies it
  pub pool : IsTiePool holdings (rest_in rests) (values it.leases)
  pub spots : AreSpots rests
