-- What a pool has: who holds which ports, and for whom others rest (our own).
use Rattle.std.specs.Prelude.{◌≡◌, ℕ, ◌+◌, ◌<◌, ◌≤◌, count_by, length, true, false}
use Rattle.pcp_base.specs.declared.addresses.Address.{Address}
use Rattle.pcp_base.specs.declared.leases.Protocol.{Protocol}
use Rattle.pcp_base.specs.declared.leases.Protocol.TheVariants.{Tcp, Udp}
use Rattle.external_pool.specs.PortUses.{PortUses, uses_over, all_free, use_at, is_held, is_held_by, is_resting, with_uses}
use Rattle.external_pool.specs.declared.uses.Use.{Use}
use Rattle.external_pool.specs.declared.uses.Use.TheVariants.{Free, Held}

pub record Holdings : Type 0 where
  pub quota : ℕ
  pub tcp : PortUses
  pub udp : PortUses

-- both protocols have a use for each port number of 16 bits
pub record IsWhole (pool : Holdings) : Type 0 where
  pub tcp : length pool.tcp.each ≡ 65536
  pub udp : length pool.udp.each ≡ 65536

abbrev pub uses_of : Holdings → Protocol → PortUses
uses_of pool Tcp = pool.tcp
uses_of pool Udp = pool.udp

abbrev pub use_of : Holdings → Protocol → ℕ → Use
use_of pool protocol port = use_at (uses_of pool protocol).each port

-- how many ports the address holds, of both protocols, those outside the range too
abbrev pub ports_held : Holdings → Address → ℕ
ports_held pool who =
    count_by (is_held_by who) pool.tcp.each + count_by (is_held_by who) pool.udp.each

-- no port is held, and none rests
abbrev pub fresh_pool : ℕ → ℕ → ℕ → Holdings
fresh_pool low high quota = record {
  quota = quota;
  tcp = uses_over low high (all_free 65536);
  udp = uses_over low high (all_free 65536);
}

-- no port is held, and none rests; the quota and the range stay
abbrev pub emptied : Holdings → Holdings
emptied pool = record {
  quota = pool.quota;
  tcp = uses_over pool.tcp.low pool.tcp.high (all_free 65536);
  udp = uses_over pool.udp.low pool.udp.high (all_free 65536);
}

-- of the n ports from start on the first has this use and those behind it the uses along it, and
-- nothing else changes
abbrev pub with_use : Protocol → ℕ → ℕ → Use → Holdings → Holdings
with_use Tcp start n value pool = record pool { tcp = with_uses start n value pool.tcp }
with_use Udp start n value pool = record pool { udp = with_uses start n value pool.udp }

abbrev pub NoneHeld : Holdings → Protocol → ℕ → ℕ → Type 0
NoneHeld pool protocol start n =
    (port : ℕ) → start ≤ port → port < start + n → is_held (use_of pool protocol port) ≡ false

abbrev pub AllHeldBy : Holdings → Address → Protocol → ℕ → ℕ → Type 0
AllHeldBy pool who protocol start n =
    (port : ℕ) → start ≤ port → port < start + n → use_of pool protocol port ≡ Held who

abbrev pub AllFree : Holdings → Protocol → ℕ → ℕ → Type 0
AllFree pool protocol start n =
    (port : ℕ) → start ≤ port → port < start + n → use_of pool protocol port ≡ Free

abbrev pub AllRest : Holdings → Protocol → ℕ → ℕ → Type 0
AllRest pool protocol start n =
    (port : ℕ) → start ≤ port → port < start + n → is_resting (use_of pool protocol port) ≡ true

abbrev pub pool_of : ℕ → PortUses → PortUses → Holdings
pool_of quota tcp udp = record { quota = quota; tcp = tcp; udp = udp }
