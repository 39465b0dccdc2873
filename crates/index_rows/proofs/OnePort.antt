-- The ports of a new pool.
use Rattle.std.proofs.Common.{◌≡◌, ℕ, refl, sym, ap, ◌∙◌, subst}
use Rattle.pcp_base.specs.declared.leases.Protocol.{Protocol}
use Rattle.pcp_base.specs.declared.leases.Protocol.TheVariants.{Tcp, Udp}
use Rattle.external_pool.specs.declared.uses.Use.TheVariants.{Free}
use Rattle.external_pool.specs.Holdings.{Holdings, IsWhole, use_of, fresh_pool}
use Rattle.external_pool.specs.Calls.{ArePorts, MayHold}
use Rattle.external_pool.proofs.Painted.{use_at-all_free}
use Rattle.external_pool.proofs.Counted.{fresh-whole, none_held_at}

module _ (low high quota : ℕ) (pool : Holdings) (new : pool ≡ fresh_pool low high quota) where
  pub new-whole : IsWhole pool
  new-whole = subst IsWhole (sym new) (fresh-whole low high quota)

  free_at : (protocol : Protocol) (port : ℕ) → use_of (fresh_pool low high quota) protocol port ≡ Free
  free_at Tcp port = use_at-all_free 65536 port
  free_at Udp port = use_at-all_free 65536 port

  pub new-free : (protocol : Protocol) (port : ℕ) → use_of pool protocol port ≡ Free
  new-free protocol port = ap (λ (p : Holdings). use_of p protocol port) new ∙ free_at protocol port

  pub new-may_hold : (protocol : Protocol) (port : ℕ) → ArePorts port 1 → MayHold pool protocol port 1
  new-may_hold protocol port ports = record {
    ports = ports;
    none_held = none_held_at pool protocol port Free (new-free protocol port) refl;
  }
