-- When the calls of a pool may be made, and what they do (our own).
use Rattle.std.specs.Prelude.{◌≡◌, ℕ, ◌+◌, ◌≤◌, Bool, Result, IsOk, OnOk, OnErr}
use Rattle.std.specs.Bool.{OnTrue, OnFalse}
use Rattle.pcp_base.specs.declared.addresses.Address.{Address}
use Rattle.pcp_base.specs.declared.leases.Protocol.{Protocol}
use Rattle.pcp_base.specs.declared.leases.Endpoint.{Endpoint}
use Rattle.external_pool.specs.PortUses.{is_resting}
use Rattle.external_pool.specs.Holdings.{Holdings, use_of, with_use, NoneHeld, AllHeldBy}
use Rattle.external_pool.specs.declared.asks.PickAsk.{PickAsk}
use Rattle.external_pool.specs.declared.uses.Use.TheVariants.{Free, Held, Resting}

-- an ask is for at least one port, and has room for one
pub record IsAsk (ask : PickAsk) : Type 0 where
  pub room : 1 ≤ ask.room
  pub asked : 1 ≤ ask.asked

-- at least one port, all of 1 to 65535
pub record ArePorts (start n : ℕ) : Type 0 where
  pub from : 1 ≤ start
  pub some : 1 ≤ n
  pub end : start + n ≤ 65536

-- ports that nobody holds
pub record MayHold (pool : Holdings) (protocol : Protocol) (start n : ℕ) : Type 0 where
  pub ports : ArePorts start n
  pub none_held : NoneHeld pool protocol start n

-- ports that the address holds
pub record MayRelease (pool : Holdings) (who : Address) (protocol : Protocol) (start n : ℕ)
    : Type 0 where
  pub ports : ArePorts start n
  pub held : AllHeldBy pool who protocol start n

-- the address holds the n ports from start on; where that fails, nothing changes
pub record HoldsPorts {X E : Type 0} (old : Holdings) (who : Address) (protocol : Protocol)
    (start n : ℕ) (result : Result X E) (new : Holdings) : Type 0 where
  pub ok : OnOk result (new ≡ with_use protocol start n (Held who) old)
  pub err : OnErr result (new ≡ old)

-- the port rests for the endpoint; that can't fail
pub record RestsPort {X E : Type 0} (old : Holdings) (external : ℕ) (last : Endpoint)
    (result : Result X E) (new : Holdings) : Type 0 where
  pub ok : IsOk result
  pub rests : new ≡ with_use last.protocol external 1 (Resting last.address last.port) old

-- the n ports rest, the first for the endpoint, and each behind it for the port behind; that can't
-- fail
pub record RestsPorts {X E : Type 0} (old : Holdings) (external : ℕ) (last : Endpoint) (n : ℕ)
    (result : Result X E) (new : Holdings) : Type 0 where
  pub ok : IsOk result
  pub rests : new ≡ with_use last.protocol external n (Resting last.address last.port) old

-- a port that rests does so no longer; where it doesn't rest, nothing changes
pub record WakesPort (old : Holdings) (protocol : Protocol) (external : ℕ) (woke : Bool)
    (new : Holdings) : Type 0 where
  pub answer : woke ≡ is_resting (use_of old protocol external)
  pub woken : OnTrue woke (new ≡ with_use protocol external 1 Free old)
  pub unchanged : OnFalse woke (new ≡ old)
