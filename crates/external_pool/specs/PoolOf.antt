-- The pool of a state: what live leases own is held, and what rests in the state is at rest (our
-- own).
use Rattle.std.specs.Prelude.{◌≡◌, ℕ, List, filter}
use Rattle.pcp_base.specs.declared.addresses.Address.{Address}
use Rattle.pcp_base.specs.declared.leases.Protocol.{Protocol}
use Rattle.pcp_base.specs.declared.leases.Owner.{Owner}
use Rattle.pcp_base.specs.Tables.{Table, live, same_address}
use Rattle.pcp_base.specs.Owners.{owners, is_owned}
use Rattle.pcp_base.specs.Ends.{rests_for}
use Rattle.pcp_base.specs.States.{State}
use Rattle.external_pool.specs.PortUses.{is_held_by, is_resting_for}
use Rattle.external_pool.specs.Holdings.{Holdings, use_of}

-- the owned ports of an address
abbrev pub owners_at : Address → Table → List Owner
owners_at who t = filter (λ o. same_address o.endpoint.address who) (owners t)

pub record IsPoolOf (pool : Holdings) (s : State) (m : ℕ) : Type 0 where
  -- an address holds exactly the ports that its live leases own
  pub held : (who : Address) (protocol : Protocol) (port : ℕ) →
      is_held_by who (use_of pool protocol port)
      ≡ is_owned protocol port (owners_at who (live s.table m))
  -- a port is at rest for exactly the endpoint for which it rests in the state
  pub rests : (who : Address) (internal : ℕ) (protocol : Protocol) (port : ℕ) →
      is_resting_for who internal (use_of pool protocol port)
      ≡ rests_for s m port (record { address = who; protocol = protocol; port = internal })
