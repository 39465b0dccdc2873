-- What holds of every lease table and of every state (our own; the limits are those of the server).
use Rattle.std.specs.Prelude.{◌≡◌, ◌+◌, ◌≤◌, true, false, length, count_by}
use Rattle.std.specs.List.{AllByRecursion}
use Rattle.pcp_base.specs.declared.leases.TheConstants.{MOST_LEASES, MOST_PEERS}
use Rattle.pcp_base.specs.declared.leases.Endpoint.{Endpoint}
use Rattle.pcp_base.specs.Tables.{Table, EachTwo, IsMapLease, IsPeerLease, AreApart, HaveOtherKeys, names}
use Rattle.pcp_base.specs.Owners.{owners, OneOwner, OnePort}
use Rattle.pcp_base.specs.Ends.{is_before, is_owned_by}
use Rattle.pcp_base.specs.States.{State}

pub record Sound (t : Table) : Type 0 where
  pub maps : AllByRecursion IsMapLease t.maps
  pub peers : AllByRecursion IsPeerLease t.peers
  pub apart : EachTwo AreApart t.maps
  pub different : EachTwo HaveOtherKeys t.peers
  pub one_owner : OneOwner (owners t)
  pub one_port : OnePort (owners t)
  pub few : length t.maps + length t.peers ≤ MOST_LEASES
  pub few_peers : (e : Endpoint) → count_by (λ l. names l e) t.peers ≤ MOST_PEERS

pub record SoundState (s : State) : Type 0 where
  pub table : Sound s.table
  -- the ends stand in their order, and so differ in protocol or port
  pub ordered : EachTwo (λ a b. is_before a b ≡ true) s.ends
  -- no lease of the table, live or not, owns a port with an end
  pub unowned : AllByRecursion (λ e. is_owned_by (owners s.table) e ≡ false) s.ends
