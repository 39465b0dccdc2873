-- Which leases hold ports, and until when (our own; for proofs alone).
use Rattle.std.specs.Prelude.{◌≡◌, ℕ, ◌+◌, ◌<◌, ◌≤◌, ◌^◌, nat_lt, Bool, true, false, List, Contains, Option, Some, None, IfSome, IfNone, if◌then◌else◌}
use Rattle.std.specs.List.{AllByRecursion}
use Rattle.std.specs.Option.{option_map}
use Rattle.pcp_base.specs.declared.leases.MapLease.{MapLease}
use Rattle.pcp_base.specs.declared.leases.PeerLease.{PeerLease}
use Rattle.pcp_base.specs.declared.leases.Owner.{Owner}
use Rattle.pcp_base.specs.declared.leases.End.{End}
use Rattle.pcp_base.specs.declared.leases.Protocol.{Protocol}
use Rattle.pcp_base.specs.declared.records.Record.{Record}
use Rattle.pcp_base.specs.Tables.{Table, live}
use Rattle.pcp_base.specs.Owners.{owners}
use Rattle.pcp_base.specs.Ends.{end_at, ends_at_expiry, is_end_of}
use Rattle.pcp_base.specs.Sound.{Sound}
use Rattle.pcp_base.specs.Fits.{IsAllowed}
use Rattle.pcp_base.specs.Apply.{table_changed}
use Rattle.mapping_table.specs.MapLists.{map_owning}
use Rattle.peer_table.specs.PeerLists.{IsLastExpiry}
use Rattle.leased_ports.specs.Leased.{Leased, end_of, while_recent}
use Rattle.leased_ports.specs.Recorded.{held_until}
use Rattle.indexed_store.specs.declared.owning.OwnerRun.{OwnerRun}
use Rattle.indexed_store.specs.declared.holding.Hold.{Hold}
use Rattle.indexed_store.specs.declared.holding.Unowned.{Unowned}
use Rattle.indexed_store.specs.declared.holding.Unowned.TheVariants.{Rests, IsFree}
use Rattle.indexed_store.specs.Tabled.{AreTabled}
use Rattle.indexed_store.specs.Runs.{IsOwnerRun, has_port, have_port, owner_along, owner_in}

-- leases, of which those that are live at m are sound together, that expire before the year 70,000
pub record AreNearAt (m : ℕ) (t : Table) : Type 0 where
  pub tabled : AreTabled t
  pub sound : Sound (live t m)
  pub maps : AllByRecursion (λ l. l.expiry < 2 ^ 41) t.maps
  pub peers : AllByRecursion (λ l. l.expiry < 2 ^ 41) t.peers

-- the later of a moment and of another, which may be missing
abbrev pub later_by : ℕ → Option ℕ → ℕ
later_by m None = m
later_by m (Some n) = if nat_lt m n then n else m

-- the later of m and of the expiry of the MAP lease that owns the port
abbrev pub held_by_map : ℕ → List MapLease → Protocol → ℕ → ℕ
held_by_map m maps protocol port =
    later_by m (option_map (λ l. l.expiry) (map_owning protocol port maps))

-- it is the later of a moment and of the last expiry of the PEER leases that own the port
pub record IsHeldOn (from : ℕ) (peers : List PeerLease) (protocol : Protocol) (port until : ℕ)
    : Type 0 where
  pub expiry : Option ℕ
  pub last : IsLastExpiry protocol port peers expiry
  pub is : until ≡ later_by from expiry

-- so many ports of the run, from its first on, are held until the same moment, if MAP leases hold
-- all of them until `from`
pub record IsHold (from : ℕ) (peers : List PeerLease) (r : OwnerRun) (h : Hold) : Type 0 where
  pub some : 1 ≤ h.count
  pub few : h.count ≤ r.count
  pub same : (i : ℕ) → i < h.count →
      IsHeldOn from peers r.first.protocol (r.first.external + i) h.until

-- one MAP lease owns all ports of the run, or none owns any
abbrev pub IsEven : List MapLease → OwnerRun → Type 0
IsEven maps r = (i : ℕ) → i < r.count →
    map_owning r.first.protocol (r.first.external + i) maps
    ≡ map_owning r.first.protocol r.first.external maps

-- ports in a row of which these leases hold all or none
pub record IsEvenRun (maps : List MapLease) (r : OwnerRun) : Type 0 where
  pub formed : IsOwnerRun r
  pub even : IsEven maps r

-- whether a port that leases hold until then has a last end at m
abbrev pub has_end : Unowned → ℕ → ℕ → Bool
has_end Rests m until = true
has_end IsFree m until = nat_lt m until

-- the last end of an owner's port that leases hold until then
abbrev pub end_held : Unowned → ℕ → ℕ → Owner → Option End
end_held unowned m until o = if has_end unowned m until then Some (end_at until o) else None

-- the ports of the run have the last ends by which the leases hold them, and no other changes
abbrev pub Holds : Unowned → ℕ → Table → OwnerRun → Leased → Leased → Type 0
Holds unowned m t r old new = (protocol : Protocol) (port : ℕ) → end_of new protocol port
    ≡ (if has_port protocol port r
    then end_held unowned m (held_until m t protocol port) (owner_in r port)
    else end_of old protocol port)

-- the same of one run, if there is one
abbrev pub HoldsIf : Unowned → ℕ → Table → Option OwnerRun → Leased → Leased → Type 0
HoldsIf unowned m t None old new = (protocol : Protocol) (port : ℕ) →
    end_of new protocol port ≡ end_of old protocol port
HoldsIf unowned m t (Some r) old new = Holds unowned m t r old new

-- all leases are live at m: what they leave comes later
abbrev pub AreLiveAt : ℕ → Table → Type 0
AreLiveAt m t = (e : End) → Contains (ends_at_expiry t) e → m < e.end

-- leases that allow the record's change, and are all live at its moment, before the change and after
pub record AreReadyFor (r : Record) (t : Table) : Type 0 where
  pub allowed : IsAllowed t r.change
  pub before : AreNearAt r.moment t
  pub live_before : t ≡ live t r.moment
  pub after : AreNearAt r.moment (table_changed r.change t)
  pub sound_after : Sound (table_changed r.change t)
  pub live_after : AreLiveAt r.moment (table_changed r.change t)

-- the latest of the ends that the leases leave of the port; None where they leave none
pub record IsHeldEnd (t : Table) (protocol : Protocol) (port : ℕ) (last : Option End) : Type 0 where
  pub there : IfSome last (λ e. Contains (ends_at_expiry t) e)
  pub own : IfSome last (λ e. is_end_of protocol port e ≡ true)
  pub latest : IfSome last (λ e. (f : End) → Contains (ends_at_expiry t) f →
      is_end_of protocol port f ≡ true → f.end ≤ e.end)
  pub none : IfNone last ((f : End) → Contains (ends_at_expiry t) f →
      is_end_of protocol port f ≡ false)

-- ports in a row of which the leases hold all or none, and for no other endpoints
pub record IsAgreed (t : Table) (r : OwnerRun) : Type 0 where
  pub even : IsEvenRun t.maps r
  pub agreed : (i : ℕ) → i < r.count → (o : Owner) → Contains (owners t) o →
      o.protocol ≡ r.first.protocol → o.external ≡ r.first.external + i →
      o.endpoint ≡ (owner_along i r.first).endpoint

-- the ports of the runs have the last ends of the leases, and no other changes
pub record AreHeld (t : Table) (runs : List OwnerRun) (old new : Leased) : Type 0 where
  pub held : (protocol : Protocol) (port : ℕ) → have_port protocol port runs ≡ true →
      IsHeldEnd t protocol port (end_of new protocol port)
  pub others : (protocol : Protocol) (port : ℕ) → have_port protocol port runs ≡ false →
      end_of new protocol port ≡ end_of old protocol port

-- each port has the last end of the leases, where it is recent at m
abbrev pub AreEndsOf : ℕ → Table → Leased → Type 0
AreEndsOf m t v = (protocol : Protocol) (port : ℕ) →
    IsHeldEnd t protocol port (while_recent m (end_of v protocol port))
