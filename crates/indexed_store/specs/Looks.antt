-- How many steps calls take at most (our own).
use Rattle.std.specs.Prelude.{ℕ, ◌≤◌, ◌+◌, ◌*◌, ◌==◌, ◌&&◌, nat_lt, not, count_by, Bool, true, false, Option, Some, None, List, if◌then◌else◌}
use Rattle.std.specs.List.{list_any}
use Rattle.std.proofs.Common.{arith}
use Rattle.step_count.specs.Levels.{levels}
use Rattle.pcp_base.specs.declared.addresses.Address.{Address}
use Rattle.pcp_base.specs.declared.leases.TheConstants.{MOST_LEASES}
use Rattle.pcp_base.specs.declared.leases.End.{End}
use Rattle.pcp_base.specs.declared.leases.PeerLease.{PeerLease}
use Rattle.pcp_base.specs.declared.records.Change.{Change}
use Rattle.pcp_base.specs.declared.records.Change.TheVariants.{Map, Peer}
use Rattle.pcp_base.specs.declared.records.Record.{Record}
use Rattle.pcp_base.specs.Tables.{Table, live, same_endpoint}
use Rattle.pcp_base.specs.States.{State}
use Rattle.mapping_table.specs.MapLists.{overlaps as overlaps_map}
use Rattle.peer_table.specs.PeerLists.{overlaps as overlaps_peer, is_ended_of}
use Rattle.port_spans.specs.declared.runs.Run.{Run}
use Rattle.port_spans.specs.Runs.{run_at}
use Rattle.port_spans.specs.Along.{spot}
use Rattle.leased_ports.specs.declared.falls.TheConstants.{MOST_RUNS, RUN_STEPS}
use Rattle.leased_ports.specs.declared.picks.TheConstants.{DUE_STEPS}
use Rattle.leased_ports.specs.declared.plain.TheConstants.{PLAIN_STEPS}
use Rattle.leased_ports.specs.declared.ports.TheConstants.{PICK_STEPS}
use Rattle.leased_ports.specs.declared.steps.TheConstants.{PUT_STEPS, TAKEN_STEPS}
use Rattle.leased_ports.specs.Among.{runs_among}
use Rattle.leased_ports.specs.Counts.{held_since, ports_due}
use Rattle.leased_ports.specs.Leased.{Leased, at_moment}
use Rattle.indexed_store.specs.declared.owning.OwnerRun.{OwnerRun}
use Rattle.indexed_store.specs.Runs.{has_port, touched_run}
use Rattle.indexed_store.specs.Tabled.{TabledState}

-- what one look-up takes at most, in tables of any size: that of the PEER leases of an endpoint takes
-- most looks
abbrev pub look_steps : State → ℕ
look_steps s = 35 * levels MOST_LEASES

-- how deep the tables are while one lease more is put
abbrev pub most_levels : ℕ
most_levels = levels (MOST_LEASES + 1)

-- what it takes to bring the ports to a moment: some runs that are due are seen to, whatever falls due
abbrev pub ports_steps : ℕ
ports_steps = (23 + RUN_STEPS) * MOST_RUNS

-- what it takes to reach a moment: two leases that have ended leave besides
abbrev pub reach_steps : ℕ
reach_steps = 34 * most_levels + ports_steps

-- what a pick takes at a moment, beside one for each port that is suggested: that of one port of any
-- parity nothing for what is due, where the address is below its quota by the counts
abbrev pub pick_steps : Leased → ℕ → Address → Bool → ℕ
pick_steps v m who plain = if plain && nat_lt (held_since v who) v.quota then PLAIN_STEPS
    else PICK_STEPS + DUE_STEPS * ports_due (at_moment m v)

-- no more than another
pub plain-fewer : (v : Leased) (m : ℕ) (who : Address) →
    pick_steps v m who true ≤ pick_steps v m who false
plain-fewer v m who = step (nat_lt (held_since v who) v.quota)
  where
    step : (below : Bool) → (if below then PLAIN_STEPS
        else PICK_STEPS + DUE_STEPS * ports_due (at_moment m v))
        ≤ PICK_STEPS + DUE_STEPS * ports_due (at_moment m v)
    step true = omega arith
    step false = omega arith

-- the leases that go since one is put: those that it overlaps, and those of the endpoint of a PEER
-- lease that have ended
abbrev pub in_way : ℕ → Change → Table → ℕ
in_way m (Map l) t = count_by (overlaps_map l) t.maps
in_way m (Peer l) t =
    count_by (overlaps_peer l) t.peers + count_by (is_ended_of l.endpoint m) t.peers
in_way m change t = 0

-- whether a change puts a PEER lease
abbrev pub puts_peer : Change → Bool
puts_peer (Peer l) = true
puts_peer change = false

-- what the leases take that change
abbrev pub change_steps : ℕ → Change → Table → ℕ
change_steps m change t = 45 * most_levels + 24 * (in_way m change t * most_levels)

-- whether a run of ports that have their last ends together is exactly this one
abbrev pub is_own : OwnerRun → Option (Run End) → Bool
is_own r None = false
is_own r (Some x) = (x.first == spot r.first.protocol r.first.external && x.count == r.count)
    && (x.value.external == r.first.external && same_endpoint x.value.endpoint r.first.endpoint)

-- what it takes to give ports in a row last ends: by each run that has one of them, where they aren't
-- a run already
abbrev pub run_steps : Leased → OwnerRun → ℕ
run_steps v r =
    let at = spot r.first.protocol r.first.external in
    PUT_STEPS + (if is_own r (run_at v.runs at) then 0
    else TAKEN_STEPS * runs_among v.runs at r.count)

-- whether PEER leases own some of several ports in a row
abbrev pub is_parted : List PeerLease → OwnerRun → Bool
is_parted peers r = nat_lt 1 r.count
    && list_any (λ l. has_port l.endpoint.protocol l.external r) peers

-- what ports in a row take that MAP leases hold until the same moment: in one piece, or in at most as
-- many as ports where PEER leases own some of them
abbrev pub piece_steps : Leased → List PeerLease → OwnerRun → ℕ
piece_steps v peers r = if is_parted peers r
    then r.count * (18 * most_levels + PUT_STEPS + TAKEN_STEPS)
    else 18 * most_levels + run_steps v r

-- what the ports of a lease take
abbrev pub hold_steps : Leased → List PeerLease → OwnerRun → ℕ
hold_steps v peers r = 4 * most_levels + piece_steps v peers r

-- the same of one run, if there is one
abbrev pub touched_steps : Leased → List PeerLease → Option OwnerRun → ℕ
touched_steps v peers None = 0
touched_steps v peers (Some r) = hold_steps v peers r

-- what it takes to apply a record: what brings the ports to its moment, the change of its leases and two
-- that ended, a Rest's port, and the ports of the lease that it puts or deletes
abbrev pub apply_steps : TabledState → Record → ℕ
apply_steps s r = ports_steps + change_steps r.moment r.change s.leases
    + (26 * most_levels + (PUT_STEPS + TAKEN_STEPS))
    + touched_steps s.ports s.leases.peers (touched_run r.change (live s.leases r.moment))
