-- What a record does to a state, in four steps (our own).
use Rattle.std.specs.Prelude.{ℕ, Bool, true, false, not, ◌||◌, List, [], ◌∷◌, ◌++◌, map, filter, if◌then◌else◌, Option, Some, None, fold}
use Rattle.pcp_base.specs.declared.addresses.Address.{Address}
use Rattle.pcp_base.specs.declared.leases.End.{End}
use Rattle.pcp_base.specs.declared.records.Change.{Change}
use Rattle.pcp_base.specs.declared.records.Change.TheVariants.{Start, Map, Peer, DropMap, DropPeer, Lose, Rest, Renumber}
use Rattle.pcp_base.specs.declared.records.Record.{Record}
use Rattle.pcp_base.specs.Tables.{Table, empty_table, live, dead, put, first_endpoint, is_map_of, is_peer_of, same_address}
use Rattle.pcp_base.specs.Owners.{map_owners, peer_owner, owners}
use Rattle.pcp_base.specs.Ends.{end_at, ends_at_expiry, with_end, with_left, is_owned_by, is_recent}
use Rattle.pcp_base.specs.States.{State, empty_state}

-- whether all that was known is gone
abbrev pub empties : Change → Bool
empties Start = true
empties Lose = true
empties change = false

abbrev pub is_start : Change → Bool
is_start Start = true
is_start change = false

-- Step 1: leases that aren't live at the record's moment are taken out; each ended at its expiry.
abbrev pub table_1 : State → Record → Table
table_1 s r = live s.table r.moment

abbrev pub left_1 : State → Record → List End
left_1 s r = ends_at_expiry (dead s.table r.moment)

-- Step 2, the table: a lease is put in the place of the one with its key, or at the end; a deleted one is taken out.
abbrev pub table_changed : Change → Table → Table
table_changed Start t = empty_table
table_changed Lose t = empty_table
table_changed (Map l) t = record t { maps = put (is_map_of (first_endpoint l)) l t.maps }
table_changed (Peer l) t = record t { peers = put (is_peer_of l.endpoint l.remote l.remote_port) l t.peers }
table_changed (DropMap e) t = record t { maps = filter (λ l. not (is_map_of e l)) t.maps }
table_changed (DropPeer e remote port) t =
    record t { peers = filter (λ l. not (is_peer_of e remote port l)) t.peers }
table_changed change t = t

-- the leases that a deletion takes out
abbrev pub deleted : Change → Table → Table
deleted (DropMap e) t = record { maps = filter (is_map_of e) t.maps; peers = [] }
deleted (DropPeer e remote port) t = record { maps = []; peers = filter (is_peer_of e remote port) t.peers }
deleted change t = empty_table

-- Step 2, the ends: a Start and a Lose forget all, a lease those of its ports, and a Rest adds one.
abbrev pub ends_changed : Change → List End → List End
ends_changed Start ends = []
ends_changed Lose ends = []
ends_changed (Map l) ends = filter (λ e. not (is_owned_by (map_owners l) e)) ends
ends_changed (Peer l) ends = filter (λ e. not (is_owned_by (peer_owner l ∷ []) e)) ends
ends_changed (Rest e port end) ends = with_end (record { endpoint = e; external = port; end = end }) ends
ends_changed change ends = ends

-- whether there is an address, and it is another one
abbrev pub is_another : Address → Option Address → Bool
is_another a None = false
is_another a (Some b) = not (same_address a b)

-- whether the record's moment becomes the base
abbrev pub rebases : Change → Option Address → Bool
rebases Start address = true
rebases Lose address = true
rebases (Renumber a) address = is_another a address
rebases change address = false

-- Step 2, the address: a Start forgets it, and a Renumber tells it.
abbrev pub address_changed : Change → Option Address → Option Address
address_changed Start address = None
address_changed (Renumber a) address = Some a
address_changed change address = address

-- the table after steps 1 and 2
abbrev pub table_2 : State → Record → Table
table_2 s r = table_changed r.change (table_1 s r)

-- the ports of all leases taken out, and when these ended: at their expiry, or, where deleted, at the record's moment
abbrev pub left_2 : State → Record → List End
left_2 s r = left_1 s r ++ map (end_at r.moment) (owners (deleted r.change (table_1 s r)))

-- the ends after step 2
abbrev pub ends_2 : State → Record → List End
ends_2 s r = ends_changed r.change s.ends

-- Step 3, not at a Start or a Lose: each port that a lease taken out owned, and that no lease of the table owns now,
-- gets an end.
abbrev pub ends_3 : State → Record → List End
ends_3 s r = if empties r.change then ends_2 s r else with_left (table_2 s r) (left_2 s r) (ends_2 s r)

-- Step 4: ends that aren't recent at the record's moment go.
abbrev pub ends_4 : ℕ → List End → List End
ends_4 m ends = filter (is_recent m) ends

-- the state after a record
abbrev pub apply : State → Record → State
apply s r = record {
  table = table_2 s r;
  ends = ends_4 r.moment (ends_3 s r);
  base = if rebases r.change s.address then r.moment else s.base;
  address = address_changed r.change s.address;
  last = r.moment;
  started = is_start r.change || s.started;
}

-- the state after a record of the first format: the same without step 3
abbrev pub apply_first : State → Record → State
apply_first s r = record (apply s r) { ends = ends_4 r.moment (ends_2 s r) }

-- the records one after the other
abbrev pub apply_all : State → List Record → State
apply_all s rs = fold apply s rs

abbrev pub apply_all_first : State → List Record → State
apply_all_first s rs = fold apply_first s rs

-- what the records stand for
abbrev pub state_of : List Record → State
state_of rs = apply_all empty_state rs

-- what records of the first format stand for
abbrev pub state_of_first : List Record → State
state_of_first rs = apply_all_first empty_state rs
