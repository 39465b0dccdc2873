-- What is told for readings of a journal, one after the other (our own). A reading is what the two sides were read as at a time.
use Rattle.std.specs.Prelude.{ℕ, ◌+◌, ◌&&◌, ◌==◌, Bool, true, false, List, [], ◌∷◌, ◌++◌, max, drop, length, filter, find, is_some, not, if◌then◌else◌, fold, bytes_eq}
use Rattle.std.specs.List.{list_any}
use Rattle.pcp_base.specs.declared.records.Record.{Record}
use Rattle.pcp_base.specs.declared.leases.Filter.{Filter}
use Rattle.pcp_base.specs.declared.leases.MapLease.{MapLease}
use Rattle.pcp_base.specs.declared.leases.PeerLease.{PeerLease}
use Rattle.pcp_base.specs.Tables.{Table, live, first_endpoint, is_map_of, is_peer_of, same_address, same_endpoint}
use Rattle.pcp_base.specs.Fits.{renews}
use Rattle.pcp_base.specs.States.{State, empty_state}
use Rattle.journal_watch.specs.Happenings.{each, ended_by, told_of, shown_by}
use Rattle.journal_watch.specs.declared.happenings.Happening.{Happening}
use Rattle.journal_watch.specs.declared.happenings.Happening.TheVariants.{Begins, FoundMap, FoundPeer, GoneMap, GonePeer}

-- What a side is between two times at which it is filled: the file that it stands in, its generation, and the moment of its Start.
pub record Life : Type 0 where
  pub file : ℕ
  pub generation : ℕ
  pub start : ℕ

abbrev pub same_life : Life → Life → Bool
same_life a b = a.file == b.file && (a.generation == b.generation && a.start == b.start)

pub data Holding : Type 0 where
  -- This life counts, and has these records. Where it is another one than is followed: whether records may have been missed.
  Counts : Life → Bool → List Record → Holding
  -- This life counts, and the one that is followed was read to its end: of it is the snapshot in front, and then come these.
  Goes : Life → List Record → List Record → Holding
  -- both sides are closed, an open one isn't in the grammar, or the sides didn't stay as they were for long enough
  Doubt : Holding

pub record Reading : Type 0 where
  -- the clock's time before anything was read, in whole seconds
  pub time : ℕ
  pub holds : Holding

-- The life that is followed, how many records of it were told, the state that these make, and what is shown.
pub record Watch : Type 0 where
  pub life : Life
  pub count : ℕ
  pub state : State
  pub shown : Table

pub record Telling : Type 0 where
  pub watch : Watch
  pub happenings : List Happening

-- so much more is told
abbrev pub with_told : Telling → List Happening → Telling
with_told t more = record {
  watch = record t.watch { shown = shown_by t.watch.shown more };
  happenings = t.happenings ++ more;
}

-- A record more is told. `step` is what records do by the rules of the side's format.
abbrev pub with_record : (State → Record → State) → Telling → Record → Telling
with_record step t r = record {
  watch = record {
    life = t.watch.life;
    count = t.watch.count + 1;
    state = step t.watch.state r;
    shown = shown_by t.watch.shown (told_of t.watch.shown t.watch.state r);
  };
  happenings = t.happenings ++ told_of t.watch.shown t.watch.state r;
}

-- what is told of records one after the other, where this is shown before them
abbrev pub told_all : (State → Record → State) → Table → State → List Record → List Happening
told_all step shown s [] = []
told_all step shown s (r ∷ rs) =
    told_of shown s r ++ told_all step (shown_by shown (told_of shown s r)) (step s r) rs

-- the leases of one table whose keys aren't in the other one
abbrev pub gone_from : Table → Table → List Happening
gone_from shown t = each GoneMap GonePeer (record {
  maps = filter (λ l. not (is_some (find (is_map_of (first_endpoint l)) t.maps))) shown.maps;
  peers = filter (λ l. not (is_some (find (is_peer_of l.endpoint l.remote l.remote_port) t.peers))) shown.peers;
})

-- the leases of a table that aren't shown by their keys
abbrev pub found_in : Table → Table → List Happening
found_in shown t = each FoundMap FoundPeer (record {
  maps = filter (λ l. not (is_some (find (is_map_of (first_endpoint l)) shown.maps))) t.maps;
  peers = filter (λ l. not (is_some (find (is_peer_of l.endpoint l.remote l.remote_port) shown.peers))) t.peers;
})

-- whether two lists of filters are one
abbrev pub same_filters : List Filter → List Filter → Bool
same_filters [] [] = true
same_filters [] (g ∷ gs) = false
same_filters (f ∷ fs) [] = false
same_filters (f ∷ fs) (g ∷ gs) =
    f.prefix == g.prefix && (f.port == g.port && (same_address f.remote g.remote && same_filters fs gs))

-- whether the two leases are one
abbrev pub same_map : MapLease → MapLease → Bool
same_map a b = renews a b && (a.expiry == b.expiry && same_filters a.filters b.filters)

abbrev pub same_peer : PeerLease → PeerLease → Bool
same_peer a b = same_endpoint a.endpoint b.endpoint && (a.external == b.external && (same_address a.remote b.remote
    && (a.remote_port == b.remote_port && (bytes_eq a.nonce.0 b.nonce.0 && (a.granted == b.granted && a.expiry == b.expiry)))))

-- What isn't in the table any more, then what isn't shown as the table has it.
abbrev pub told_anew : Table → Table → List Happening
told_anew shown t = gone_from shown t ++ each FoundMap FoundPeer (record {
  maps = filter (λ l. not (list_any (same_map l) shown.maps)) t.maps;
  peers = filter (λ l. not (list_any (same_peer l) shown.peers)) t.peers;
})

-- what time has made of it by m
abbrev pub by_time : ℕ → Telling → Telling
by_time m t = with_told (with_told t (ended_by t.watch.shown m))
    (found_in (live t.watch.shown m) (live t.watch.state.table m))

abbrev pub moment_of : ℕ → State → ℕ
moment_of time s = max time s.last

-- a life is followed from here on, by all records that it has, and nothing of them was told
abbrev pub followed : (State → Record → State) → Watch → Life → Bool → List Record → Telling
followed step w life gap rs = record {
  watch = record { life = life; count = length rs; state = fold step empty_state rs; shown = w.shown };
  happenings = Begins life.generation gap ∷ [];
}

-- and then what isn't shown as it is live
abbrev pub begun : (State → Record → State) → Watch → ℕ → Life → Bool → List Record → Telling
begun step w time life gap rs =
    with_told (followed step w life gap rs) (told_anew w.shown
    (live (fold step empty_state rs).table (moment_of time (fold step empty_state rs))))

abbrev pub on_holding : (State → Record → State) → Watch → ℕ → Holding → Telling
on_holding step w time (Counts life gap rs) =
    if same_life life w.life
    then fold (with_record step) (record { watch = w; happenings = [] }) (drop w.count rs)
    else begun step w time life gap rs
on_holding step w time (Goes life snapshot rs) = fold (with_record step) (followed step w life false snapshot) rs
on_holding step w time Doubt = record { watch = w; happenings = [] }

-- what is told at a reading
abbrev pub on_reading : (State → Record → State) → Watch → Reading → Telling
on_reading step w r =
    by_time (moment_of r.time (on_holding step w r.time r.holds).watch.state) (on_holding step w r.time r.holds)

-- what is told at readings, one after the other, an item for each
abbrev pub all_told : (State → Record → State) → Watch → List Reading → List (List Happening)
all_told step w [] = []
all_told step w (r ∷ rs) = (on_reading step w r).happenings ∷ all_told step (on_reading step w r).watch rs
