-- A house that is opened, served and told of.
use Rattle.std.proofs.Common.{◌≡◌, ◌≢◌, ◌⊎◌, ◌/◌, ◌<◌, ◌≤◌, ◌&&◌, nat_lt, inl, inr, ℕ, suc, ◌+◌, Bool, true, false, cond, List, [], ◌∷◌, ◌++◌, length, map, zip, flat_map, replicate, Option, None, Some, Result, Ok, Err, IfOk, refl, sym, ap, subst, ◌∙◌, arith}
use Rattle.std.specs.List.{position_from, slice_get}
use Rattle.std.proofs.lemmas.Grind.{common_steps}
use Rattle.std.proofs.lemmas.List.{length-append, length-replicate, map-append}
use Rattle.pcp_base.specs.declared.configs.Config.{Config}
use Rattle.pcp_base.specs.declared.configs.External.{External}
use Rattle.pcp_base.specs.declared.configs.TheConstants.{MOST_EXTERNALS}
use Rattle.pcp_announce.specs.declared.doors.Group.{Group}
use Rattle.pcp_io.specs.Faults.{HasRisen}
use Rattle.pcp_io.specs.Times.{IsTimeNow, Times}
use Rattle.lease_disk.specs.declared.disks.DiskPair.{DiskPair}
use Rattle.shard_book.specs.Books.{BookView}
use Rattle.lease_house.specs.declared.faults.HouseFault.{HouseFault}
use Rattle.lease_house.specs.SoloOpenings.{IsOfPlace, OpensAll, book_updates}
use Rattle.journal_dump.specs.Dumps.{HasPairFault}
use Rattle.config_source.specs.ConfigSources.{ReadsNoFurther, RefusesConfig, StopsAtFault}
use Rattle.config_source.specs.declared.reading.ConfigFault.{ConfigFault}
use Rattle.config_source.specs.declared.reading.ConfigFault.TheVariants as ConfigFaults
use Rattle.server_commands.specs.declared.statuses.ConfigCause.{ConfigCause}
use Rattle.server_commands.specs.declared.statuses.Status.{Status}
use Rattle.server_commands.specs.declared.statuses.Status.TheVariants as Statuses
use Rattle.pcp_server.specs.Opened.{IsUnread}
use Rattle.pcp_server.specs.Outsides.{DiskMeanings}
use Rattle.pcp_server.specs.Statuses.{unopened_as, unread_as}
use Rattle.pcp_server.proofs.OpeningLemmas.{hands-named}
use Rattle.pcp_server.proofs.StatusLemmas.{unopened-disk}
use Rattle.job_workers.specs.declared.tallies.TallyRow.{TallyRow}
use Rattle.request_workers.specs.declared.faults.ServeFault.{ServeFault}
use Rattle.request_workers.specs.declared.faults.ServeFault.TheVariants as ServeFaults
use Rattle.shared_house.specs.declared.beginning.Begun.{Begun}
use Rattle.shared_house.specs.Beginnings.{Begins, RefusesBegin}
use Rattle.shared_house.specs.Findings.{update_places}
use Rattle.house_workers.specs.Laws.{FaultedRowsHaveCauses}
use Rattle.house_workers.specs.ServingAll.{Edges, ServesToEnd}
use Rattle.serve_runs.specs.Served.{EndsUnread, GivesStart, IsLostAt, IsToldTo, ServeState, first_lost, has_failed, is_lost, ended_as}
use Rattle.serve_runs.specs.Updates.{places_of}

-- the dispatcher's clock was read, and no other
pub gives-start : {T : Type 0} (told : T → Option Times) (clocks others : List T) (clock later : T) (time start : ℕ)
    → clocks ≡ others ++ clock ∷ [] → IsTimeNow (told clock) (told later) time → start ≡ time / 1000
    → GivesStart (map told clocks) (map told (others ++ later ∷ [])) start
gives-start told clocks others clock later time start are now second = record {
  others = map told others;
  before = told clock;
  after = told later;
  were = ap (map told) are ∙ map-append told others (clock ∷ []);
  are = map-append told others (later ∷ []);
  time = time;
  gives = now;
  second = second;
}

-- ---- updates

pub updates-are : {D : Type 0} (base : ℕ) (books : List (BookView D))
    → flat_map (book_updates base) books ≡ flat_map (λ us. us) (map (book_updates base) books)
updates-are base [] = refl
updates-are base (b ∷ bs) = ap (λ us. book_updates base b ++ us) (updates-are base bs)

pub places-are : {D : Type 0} (base place : ℕ) (books : List (BookView D))
    → update_places base place books ≡ places_of place (map (book_updates base) books)
places-are base place [] = refl
places-are base place (b ∷ bs) = ap (λ ps. replicate (length (book_updates base b)) place ++ ps) (places-are base (place + 1) bs)

pub as-many-places : {D : Type 0} (base place : ℕ) (books : List (BookView D))
    → length (update_places base place books) ≡ length (flat_map (book_updates base) books)
as-many-places base place [] = refl
as-many-places base place (b ∷ bs) =
    let us = book_updates base b in
    length-append (replicate (length us) place) (update_places base (place + 1) bs)
    ∙ ap (λ n. n + length (update_places base (place + 1) bs)) (length-replicate (length us) place)
    ∙ ap (λ n. length us + n) (as-many-places base (place + 1) bs)
    ∙ sym (length-append us (flat_map (book_updates base) bs))

-- there is a book for each external address
pub as-many-books : {D : Type 0} (disks : DiskMeanings D) (config : Config) (m : ℕ) (xs : List External) (pairs : List (DiskPair D)) (books : List (BookView D))
    (spare : List (DiskPair D))
    → OpensAll disks.tells disks.seen disks.moment disks.left_since disks.may_leave disks.faults config m xs pairs books spare
    → length books ≡ length xs
as-many-books disks config m [] pairs [] spare opens = refl
as-many-books disks config m [] pairs (b ∷ bs) spare opens = absurd opens
as-many-books disks config m (x ∷ xs) [] [] spare opens = absurd opens
as-many-books disks config m (x ∷ xs) [] (b ∷ bs) spare opens = absurd opens
as-many-books disks config m (x ∷ xs) (p ∷ ps) [] spare opens = absurd opens
as-many-books disks config m (x ∷ xs) (p ∷ ps) (b ∷ bs) spare opens =
    ap suc (as-many-books disks config m xs ps bs spare opens.1)

-- so many rows there are at most
pub few-rows : (tally : Result (List TallyRow) ServeFault) (count : ℕ) → IfOk tally (λ rows. length rows ≡ count) → count ≤ MOST_EXTERNALS
    → IfOk tally (λ rows. length rows ≤ MOST_EXTERNALS)
few-rows (Ok rows) count is few = omega (arith, is, few)
few-rows (Err fault) count is few = tt

-- ---- faults

-- whatever disk is lost, no other fault is told once the tally is written
served-no-read : (shard : Option ℕ) → ended_as shard ≡ Statuses.ReadFault → ⊥
served-no-read None is = cc
served-no-read (Some shard) is = cc

served-no-words : (shard : Option ℕ) → ended_as shard ≡ Statuses.WordsRefused → ⊥
served-no-words None is = cc
served-no-words (Some shard) is = cc

served-lost : (shard : ℕ) (first : Option ℕ) → ended_as first ≡ Statuses.DiskFault shard → first ≡ Some shard
served-lost shard None is = absurd cc
served-lost shard (Some n) is = let e : n ≡ shard = cc in ap Some e

-- the place that is found, with what stands there
record Failed {D : Type 0} (lost : D → Bool) (rows : List TallyRow) (pairs : List (DiskPair D)) (i : ℕ) : Type 0 where
  row : TallyRow
  pair : DiskPair D
  row_there : slice_get rows i ≡ Some row
  pair_there : slice_get pairs i ≡ Some pair
  faulted : 0 < row.faulted
  lost_side : is_lost lost pair ≡ true

some-fault : (n : ℕ) → nat_lt 0 n ≡ true → 0 < n
some-fault n e = grind (arith, common_steps)

both-true : (a b : Bool) → (a && b) ≡ true → (a ≡ true) × (b ≡ true)
both-true true b e = (refl, e)
both-true false b e = absurd cc

here-or-later : (b : Bool) (k n : ℕ) (later : Option ℕ) → cond b (Some k) later ≡ Some n → ((b ≡ true) × (k ≡ n)) ⊎ (later ≡ Some n)
here-or-later true k n later e = let same : k ≡ n = cc in inl (refl, same)
here-or-later false k n later e = inr e

module _ {D : Type 0} (lost : D → Bool) where
  failed-here : (row : TallyRow) (pair : DiskPair D) (rows : List TallyRow) (pairs : List (DiskPair D)) → has_failed lost (row, pair) ≡ true
      → Failed lost (row ∷ rows) (pair ∷ pairs) 0
  failed-here row pair rows pairs is =
      let both = both-true (nat_lt 0 row.faulted) (is_lost lost pair) is in
      record { row = row; pair = pair; row_there = refl; pair_there = refl; faulted = some-fault row.faulted both.0; lost_side = both.1 }

  -- here, or at a later place
  failed-next : (k n : ℕ) (row : TallyRow) (pair : DiskPair D) (rows : List TallyRow) (pairs : List (DiskPair D)) (later : Option ℕ)
      → ((has_failed lost (row, pair) ≡ true) × (k ≡ n)) ⊎ (later ≡ Some n)
      → (later ≡ Some n → (i : ℕ) × ((k + 1) + i ≡ n) × Failed lost rows pairs i)
      → (i : ℕ) × (k + i ≡ n) × Failed lost (row ∷ rows) (pair ∷ pairs) i
  failed-next k n row pair rows pairs later (inl is) rest = let same = is.1 in (0, omega (arith, same), failed-here row pair rows pairs is.0)
  failed-next k n row pair rows pairs later (inr found) rest =
      let behind = rest found in
      let same = behind.1 in
      let f = behind.2 in (
        suc behind.0,
        omega (arith, same),
        record { row = f.row; pair = f.pair; row_there = f.row_there; pair_there = f.pair_there; faulted = f.faulted; lost_side = f.lost_side },
      )

  -- the place among all is that behind so many
  failed-from : (k : ℕ) (rows : List TallyRow) (pairs : List (DiskPair D)) (n : ℕ) → position_from (has_failed lost) k (zip rows pairs) ≡ Some n
      → (i : ℕ) × (k + i ≡ n) × Failed lost rows pairs i
  failed-from k [] pairs n found = absurd cc
  failed-from k (row ∷ rows) [] n found = absurd cc
  failed-from k (row ∷ rows) (pair ∷ pairs) n found =
      let later = position_from (has_failed lost) (k + 1) (zip rows pairs) in
      failed-next k n row pair rows pairs later (here-or-later (has_failed lost (row, pair)) k n later found)
      (λ there. failed-from (k + 1) rows pairs n there)

  failed-at : (rows : List TallyRow) (pairs : List (DiskPair D)) (status : Status) (shard : ℕ) → status ≡ ended_as (first_lost lost rows pairs)
      → status ≡ Statuses.DiskFault shard → Failed lost rows pairs shard
  failed-at rows pairs status shard told is =
      let found = failed-from 0 rows pairs shard (served-lost shard (first_lost lost rows pairs) (sym told ∙ is)) in
      let same : found.0 ≡ shard = let e = found.1 in omega (arith, e) in
      subst (Failed lost rows pairs) same found.2

  failed : {W : Type 0} (tally : Result (List TallyRow) ServeFault) (pairs : List (DiskPair D)) (out_old out_new : W) (before now : Option (List ℕ)) (status : Status) (shard : ℕ)
      → IsToldTo lost tally pairs out_old out_new before now status → status ≡ Statuses.DiskFault shard
      → (rows : List TallyRow) × (tally ≡ Ok rows) × Failed lost rows pairs shard
  failed (Ok rows) pairs out_old out_new before now status shard (inl told) is = (rows, refl, failed-at rows pairs status shard told.0 is)
  failed (Ok rows) pairs out_old out_new before now status shard (inr (inl told)) is = absurd (cc (told.0, is))
  failed (Ok rows) pairs out_old out_new before now status shard (inr (inr told)) is = absurd (cc (told.0, is))
  failed (Err ServeFaults.Read) pairs out_old out_new before now status shard told is = absurd (cc (told.0, is))
  failed (Err ServeFaults.Threads) pairs out_old out_new before now status shard told is = absurd (cc (told.0, is))
  failed (Err ServeFaults.Memory) pairs out_old out_new before now status shard told is = absurd (cc (told.0, is))

  -- of the pairs as they were seen
  pub told-of : {W : Type 0} (tally : Result (List TallyRow) ServeFault) (seen pairs : List (DiskPair D)) (out_old out_new : W) (before now : Option (List ℕ)) (status : Status)
      → seen ≡ pairs → IsToldTo lost tally seen out_old out_new before now status → IsToldTo lost tally pairs out_old out_new before now status
  told-of tally seen pairs out_old out_new before now status same told = subst (λ (l : List (DiskPair D)). IsToldTo lost tally l out_old out_new before now status) same told

  -- the side that is lost
  pub lost-at : {W : Type 0} (tally : Result (List TallyRow) ServeFault) (pairs : List (DiskPair D)) (out_old out_new : W) (before now : Option (List ℕ)) (status : Status) (shard : ℕ)
      → IsToldTo lost tally pairs out_old out_new before now status → status ≡ Statuses.DiskFault shard → IsLostAt lost pairs shard
  lost-at tally pairs out_old out_new before now status shard told is =
      let f = (failed tally pairs out_old out_new before now status shard told is).2 in
      record { pair = f.pair; there = f.pair_there; lost_side = f.lost_side }

  pub no-words : {W : Type 0} (tally : Result (List TallyRow) ServeFault) (pairs : List (DiskPair D)) (out_old out_new : W) (before now : Option (List ℕ)) (status : Status)
      → IsToldTo lost tally pairs out_old out_new before now status → status ≢ Statuses.WordsRefused
  no-words (Ok rows) pairs out_old out_new before now status (inl told) is = served-no-words (first_lost lost rows pairs) (sym told.0 ∙ is)
  no-words (Ok rows) pairs out_old out_new before now status (inr (inl told)) is = cc (told.0, is)
  no-words (Ok rows) pairs out_old out_new before now status (inr (inr told)) is = cc (told.0, is)
  no-words (Err ServeFaults.Read) pairs out_old out_new before now status told is = cc (told.0, is)
  no-words (Err ServeFaults.Threads) pairs out_old out_new before now status told is = cc (told.0, is)
  no-words (Err ServeFaults.Memory) pairs out_old out_new before now status told is = cc (told.0, is)

-- a count of its pair rose
pub disk-lost : {W D : Type 0} (disks : DiskMeanings D) (lost : D → Bool) (config : Config) (groups : List Group) (port m : ℕ) (pairs_before : List (DiskPair D)) (begun : Begun D)
    (old new : Edges) (tally : Result (List TallyRow) ServeFault) (pairs : List (DiskPair D)) (out_old out_new : W) (before now : Option (List ℕ)) (status : Status) (shard : ℕ)
    → FaultedRowsHaveCauses D disks.tells disks.seen disks.moment disks.left_since disks.may_leave disks.faults
    → Begins disks.tells disks.seen disks.moment disks.left_since disks.may_leave disks.faults config m pairs_before begun
    → ServesToEnd disks.tells disks.seen disks.moment disks.left_since disks.may_leave disks.faults config groups port begun old new tally pairs
    → IsToldTo lost tally pairs out_old out_new before now status → status ≡ Statuses.DiskFault shard → HasPairFault disks.faults pairs_before pairs shard
disk-lost disks lost config groups port m pairs_before begun old new tally pairs out_old out_new before now status shard causes begins serves told is =
    let f = failed lost tally pairs out_old out_new before now status shard told is in
    let served : ServesToEnd disks.tells disks.seen disks.moment disks.left_since disks.may_leave disks.faults config groups port begun old new (Ok f.0) pairs =
    subst (λ (t : Result (List TallyRow) ServeFault). ServesToEnd disks.tells disks.seen disks.moment disks.left_since disks.may_leave disks.faults config groups port begun old new t pairs)
    f.1 serves in
    let cause = causes config groups port m pairs_before pairs begun old new f.0 begins served shard f.2.row f.2.pair f.2.row_there f.2.pair_there in
    record { before = cause.0; after = f.2.pair; was = cause.1; is = f.2.pair_there; risen = cause.2.risen f.2.faulted }

-- a fault of reading is the inbox's
pub read-fault : {W D : Type 0} (disks : DiskMeanings D) (lost : D → Bool) (config : Config) (groups : List Group) (port : ℕ) (begun : Begun D) (old new : Edges)
    (tally : Result (List TallyRow) ServeFault) (pairs : List (DiskPair D)) (out_old out_new : W) (before now : Option (List ℕ)) (status : Status)
    → ServesToEnd disks.tells disks.seen disks.moment disks.left_since disks.may_leave disks.faults config groups port begun old new tally pairs
    → IsToldTo lost tally pairs out_old out_new before now status → status ≡ Statuses.ReadFault → HasRisen old.faults new.faults
read-fault disks lost config groups port begun old new (Ok rows) pairs out_old out_new before now status serves (inl told) is =
    absurd (served-no-read (first_lost lost rows pairs) (sym told.0 ∙ is))
read-fault disks lost config groups port begun old new (Ok rows) pairs out_old out_new before now status serves (inr (inl told)) is = absurd (cc (told.0, is))
read-fault disks lost config groups port begun old new (Ok rows) pairs out_old out_new before now status serves (inr (inr told)) is = absurd (cc (told.0, is))
read-fault disks lost config groups port begun old new (Err ServeFaults.Read) pairs out_old out_new before now status serves told is =
    subst (HasRisen old.faults) (sym (ap (λ e. e.faults) serves.edges)) serves.answers.risen
read-fault disks lost config groups port begun old new (Err ServeFaults.Threads) pairs out_old out_new before now status serves told is = absurd (cc (told.0, is))
read-fault disks lost config groups port begun old new (Err ServeFaults.Memory) pairs out_old out_new before now status serves told is = absurd (cc (told.0, is))

-- a disk that is named is that of an external address, and its count rose
pub disk-named : {D : Type 0} (disks : DiskMeanings D) (config : Config) (m : ℕ) (fault : HouseFault) (old new : List (DiskPair D)) (shard : ℕ)
    → RefusesBegin disks.tells disks.seen disks.moment disks.left_since disks.may_leave disks.faults config m fault old new
    → IsOfPlace (length config.externals) fault → unopened_as fault ≡ Statuses.DiskFault shard → HasPairFault disks.faults old new shard
disk-named disks config m fault old new shard (inl hands) within is =
    hands-named disks m fault config.externals old new shard hands within (unopened-disk fault shard is)
disk-named disks config m fault old new shard (inr vain) within is = absurd (cc (vain.0, unopened-disk fault shard is))

-- ---- no configuration

pub ends-unread : {W I D : Type 0} (source_before source_now : Option (List ℕ)) (before : ServeState W I D) (status : Status) (result : Result Config ConfigFault) (fault : ConfigFault) →
    result ≡ Err fault → status ≡ unread_as fault →
    ((cause : ConfigCause) → result ≡ Err (ConfigFaults.Refused cause) → RefusesConfig source_before source_now cause) →
    (result ≡ Err ConfigFaults.Read → StopsAtFault source_before source_now) → ReadsNoFurther source_before source_now →
    EndsUnread source_before source_now before before status
ends-unread source_before source_now before status result fault is told refused stopped few = record {
  fault = fault;
  told = told;
  source = go fault is;
  untouched = refl;
}
  where
    go : (fault : ConfigFault) → result ≡ Err fault → IsUnread source_before source_now fault
    go (ConfigFaults.Refused cause) is = refused cause is
    go ConfigFaults.Read is = stopped is
    go ConfigFaults.Memory is = few
