-- All that was put was done.
use Rattle.std.proofs.Common.{◌≡◌, ℕ, ◌+◌, List, [], ◌∷◌, ◌++◌, length, map, fold, Option, Result, refl, sym, ap, ◌∙◌, subst, arith}
use Rattle.std.specs.List.{AllByRecursion}
use Rattle.std.proofs.lemmas.List.{length-map}
use Rattle.atomic_table.specs.Seated.{TableId}
use Rattle.pcp_base.specs.declared.configs.Config.{Config}
use Rattle.pcp_announce.specs.declared.doors.Group.{Group}
use Rattle.pcp_io.specs.declared.inboxes.InboxItem.{InboxItem}
use Rattle.pcp_io.specs.Times.{Times}
use Rattle.lane_loops.specs.LaneRuns.{LaneState}
use Rattle.lane_loops.specs.LaneSets.{AllRun}
use Rattle.job_queue.specs.declared.jobs.Job.{Job}
use Rattle.job_queue.specs.Queues.{PutterKnowledge}
use Rattle.job_workers.specs.declared.tallies.TallyRow.{TallyRow}
use Rattle.job_workers.specs.declared.workers.Desk.{Desk}
use Rattle.job_workers.specs.Gatherings.{HasWorked}
use Rattle.job_workers.specs.HouseCalls.{HouseCalls}
use Rattle.job_workers.specs.Stations.{AllWorked, OutState, Station, state_at, stations}
use Rattle.job_workers.specs.Tallies.{joined_rows}
use Rattle.job_workers.specs.Works.{DoesCalls, WorkCall, WorkState, Works, jobs_of}
use Rattle.std.proofs.lemmas.Grind.{flat_map-append}
use Rattle.job_dispatch.specs.declared.noise.NoiseCounts.{NoiseCounts}
use Rattle.job_dispatch.specs.declared.ports.Port.{Port}
use Rattle.job_dispatch.specs.Announcing.{AnnounceState}
use Rattle.job_dispatch.specs.Dispatches.{Dispatched, all_put_for}
use Rattle.job_dispatch.specs.Dispatching.{DispatchState}
use Rattle.job_dispatch.specs.PortsAfter.{ArePortsAfter, IsPortAfter, dispatched_row, row_by_step}
use Rattle.request_workers.specs.declared.faults.RunFault.{RunFault}
use Rattle.request_workers.specs.Leads.{Leads}
use Rattle.request_workers.specs.Seats.{AreSeated, Ending, FinishesAll, IsEnding, IsSeated}
use Rattle.request_workers.specs.Served.{AreShardRuns, IsShardRun, RunsAll, ShardRun, out_of}
use Rattle.request_workers.proofs.ServeLemmas.{desks_of, desks_of-stations}

DoesCalls-append : {P : Type 0} (house : HouseCalls P) (xs ys : List WorkCall) (a b c : WorkState P) → DoesCalls house xs a b → DoesCalls house ys b c → DoesCalls house (xs ++ ys) a c
DoesCalls-append {P} house [] ys a b c h k = subst (λ (s : WorkState P). DoesCalls house ys s c) h k
DoesCalls-append house (x ∷ xs) ys a b c h k = (h.0, h.1, DoesCalls-append house xs ys h.0 b c h.2 k)

Works-append : {P : Type 0} (house : HouseCalls P) (js ks : List Job) (a b c : WorkState P) → Works house js a b → Works house ks b c → Works house (js ++ ks) a c
Works-append house js ks a b c p q = record {
  calls = p.calls ++ q.calls;
  does = DoesCalls-append house p.calls q.calls a b c p.does q.does;
  jobs = ap (λ (l : List Job). l ++ ks) p.jobs ∙ (ap (λ (l : List Job). jobs_of p.calls ++ l) q.jobs
      ∙ sym (flat_map-append (λ (call : WorkCall). call.jobs) p.calls q.calls));
}

-- ---- one external address

abbrev pub run_of : {P : Type 0} → Station P → Ending P → ShardRun P
run_of s e = record {
  old = state_at s;
  new = state_at e.done;
  row = joined_rows e.done.desk.row e.port.row;
}

serves_one : {P : Type 0} (house : HouseCalls P) (shard : ℕ) (ds : List Dispatched) (q : TableId) (s : Station P) (p : Port) (e : Ending P)
    → IsSeated house shard q s.desk p → HasWorked house (state_at s) (state_at e.left) s.desk.taker e.left.desk.taker → IsEnding house e → IsPortAfter shard ds p e.port
    → IsShardRun house shard ds (run_of s e)
serves_one house shard ds q s p e seated worked ending port =
    let taken : e.left.desk.taker.taken ≡ worked.jobs = ap (λ t. t.taken) worked.taken ∙ ap (λ (l : List Job). l ++ worked.jobs) seated.taken in
    let put : e.port.putter.put ≡ all_put_for shard ds =
    ap (λ (x : PutterKnowledge). x.put) port.putter ∙ ap (λ (l : List Job). l ++ all_put_for shard ds) seated.put in
    let all : worked.jobs ++ ending.jobs ≡ all_put_for shard ds = ap (λ (l : List Job). l ++ ending.jobs) (sym taken) ∙ (sym ending.all ∙ put) in
    let counted : e.port.row ≡ dispatched_row shard ds = port.row ∙ ap (λ (r : TallyRow). fold (row_by_step shard) r ds) seated.counted in
    record {
      works = subst (λ (js : List Job). Works house js (state_at s) (state_at e.done)) all
          (Works-append house worked.jobs ending.jobs (state_at s) (state_at e.left) (state_at e.done) worked.works ending.works);
      begins = seated.row;
      stays = record {
        is = λ is. ending.stays.is (worked.stays.is is);
        place = ending.stays.place ∙ worked.stays.place;
      };
      row = ap (λ (r : TallyRow). joined_rows e.done.desk.row r) counted;
    }

-- ---- all of them

abbrev runs_of : {P : Type 0} → List (Station P) → List (Ending P) → List (ShardRun P)
runs_of [] es = []
runs_of (s ∷ ss) [] = []
runs_of (s ∷ ss) (e ∷ es) = run_of s e ∷ runs_of ss es

serves_each : {P : Type 0} (house : HouseCalls P) (shard : ℕ) (ds : List Dispatched) (qs : List TableId) (ss : List (Station P)) (ps : List Port) (es : List (Ending P))
    → AreSeated house shard qs (desks_of ss) ps → AllWorked house ss (map (λ e. e.left) es)
    → AllByRecursion (IsEnding house) es → ArePortsAfter shard ds ps (map (λ e. e.port) es)
    → AreShardRuns house shard ds (runs_of ss es)
serves_each house shard ds qs [] ps [] h w e p = tt
serves_each house shard ds qs [] ps (x ∷ es) h w e p = absurd w
serves_each house shard ds qs (s ∷ ss) ps [] h w e p = absurd w
serves_each house shard ds [] (s ∷ ss) ps (x ∷ es) h w e p = absurd h
serves_each house shard ds (q ∷ qs) (s ∷ ss) [] (x ∷ es) h w e p = absurd h
serves_each house shard ds (q ∷ qs) (s ∷ ss) (y ∷ ps) (x ∷ es) h w e p =
    (serves_one house shard ds q s y x h.0 w.0.0 e.0 p.0, serves_each house (shard + 1) ds qs ss ps es h.1 w.1 e.1 p.1)

-- what is told of each before, and after
before_all : {P C : Type 0} (f : ShardRun P → C) (h : Station P → C) → ((s : Station P) (e : Ending P) → f (run_of s e) ≡ h s)
    → (house : HouseCalls P) (ss : List (Station P)) (es : List (Ending P)) → AllWorked house ss (map (λ e. e.left) es) → map h ss ≡ map f (runs_of ss es)
before_all f h same house [] [] w = refl
before_all f h same house [] (e ∷ es) w = absurd w
before_all f h same house (s ∷ ss) [] w = absurd w
before_all {P} {C} f h same house (s ∷ ss) (e ∷ es) w =
    ap (λ (c : C). c ∷ map h ss) (sym (same s e)) ∙ ap (λ (l : List C). f (run_of s e) ∷ l) (before_all f h same house ss es w.1)

after_all : {P C : Type 0} (f : ShardRun P → C) (h : Ending P → C) → ((s : Station P) (e : Ending P) → f (run_of s e) ≡ h e)
    → (house : HouseCalls P) (ss : List (Station P)) (es : List (Ending P)) → AllWorked house ss (map (λ e. e.left) es) → map h es ≡ map f (runs_of ss es)
after_all f h same house [] [] w = refl
after_all f h same house [] (e ∷ es) w = absurd w
after_all f h same house (s ∷ ss) [] w = absurd w
after_all {P} {C} f h same house (s ∷ ss) (e ∷ es) w =
    ap (λ (c : C). c ∷ map h es) (sym (same s e)) ∙ ap (λ (l : List C). f (run_of s e) ∷ l) (after_all f h same house ss es w.1)

stations_left : {P : Type 0} (es : List (Ending P)) → stations (map (λ e. e.left.desk) es) (map (λ e. e.left.out) es) (map (λ e. e.left.times) es) ≡ map (λ e. e.left) es
stations_left [] = refl
stations_left {P} (e ∷ es) = ap (λ (l : List (Station P)). e.left ∷ l) (stations_left es)

outs_of-stations : {P : Type 0} (ds : List (Desk P)) (os : List OutState) (ts : List (Option Times)) → length os ≡ length ds → length ts ≡ length ds → map (λ s. s.out) (stations ds os ts) ≡ os
outs_of-stations [] [] ts a b = refl
outs_of-stations [] (o ∷ os) ts a b = absurd (omega (arith, a))
outs_of-stations (d ∷ ds) [] ts a b = absurd (omega (arith, a))
outs_of-stations (d ∷ ds) (o ∷ os) [] a b = absurd (omega (arith, b))
outs_of-stations (d ∷ ds) (o ∷ os) (t ∷ ts) a b = ap (λ (l : List OutState). o ∷ l) (outs_of-stations ds os ts (omega (arith, a)) (omega (arith, b)))

times_of-stations : {P : Type 0} (ds : List (Desk P)) (os : List OutState) (ts : List (Option Times)) → length os ≡ length ds → length ts ≡ length ds → map (λ s. s.times) (stations ds os ts) ≡ ts
times_of-stations [] os [] a b = refl
times_of-stations [] os (t ∷ ts) a b = absurd (omega (arith, b))
times_of-stations (d ∷ ds) [] ts a b = absurd (omega (arith, a))
times_of-stations (d ∷ ds) (o ∷ os) [] a b = absurd (omega (arith, b))
times_of-stations (d ∷ ds) (o ∷ os) (t ∷ ts) a b = ap (λ (l : List (Option Times)). t ∷ l) (times_of-stations ds os ts (omega (arith, a)) (omega (arith, b)))

passes_at : {P : Type 0} (ss : List (Station P)) → map (λ (d : Desk P). d.pass) (desks_of ss) ≡ map (λ s. s.desk.pass) ss
passes_at [] = refl
passes_at {P} (s ∷ ss) = ap (λ (l : List P). s.desk.pass ∷ l) (passes_at ss)

-- ---- the whole run

pub runs_all : {P O T : Type 0} (f : O → OutState) (g : T → Option Times) (house : HouseCalls P) (config : Config) (groups : List Group) (port : ℕ) (old : DispatchState P) (announcing : AnnounceState P)
    (items_left : Option (List InboxItem)) (inbox_faults : ℕ) (read : Result (Unit {0}) RunFault) (qs : List TableId)
    (desks desks_then desks_left : List (Desk P)) (desks_end : List (Desk P)) (outs outs_left : List O) (outs_end : List OutState) (clocks clocks_left : List T) (times_end : List (Option Times))
    (lanes lanes' : List LaneState) (started noise : NoiseCounts) (ports_then ports ports_end : List Port) (passes passes' : List P) (rows rows' : List TallyRow)
    → desks_then ≡ desks → desks_end ≡ desks_left → started ≡ old.noise → ports_then ≡ old.ports → ports_end ≡ ports
    → AreSeated house 0 qs desks old.ports → length outs ≡ length desks → length clocks ≡ length desks
    → Leads house config groups port (record old { ports = ports_then; noise = started }) (record { ports = ports; noise = noise; announcing = announcing; left = items_left; faults = inbox_faults }) read
    → AllWorked house (stations desks_then (map f outs) (map g clocks)) (stations desks_left (map f outs_left) (map g clocks_left))
    → AllRun lanes lanes'
    → FinishesAll house desks_end ports_end (map f outs_left) outs_end (map g clocks_left) times_end passes passes' rows rows'
    → RunsAll house config groups port old announcing items_left inbox_faults read (map (λ (d : Desk P). d.pass) desks) (map f outs) outs_end (map g clocks) times_end lanes lanes' passes passes' rows rows'
runs_all {P} f g house config groups port old announcing items_left inbox_faults read qs desks desks_then desks_left desks_end outs outs_left outs_end clocks clocks_left times_end lanes lanes' started noise ports_then ports ports_end passes passes' rows rows' then_is end_is noise_was ports_were ports_is seated a b runs_then workers ran ends =
    let end : DispatchState P = record { ports = ports; noise = noise; announcing = announcing; left = items_left; faults = inbox_faults } in
    let runs : Leads house config groups port old end read =
    subst (λ (l : List Port). Leads house config groups port (record old { ports = l }) end read) ports_were
    (subst (λ (n : NoiseCounts). Leads house config groups port (record old { ports = ports_then; noise = n }) end read) noise_was runs_then) in
    let os : List OutState = map f outs in
    let ts : List (Option Times) = map g clocks in
    let ss : List (Station P) = stations desks os ts in
    let es : List (Ending P) = ends.endings in
    let count_outs : length os ≡ length desks = length-map outs f ∙ a in
    let count_times : length ts ≡ length desks = length-map clocks g ∙ b in
    let same : stations desks_left (map f outs_left) (map g clocks_left) ≡ map (λ (e : Ending P). e.left) es =
    ap (λ (l : List (Desk P)). stations l (map f outs_left) (map g clocks_left)) (sym end_is ∙ ends.desks_are)
    ∙ (ap (λ (l : List OutState). stations (map (λ (e : Ending P). e.left.desk) es) l (map g clocks_left)) ends.outs_were
    ∙ (ap (λ (l : List (Option Times)). stations (map (λ (e : Ending P). e.left.desk) es) (map (λ (e : Ending P). e.left.out) es) l) ends.times_were
    ∙ stations_left es)) in
    let worked : AllWorked house ss (map (λ (e : Ending P). e.left) es) =
    subst (λ (l : List (Station P)). AllWorked house ss l) same
    (subst (λ (l : List (Desk P)). AllWorked house (stations l os ts) (stations desks_left (map f outs_left) (map g clocks_left))) then_is workers) in
    let at_desks : AreSeated house 0 qs (desks_of ss) old.ports =
    subst (λ (l : List (Desk P)). AreSeated house 0 qs l old.ports) (sym (desks_of-stations desks os ts count_outs count_times)) seated in
    let after : ArePortsAfter 0 runs.dispatched old.ports (map (λ (e : Ending P). e.port) es) =
    subst (λ (l : List Port). ArePortsAfter 0 runs.dispatched old.ports l) (sym ports_is ∙ ends.ports_are) runs.ports in
    record {
      ports = ports;
      noise = noise;
      runs = runs;
      shards = runs_of ss es;
      each = serves_each house 0 runs.dispatched qs ss old.ports es at_desks worked ends.each after;
      seated_were = ap (λ (l : List (Desk P)). map (λ (d : Desk P). d.pass) l) (sym (desks_of-stations desks os ts count_outs count_times))
          ∙ (passes_at ss ∙ before_all (λ r. r.old.pass) (λ s. s.desk.pass) (λ s e. refl) house ss es worked);
      outs_were = sym (outs_of-stations desks os ts count_outs count_times) ∙ before_all (λ r. out_of r.old) (λ s. s.out) (λ s e. refl) house ss es worked;
      outs_are = ends.outs_are ∙ after_all (λ r. out_of r.new) (λ e. e.done.out) (λ s e. refl) house ss es worked;
      times_were = sym (times_of-stations desks os ts count_outs count_times) ∙ before_all (λ r. r.old.times) (λ s. s.times) (λ s e. refl) house ss es worked;
      times_are = ends.times_are ∙ after_all (λ r. r.new.times) (λ e. e.done.times) (λ s e. refl) house ss es worked;
      passes_are = ends.passes_are ∙ ap (λ (l : List P). passes ++ l) (after_all (λ r. r.new.pass) (λ e. e.done.desk.pass) (λ s e. refl) house ss es worked);
      rows_are = ends.rows_are ∙ ap (λ (l : List TallyRow). rows ++ l) (after_all (λ r. r.row) (λ e. joined_rows e.done.desk.row e.port.row) (λ s e. refl) house ss es worked);
      lanes = ran;
    }
