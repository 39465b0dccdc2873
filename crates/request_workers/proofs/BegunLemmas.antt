-- From a room with a seat for each external address to the run of all threads.
use Rattle.std.proofs.Common.{◌≡◌, ℕ, ◌+◌, List, [], ◌∷◌, ◌++◌, length, map, Option, Result, sym, ap, ◌∙◌, subst}
use Rattle.std.specs.List.{AllByRecursion}
use Rattle.std.proofs.lemmas.List.{length-map}
use Rattle.atomic_table.specs.Seated.{TableId}
use Rattle.pcp_base.specs.declared.configs.Config.{Config}
use Rattle.pcp_announce.specs.declared.doors.Group.{Group}
use Rattle.pcp_io.specs.declared.inboxes.InboxItem.{InboxItem}
use Rattle.pcp_io.specs.Times.{Times}
use Rattle.lane_loops.specs.LaneRuns.{LaneState}
use Rattle.job_workers.specs.declared.tallies.TallyRow.{TallyRow}
use Rattle.job_workers.specs.declared.workers.Desk.{Desk}
use Rattle.job_workers.specs.HouseCalls.{HouseCalls}
use Rattle.job_workers.specs.Stations.{OutState}
use Rattle.job_dispatch.specs.declared.ports.Port.{Port}
use Rattle.job_dispatch.specs.Announcing.{AnnounceState}
use Rattle.job_dispatch.specs.Dispatches.{NoneWaits}
use Rattle.job_dispatch.specs.Dispatching.{DispatchState}
use Rattle.request_workers.specs.declared.faults.RunFault.{RunFault}
use Rattle.request_workers.specs.Seats.{AreSeated, Seats}
use Rattle.request_workers.specs.Served.{RunsAll}
use Rattle.request_workers.proofs.ServeLemmas.{desks-length}

behind_none : {X : Type 0} (old new added : List X) → new ≡ old ++ added → old ≡ [] → new ≡ added
behind_none {X} old new added e none = e ∙ ap (λ (l : List X). l ++ added) none

-- each pass sits at its desk
pub seated_of : {P : Type 0} (house : HouseCalls P) (passes : List P) (qs qs' : List TableId) (ds ds' : List (Desk P)) (ps ps' : List Port)
    → qs ≡ [] → ds ≡ [] → ps ≡ [] → Seats house 0 passes qs qs' ds ds' ps ps' → AreSeated house 0 qs' ds' ps'
seated_of {P} house passes qs qs' ds ds' ps ps' a b c s =
    subst (λ (l : List TableId). AreSeated house 0 l ds' ps') (sym (behind_none qs qs' s.queues s.queues_are a))
    (subst (λ (l : List (Desk P)). AreSeated house 0 s.queues l ps') (sym (behind_none ds ds' s.desks s.desks_are b))
    (subst (λ (l : List Port). AreSeated house 0 s.queues s.desks l) (sym (behind_none ps ps' s.ports s.ports_are c)) s.seated))

-- and nothing was put for it
pub nothing_put : {P : Type 0} (house : HouseCalls P) (shard : ℕ) (qs : List TableId) (ds : List (Desk P)) (ps : List Port) → AreSeated house shard qs ds ps
    → AllByRecursion (λ (p : Port). p.putter.put ≡ []) ps
nothing_put house shard [] [] [] h = tt
nothing_put house shard [] [] (p ∷ ps) h = absurd h
nothing_put house shard [] (d ∷ ds) ps h = absurd h
nothing_put house shard (q ∷ qs) [] ps h = absurd h
nothing_put house shard (q ∷ qs) (d ∷ ds) [] h = absurd h
nothing_put house shard (q ∷ qs) (d ∷ ds) (p ∷ ps) h = (h.0.put, nothing_put house (shard + 1) qs ds ps h.1)

-- and no loss waits
pub none_waiting : {P : Type 0} (house : HouseCalls P) (shard : ℕ) (qs : List TableId) (ds : List (Desk P)) (ps : List Port) → AreSeated house shard qs ds ps → NoneWaits ps
none_waiting house shard [] [] [] h = tt
none_waiting house shard [] [] (p ∷ ps) h = absurd h
none_waiting house shard [] (d ∷ ds) ps h = absurd h
none_waiting house shard (q ∷ qs) [] ps h = absurd h
none_waiting house shard (q ∷ qs) (d ∷ ds) [] h = absurd h
none_waiting house shard (q ∷ qs) (d ∷ ds) (p ∷ ps) h = (h.0.waits, none_waiting house (shard + 1) qs ds ps h.1)

pub passes_of : {P : Type 0} (house : HouseCalls P) (passes : List P) (qs qs' : List TableId) (ds ds' : List (Desk P)) (ps ps' : List Port)
    → ds ≡ [] → Seats house 0 passes qs qs' ds ds' ps ps' → map (λ (d : Desk P). d.pass) ds' ≡ passes
passes_of {P} house passes qs qs' ds ds' ps ps' b s =
    ap (λ (l : List (Desk P)). map (λ (d : Desk P). d.pass) l) (behind_none ds ds' s.desks s.desks_are b) ∙ s.passes_are

pub queues-length : {P : Type 0} (house : HouseCalls P) (passes : List P) (qs qs' : List TableId) (ds ds' : List (Desk P)) (ps ps' : List Port)
    → qs ≡ [] → ds ≡ [] → ps ≡ [] → Seats house 0 passes qs qs' ds ds' ps ps' → length qs' ≡ length passes
queues-length {P} house passes qs qs' ds ds' ps ps' a b c s =
    sym (desks-length house 0 qs' ds' ps' (seated_of house passes qs qs' ds ds' ps ps' a b c s))
    ∙ (sym (length-map ds' (λ (d : Desk P). d.pass)) ∙ ap length (passes_of house passes qs qs' ds ds' ps ps' b s))

-- the run of all threads, from the passes as they were
pub of_runs : {P : Type 0} (house : HouseCalls P) (config : Config) (groups : List Group) (port : ℕ) (dispatcher : DispatchState P) (announcing : AnnounceState P)
    (left : Option (List InboxItem)) (faults : ℕ) (read : Result (Unit {0}) RunFault) (seated passes : List P) (outs outs' : List OutState) (times times' : List (Option Times))
    (lanes lanes' : List LaneState) (mid passes' : List P) (row_mid rows' : List TallyRow) → seated ≡ passes → mid ≡ [] → row_mid ≡ []
    → RunsAll house config groups port dispatcher announcing left faults read seated outs outs' times times' lanes lanes' mid passes' row_mid rows'
    → RunsAll house config groups port dispatcher announcing left faults read passes outs outs' times times' lanes lanes' [] passes' [] rows'
of_runs {P} house config groups port dispatcher announcing left faults read seated passes outs outs' times times' lanes lanes' mid passes' row_mid rows' a b c r =
    subst (λ (l : List P). RunsAll house config groups port dispatcher announcing left faults read l outs outs' times times' lanes lanes' [] passes' [] rows') a
    (subst (λ (l : List P). RunsAll house config groups port dispatcher announcing left faults read seated outs outs' times times' lanes lanes' l passes' [] rows') b
    (subst (λ (l : List TallyRow). RunsAll house config groups port dispatcher announcing left faults read seated outs outs' times times' lanes lanes' mid passes' l rows') c r))
