-- Lanes that run keep their index, and answer by what they know.
use Rattle.std.proofs.Common.{◌≡◌, ◌∙◌, ℕ, zero, suc, ◌+◌, ◌/◌, ◌<◌, ◌≤◌, Bool, List, [], ◌∷◌, ◌++◌, length, Option}
use Rattle.std.proofs.Common.{Some, Result, Ok, Err, inl, inr, refl, ap, sym, subst, append_assoc, arith}
use Rattle.std.specs.List.{AllZip, slice_get}
use Rattle.std.specs.Option.{option_map}
use Rattle.std.proofs.lemmas.List.{append-nil}
use mathlib.Core.List.{IsPrefix}
use Rattle.pcp_base.specs.declared.configs.Config.{Config}
use Rattle.pcp_base.specs.declared.datagrams.Entry.{Entry}
use Rattle.pcp_base.specs.declared.leases.Endpoint.{Endpoint}
use Rattle.pcp_base.specs.declared.records.Record.{Record}
use Rattle.pcp_base.specs.Apply.{apply_all}
use Rattle.pcp_base.specs.States.{State}
use Rattle.filter_rules.specs.Lookups.{look}
use Rattle.pcp_announce.specs.declared.doors.Group.{Group}
use Rattle.pcp_io.specs.Times.{Times}
use Rattle.lane_index.specs.Lanes.{LaneKnowledge, opening_state}
use Rattle.lane_index.specs.Laws.{LooksDependOnTables}
use Rattle.lane_loops.specs.LaneRuns.{Answered, DoesSteps, EndsLane, Idle, LaneQuestion, LaneState, LaneStep, Looks, RunsLane}
use Rattle.lane_loops.specs.LaneSets.{AllRun, LinkState, lane_states}
use Rattle.lease_histories.specs.Legal.{records_of}
use Rattle.lease_house.proofs.ListLemmas.{get-within}
use Rattle.turn_lock.specs.Passes.{TurnName}
use Rattle.shard_book.specs.Books.{BookView}
use Rattle.job_workers.specs.declared.tallies.TallyRow.{TallyRow}
use Rattle.job_workers.specs.HouseCalls.{HouseCalls}
use Rattle.request_workers.specs.declared.faults.RunFault.{RunFault}
use Rattle.request_workers.specs.declared.faults.ServeFault.{ServeFault}
use Rattle.request_workers.specs.declared.faults.ServeFault.TheVariants as ServeFaults
use Rattle.request_workers.specs.BegunHouses.{AnswersBegun, ServesBegun}
use Rattle.request_workers.specs.Parts.{BegunState}
use Rattle.turned_shards.specs.declared.openings.Opening.{Opening}
use Rattle.turned_shards.specs.declared.passes.HousePass.{HousePass}
use Rattle.shared_house.specs.declared.beginning.Begun.{Begun}
use Rattle.shared_house.specs.Beginnings.{BeginAll}
use Rattle.shared_house.specs.Endings.{AllKnowFirst, AreLanesOf}
use Rattle.shared_house.specs.HouseCalls.{HouseView}
use Rattle.house_workers.specs.HouseCallsOf.{calls_of}
use Rattle.house_workers.specs.Lookups.{AnswersAlong, LooksAlong}
use Rattle.house_workers.specs.ServingAll.{IsBegunFor}
use Rattle.house_workers.proofs.EndLemmas.{begun_lanes}

prefix_trans : {A : Type 0} (xs ys zs : List A) → IsPrefix xs ys → IsPrefix ys zs → IsPrefix xs zs
prefix_trans xs ys zs p q = (p.0 ++ q.0, sym (append_assoc xs p.0 q.0) ∙ (ap (λ w. w ++ q.0) p.1 ∙ q.1))

-- ---- a lane

-- it is of the same index, and knows more
pub record Grows (old new : LaneKnowledge) : Type 0 where
  pub index : new.index ≡ old.index
  pub opening : new.opening ≡ old.opening
  pub known : IsPrefix old.known new.known

grows-same : (old new : LaneKnowledge) → new ≡ old → Grows old new
grows-same old new is = record {
  index = ap (λ (k : LaneKnowledge). k.index) is;
  opening = ap (λ (k : LaneKnowledge). k.opening) is;
  known = ([], append-nil old.known ∙ ap (λ (k : LaneKnowledge). k.known) (sym is));
}

grows-on : (a b c : LaneKnowledge) → Grows a b → Grows b c → Grows a c
grows-on a b c f g = record {
  index = g.index ∙ f.index;
  opening = g.opening ∙ f.opening;
  known = prefix_trans a.known b.known c.known f.known g.known;
}

looks-grow : (q : LaneQuestion) (m : ℕ) (a b : LaneKnowledge) (owner : Option Endpoint) → Looks q m a b owner → Grows a b
looks-grow q m a b owner l = record { index = l.index.0; opening = l.index.1; known = l.known }

steps-grow : (steps : List LaneStep) (old new : LaneState) → DoesSteps steps old new → Grows old.lane new.lane
steps-grow [] old new is = grows-same old.lane new.lane (ap (λ (s : LaneState). s.lane) is)
steps-grow (Answered q owner ∷ steps) old new does =
    grows-on old.lane does.0.lane new.lane (looks-grow q (does.1.looked.time / 1000) old.lane does.0.lane owner does.1.looked.looks) (steps-grow steps does.0 new does.2)
steps-grow (Idle ∷ steps) old new does =
    grows-on old.lane does.0.lane new.lane (grows-same old.lane does.0.lane does.1.same.0) (steps-grow steps does.0 new does.2)

ends-grow : (old new : LaneState) → EndsLane old new → Grows old.lane new.lane
ends-grow old new (inl stop) = grows-same old.lane new.lane stop.same.0
ends-grow old new (inr (inl quiet)) = grows-same old.lane new.lane quiet.same.0
ends-grow old new (inr (inr (inl fails))) = grows-same old.lane new.lane fails.same.0
ends-grow old new (inr (inr (inr fails))) = looks-grow fails.question (fails.looked.time / 1000) old.lane new.lane fails.owner fails.looked.looks

run-grows : (old new : LaneState) → RunsLane old new → Grows old.lane new.lane
run-grows old new r = grows-on old.lane r.last.lane new.lane (steps-grow r.steps old r.last r.does) (ends-grow r.last new r.ends)

module _ (law : LooksDependOnTables) (s : State) where
  along : (all : List Record) (steps : List LaneStep) (old last : LaneState) → DoesSteps steps old last
      → last.lane.opening ≡ opening_state s.table.maps s.table.peers s.last → IsPrefix last.lane.known all
      → AnswersAlong s all old.lane.known steps old last
  along all [] old last is opening known = (is, subst (λ (k : LaneState). IsPrefix k.lane.known all) is known)
  along all (Answered q owner ∷ steps) old last does opening known =
      let mid : LaneState = does.0 in
      let looked = does.1.looked in
      let began : mid.lane.opening ≡ opening_state s.table.maps s.table.peers s.last =
      sym (steps-grow steps mid last does.2).opening ∙ opening in (
        mid,
        mid.lane.known,
        looked.looks.known,
        record {
          asked = looked.asked;
          time = looked.time;
          clock = looked.clock;
          owner_is = looked.looks.owner_is
              ∙ (ap (λ (o : State). look (apply_all o mid.lane.known) q.protocol q.port q.remote q.remote_port (looked.time / 1000)) began
              ∙ law s mid.lane.known q.protocol q.port q.remote q.remote_port (looked.time / 1000));
          taken = does.1.taken;
        },
        along all steps mid last does.2 opening known,
      )
  along all (Idle ∷ steps) old last does opening known = (
    does.0,
    does.1,
    subst (λ (rs : List Record). AnswersAlong s all rs steps does.0 last) (ap (λ (k : LaneKnowledge). k.known) does.1.same.0)
        (along all steps does.0 last does.2 opening known),
  )

  looks-along : (history : List Entry) (old new : LaneState) → RunsLane old new → old.lane.known ≡ []
      → new.lane.opening ≡ opening_state s.table.maps s.table.peers s.last → IsPrefix new.lane.known (records_of history)
      → LooksAlong s history old new
  looks-along history old new r none opening known =
      let end = ends-grow r.last new r.ends in
      record {
        steps = r.steps;
        last = r.last;
        answers = subst (λ (rs : List Record). AnswersAlong s (records_of history) rs r.steps old r.last) none
            (along (records_of history) r.steps old r.last r.does (sym end.opening ∙ opening)
            (prefix_trans r.last.lane.known new.lane.known (records_of history) end.known known));
        ends = r.ends;
      }

-- ---- all lanes

stay-enough : (ls ms : List LaneKnowledge) (ks js : List LinkState) (ts us : List (Option Times)) → AllRun (lane_states ls ks ts) (lane_states ms js us)
    → length ks ≡ length ls → length ts ≡ length ls → length ls ≤ length ms
stay-enough [] ms ks js ts us run many times = omega arith
stay-enough (l ∷ ls) ms [] js ts us run many times = absurd (omega (arith, many))
stay-enough (l ∷ ls) ms (k ∷ ks) js [] us run many times = absurd (omega (arith, times))
stay-enough (l ∷ ls) [] (k ∷ ks) js (t ∷ ts) us run many times = absurd run
stay-enough (l ∷ ls) (m ∷ ms) (k ∷ ks) [] (t ∷ ts) us run many times = absurd run
stay-enough (l ∷ ls) (m ∷ ms) (k ∷ ks) (j ∷ js) (t ∷ ts) [] run many times = absurd run
stay-enough (l ∷ ls) (m ∷ ms) (k ∷ ks) (j ∷ js) (t ∷ ts) (u ∷ us) run many times =
    let rest = stay-enough ls ms ks js ts us run.1 (omega (arith, many)) (omega (arith, times)) in omega (arith, rest)

-- the lane that was at this place
pub record WasAt (ls : List LaneKnowledge) (i : ℕ) (new : LaneKnowledge) : Type 0 where
  pub old : LaneKnowledge
  pub there : slice_get ls i ≡ Some old
  pub grows : Grows old new

stay-at : (ls ms : List LaneKnowledge) (ks js : List LinkState) (ts us : List (Option Times)) (i : ℕ) (new : LaneKnowledge) → AllRun (lane_states ls ks ts) (lane_states ms js us)
    → length ks ≡ length ls → length ts ≡ length ls → i < length ls → slice_get ms i ≡ Some new → WasAt ls i new
stay-at [] ms ks js ts us i new run many times below found = absurd (omega (arith, below))
stay-at (l ∷ ls) ms [] js ts us i new run many times below found = absurd (omega (arith, many))
stay-at (l ∷ ls) ms (k ∷ ks) js [] us i new run many times below found = absurd (omega (arith, times))
stay-at (l ∷ ls) [] (k ∷ ks) js (t ∷ ts) us i new run many times below found = absurd run
stay-at (l ∷ ls) (m ∷ ms) (k ∷ ks) [] (t ∷ ts) us i new run many times below found = absurd run
stay-at (l ∷ ls) (m ∷ ms) (k ∷ ks) (j ∷ js) (t ∷ ts) [] i new run many times below found = absurd run
stay-at (l ∷ ls) (m ∷ ms) (k ∷ ks) (j ∷ js) (t ∷ ts) (u ∷ us) zero new run many times below found =
    let same : m ≡ new = cc in
    record { old = l; there = refl; grows = subst (λ (n : LaneKnowledge). Grows l n) same (run-grows _ _ run.0) }
stay-at (l ∷ ls) (m ∷ ms) (k ∷ ks) (j ∷ js) (t ∷ ts) (u ∷ us) (suc i) new run many times below found =
    let rest : WasAt ls i new = stay-at ls ms ks js ts us i new run.1 (omega (arith, many)) (omega (arith, times)) (omega (arith, below)) found in
    record { old = rest.old; there = rest.there; grows = rest.grows }

-- lanes that ran, or stood still
pub record LanesStay (ls ms : List LaneKnowledge) : Type 0 where
  pub enough : length ls ≤ length ms
  pub each : (i : ℕ) (new : LaneKnowledge) → i < length ls → slice_get ms i ≡ Some new → WasAt ls i new

within-at : (ls : List LaneKnowledge) (i : ℕ) (new : LaneKnowledge) → slice_get ls i ≡ Some new → WasAt ls i new
within-at ls i new found = record { old = new; there = found; grows = grows-same new new refl }

module _ {P : Type 0} (house : HouseCalls P) (config : Config) (groups : List Group) (port : ℕ) (fresh : Bool) where
  begun-stay : (old new : BegunState P) (read : Result (Unit {0}) RunFault) (rows : List TallyRow) → length old.lanes ≡ length config.externals
      → ServesBegun house config groups port fresh old new read rows → LanesStay old.lanes new.lanes
  begun-stay old new read rows count ran =
      let parts = ran.served in
      let many = parts.parts_were.link_count ∙ sym count in
      let times = parts.parts_were.lane_clock_count ∙ sym count in
      record {
        enough = stay-enough old.lanes new.lanes parts.before.links parts.after.links parts.before.lane_clocks parts.after.lane_clocks parts.serves.runs.lanes many times;
        each = λ i lane below found. stay-at old.lanes new.lanes parts.before.links parts.after.links parts.before.lane_clocks parts.after.lane_clocks i lane
            parts.serves.runs.lanes many times below found;
      }

  pub lanes-stay : (old new : BegunState P) (result : Result (List TallyRow) ServeFault) → length old.lanes ≡ length config.externals
      → AnswersBegun house config groups port fresh old new result → LanesStay old.lanes new.lanes
  lanes-stay old new (Ok rows) count h = begun-stay old new (Ok tt) rows count h
  lanes-stay old new (Err ServeFaults.Read) count h = begun-stay old new _ h.rows count h.served
  lanes-stay old new (Err ServeFaults.Threads) count h = begun-stay old new _ h.rows count h.served
  lanes-stay old new (Err ServeFaults.Memory) count h =
      subst (λ (s : BegunState P). LanesStay old.lanes s.lanes) (sym h)
      (record { enough = omega arith; each = λ i lane below found. within-at old.lanes i lane found })

-- ---- the lanes of a house

module _ {D : Type 0} (config : Config) where
  begin-lanes : (k : ℕ) (bs : List (BookView D)) (ts : List (TurnName (Opening D))) (ps : List (HousePass D)) (ls : List LaneKnowledge) → BeginAll config k bs ts ps ls → length ls ≡ length ts
  begin-lanes k [] [] [] [] all = refl
  begin-lanes k [] [] [] (z ∷ ls) all = absurd all
  begin-lanes k [] [] (y ∷ ps) ls all = absurd all
  begin-lanes k [] (x ∷ ts) ps ls all = absurd all
  begin-lanes k (w ∷ bs) [] ps ls all = absurd all
  begin-lanes k (w ∷ bs) (x ∷ ts) [] ls all = absurd all
  begin-lanes k (w ∷ bs) (x ∷ ts) (y ∷ ps) [] all = absurd all
  begin-lanes k (w ∷ bs) (x ∷ ts) (y ∷ ps) (z ∷ ls) all = ap (λ n. suc n) (begin-lanes (k + 1) bs ts ps ls all.1)

  -- the lane at a place
  lane-at : (k : ℕ) (bs : List (BookView D)) (ts : List (TurnName (Opening D))) (ps : List (HousePass D)) (ls : List LaneKnowledge) (i : ℕ) (t : TurnName (Opening D)) (l : LaneKnowledge)
      → BeginAll config k bs ts ps ls → slice_get ts i ≡ Some t → slice_get ls i ≡ Some l → (t.key.lane ≡ l) × (l.known ≡ [])
  lane-at k [] [] [] [] i t l all there found = absurd cc
  lane-at k [] [] [] (z ∷ ls) i t l all there found = absurd all
  lane-at k [] [] (y ∷ ps) ls i t l all there found = absurd all
  lane-at k [] (x ∷ ts) ps ls i t l all there found = absurd all
  lane-at k (w ∷ bs) [] ps ls i t l all there found = absurd all
  lane-at k (w ∷ bs) (x ∷ ts) [] ls i t l all there found = absurd all
  lane-at k (w ∷ bs) (x ∷ ts) (y ∷ ps) [] i t l all there found = absurd all
  lane-at k (w ∷ bs) (x ∷ ts) (y ∷ ps) (z ∷ ls) zero t l all there found =
      let turn : x ≡ t = cc in
      let lane : z ≡ l = cc in (
        ap (λ (u : TurnName (Opening D)). u.key.lane) (sym turn) ∙ (ap (λ (o : Opening D). o.lane) all.0.key ∙ lane),
        ap (λ (u : LaneKnowledge). u.known) (sym lane) ∙ ap (λ (u : LaneKnowledge). u.known) all.0.leases,
      )
  lane-at k (w ∷ bs) (x ∷ ts) (y ∷ ps) (z ∷ ls) (suc i) t l all there found = lane-at (k + 1) bs ts ps ls i t l all.1 there found

-- lanes that stay are those of the turns with which they began
lanes-of : {D : Type 0} (config : Config) (bs : List (BookView D)) (ts : List (TurnName (Opening D))) (ps : List (HousePass D)) (ls ms : List LaneKnowledge) → BeginAll config 0 bs ts ps ls
    → LanesStay ls ms → AreLanesOf ts ms
lanes-of config bs ts ps ls ms all stay =
    let many = begin-lanes config 0 bs ts ps ls all in
    record {
      enough = let enough = stay.enough in omega (arith, many, enough);
      each = λ place turn lane there found.
          let inside = get-within ts place turn there in
          let was = stay.each place lane (omega (arith, inside, many)) found in
          was.grows.index ∙ ap (λ (k : LaneKnowledge). k.index) (sym (lane-at config 0 bs ts ps ls place turn was.old all there was.there).0);
    }

-- the lanes with which a house that was served is ended
pub ends-lanes : {D : Type 0} (tells : Type 0) (seen : D → List ℕ) (moment : D → ℕ) (left_since : D → ℕ → List ℕ → Type 0) (may_leave : D → List ℕ → Type 0) (faults : D → ℕ)
    (config : Config) (begun : Begun D) (is : IsBegunFor tells seen moment left_since may_leave faults config begun) (house back : HouseView D)
    (groups : List Group) (port : ℕ) (fresh : Bool) (old new : BegunState (HousePass D)) (result : Result (List TallyRow) ServeFault)
    → house ≡ begun.house → back ≡ house → old.lanes ≡ begun.lanes.items
    → AnswersBegun (calls_of tells seen moment left_since may_leave faults house) config groups port fresh old new result
    → AreLanesOf back.turns new.lanes
ends-lanes {D = D} tells seen moment left_since may_leave faults config begun is house back groups port fresh old new result same again readers answers =
    let count : length old.lanes ≡ length config.externals = ap length readers ∙ begun_lanes tells seen moment left_since may_leave faults config begun is in
    let stay : LanesStay begun.lanes.items new.lanes =
    subst (λ (l : List LaneKnowledge). LanesStay l new.lanes) readers
    (lanes-stay (calls_of tells seen moment left_since may_leave faults house) config groups port fresh old new result count answers) in
    subst (λ (h : HouseView D). AreLanesOf h.turns new.lanes) (sym (again ∙ same))
    (lanes-of config is.begins.books begun.house.turns begun.passes.items begun.lanes.items new.lanes is.begins.begins.each stay)

-- ---- the law

zip-at : {X Y : Type 0} (R : X → Y → Type 0) (xs : List X) (ys : List Y) (i : ℕ) (x : X) (y : Y) → AllZip R xs ys → slice_get xs i ≡ Some x → slice_get ys i ≡ Some y → R x y
zip-at R [] ys i x y all here there = absurd cc
zip-at R (a ∷ xs) [] i x y all here there = absurd all
zip-at R (a ∷ xs) (b ∷ ys) zero x y all here there =
    let one : a ≡ x = cc in
    let other : b ≡ y = cc in
    subst (λ z. R z y) one (subst (λ z. R a z) other all.0)
zip-at R (a ∷ xs) (b ∷ ys) (suc i) x y all here there = zip-at R xs ys i x y all.1 here there

state-lane : (ls : List LaneKnowledge) (ks : List LinkState) (ts : List (Option Times)) (i : ℕ) (s : LaneState) → slice_get (lane_states ls ks ts) i ≡ Some s → slice_get ls i ≡ Some s.lane
state-lane [] ks ts i s found = absurd cc
state-lane (l ∷ ls) [] ts i s found = absurd cc
state-lane (l ∷ ls) (k ∷ ks) [] i s found = absurd cc
state-lane (l ∷ ls) (k ∷ ks) (t ∷ ts) zero s found = ap (λ (o : Option LaneState). option_map (λ (u : LaneState). u.lane) o) found
state-lane (l ∷ ls) (k ∷ ks) (t ∷ ts) (suc i) s found = state-lane ls ks ts i s found

pub looked-at : {D : Type 0} (law : LooksDependOnTables) (config : Config) (bs : List (BookView D)) (ts : List (TurnName (Opening D))) (ps ended : List (HousePass D)) (ls ms : List LaneKnowledge)
    (ks js : List LinkState) (us vs : List (Option Times)) (place : ℕ) (turn : TurnName (Opening D)) (last : HousePass D) (was is : LaneState) → BeginAll config 0 bs ts ps ls
    → AllKnowFirst ts ended ms → AllRun (lane_states ls ks us) (lane_states ms js vs) → slice_get ts place ≡ Some turn → slice_get ended place ≡ Some last
    → slice_get (lane_states ls ks us) place ≡ Some was → slice_get (lane_states ms js vs) place ≡ Some is → LooksAlong turn.key.book.state last.history.seen was is
looked-at law config bs ts ps ended ls ms ks js us vs place turn last was is all known run there came here now =
    let knows = known place turn last is.lane there came (state-lane ms js vs place is now) in
    looks-along law turn.key.book.state last.history.seen was is (zip-at RunsLane (lane_states ls ks us) (lane_states ms js vs) place was is run here now)
    (lane-at config 0 bs ts ps ls place turn was.lane all there (state-lane ls ks us place was here)).1 knows.opening knows.known
