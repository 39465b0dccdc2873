-- What is promised of each external address of a house that was served to its end.
use Rattle.std.proofs.Common.{◌≡◌, ◌∙◌, ◌⊎◌, inl, inr, ℕ, zero, suc, ◌+◌, ◌<◌, Bool, List, [], ◌∷◌, ◌++◌, length, map, get_or, Some, Option, option_map, Result, Ok, Err, refl, sym, ap, subst, arith}
use Rattle.std.specs.List.{slice_get}
use Rattle.std.proofs.lemmas.List.{length-append, length-map}
use Rattle.std.proofs.lemmas.Option.{slice_get-get_or, slice_get-map, slice_get_within}
use Rattle.pcp_base.specs.declared.configs.Config.{Config}
use Rattle.pcp_base.specs.declared.configs.External.{External}
use Rattle.pcp_announce.specs.declared.doors.Group.{Group}
use Rattle.lease_disk.specs.declared.disks.DiskPair.{DiskPair}
use Rattle.lease_histories.specs.Entries.{Served}
use Rattle.lease_histories.specs.Promises.{KeepsPromises}
use Rattle.job_workers.specs.declared.tallies.TallyRow.{TallyRow}
use Rattle.job_workers.specs.HouseCalls.{HouseCalls}
use Rattle.job_workers.specs.Stations.{OutState}
use Rattle.job_dispatch.specs.Dispatches.{Dispatched}
use Rattle.request_workers.specs.declared.faults.RunFault.{RunFault}
use Rattle.request_workers.specs.declared.faults.ServeFault.{ServeFault}
use Rattle.request_workers.specs.declared.faults.ServeFault.TheVariants as ServeFaults
use Rattle.request_workers.specs.BegunHouses.{AnswersBegun, ServesBegun}
use Rattle.request_workers.specs.Parts.{BegunState}
use Rattle.request_workers.specs.Passes.{SplitsFirst}
use Rattle.request_workers.specs.Served.{AreShardRuns, IsShardRun, ShardRun, out_of}
use Rattle.turn_lock.specs.Passes.{TurnName}
use Rattle.turned_shards.specs.declared.openings.Opening.{Opening}
use Rattle.turned_shards.specs.declared.passes.HousePass.{HousePass}
use Rattle.turned_shards.specs.Crashes.{doubts_in}
use Rattle.turned_shards.specs.Shards.{served_by}
use Rattle.shared_house.specs.declared.beginning.Begun.{Begun}
use Rattle.shared_house.specs.Beginnings.{Begins}
use Rattle.shared_house.specs.HouseCalls.{BeginsAt}
use Rattle.house_workers.specs.HouseCallsOf.{calls_of}
use Rattle.house_workers.specs.Laws.{PromisesAreKept}
use Rattle.house_workers.specs.OwnEntries.{HandsReplies, answered_in}
use Rattle.house_workers.specs.Promised.{IsServedAsPromised}
use Rattle.house_workers.specs.ServingAll.{Edges, ServesToEnd}
use Rattle.house_workers.proofs.CrashLemmas.{IsOpenedAndEnded, acknowledged, begun_pass, ended_at, first_of, kept_of, nothing_acknowledged}
use Rattle.house_workers.proofs.EndLemmas.{count_back, pass_at}
use Rattle.house_workers.proofs.OwnLemmas.{noted_along}
use Rattle.house_workers.proofs.RefusedLemmas.{refused_along}
use Rattle.house_workers.proofs.ReplyLemmas.{hands_nothing, replies_along}

some_of : {X : Type 0} (x y : X) → Some x ≡ Some y → x ≡ y
some_of x y e = cc

-- ---- the worker of an external address

-- what stands in front of two others
in_front : {X : Type 0} (xs ys zs : List X) (i : ℕ) (x : X) → i < length xs → slice_get ((xs ++ ys) ++ zs) i ≡ Some x
    → slice_get xs i ≡ Some x
in_front xs ys zs i x small there =
    let sum = length-append xs ys in
    first_of xs ys i x small (first_of (xs ++ ys) zs i x (omega (arith, small, sum)) there)

-- the run that stands there
run_there : {P : Type 0} (house : HouseCalls P) (shard : ℕ) (ds : List Dispatched) (rs : List (ShardRun P)) (i : ℕ)
    → AreShardRuns house shard ds rs → i < length rs
    → (n : ℕ) × (r : ShardRun P) × IsShardRun house n ds r × (slice_get rs i ≡ Some r)
run_there house shard ds [] i runs small = absurd (omega (arith, small))
run_there house shard ds (r ∷ rs) zero runs small = (shard, r, runs.0, refl)
run_there house shard ds (r ∷ rs) (suc i) runs small = run_there house (shard + 1) ds rs i runs.1 (omega (arith, small))

there_mapped : {X Y : Type 0} (f : X → Y) (xs : List X) (i : ℕ) (x : X) → slice_get xs i ≡ Some x → slice_get (map f xs) i ≡ Some (f x)
there_mapped f xs i x there = slice_get-map f xs i ∙ ap (option_map f) there

-- a run whose pass stood there when all began, and stands there at the end
pub record RanThere {P : Type 0} (house : HouseCalls P) (first passes : List P) (place : ℕ) : Type 0 where
  pub shard : ℕ
  pub ds : List Dispatched
  pub run : ShardRun P
  pub is : IsShardRun house shard ds run
  pub kept : List P
  pub asking : P
  pub splits : SplitsFirst house first kept asking
  pub began : slice_get kept place ≡ Some run.old.pass
  pub pass : slice_get passes place ≡ Some run.new.pass

-- whose outbox told this
record HasWorked {P : Type 0} (house : HouseCalls P) (first passes : List P) (place : ℕ) (out_before out_now : OutState)
    : Type 0 where
  one : RanThere house first passes place
  before : out_before ≡ out_of one.run.old
  now : out_now ≡ out_of one.run.new

run_at : {P : Type 0} (house : HouseCalls P) (config : Config) (groups : List Group) (port : ℕ) (fresh : Bool) (old new : BegunState P)
    (read : Result (Unit {0}) RunFault) (rows : List TallyRow) (place : ℕ)
    → (served : ServesBegun house config groups port fresh old new read rows) → place < length config.externals
    → (one : RanThere house old.passes new.passes place)
    × (slice_get served.served.before.outs place ≡ Some (out_of one.run.old))
    × (slice_get served.served.after.outs place ≡ Some (out_of one.run.new))
run_at {P} house config groups port fresh old new read rows place served within =
    let p = served.served in
    let runs = p.serves.runs in
    let count = p.parts_were.out_count in
    let many = ap length runs.outs_were ∙ length-map runs.shards (λ (r : ShardRun P). out_of r.old) in
    let run = run_there house 0 runs.runs.dispatched runs.shards place runs.each (omega (arith, within, count, many)) in
    let r : ShardRun P = run.1 in (
      record {
        shard = run.0;
        ds = runs.runs.dispatched;
        run = r;
        is = run.2;
        kept = served.passes;
        asking = served.asking;
        splits = served.splits;
        began = ap (λ (l : List P). slice_get l place) runs.seated_were ∙ there_mapped (λ (x : ShardRun P). x.old.pass) runs.shards place r run.3;
        pass = ap (λ (l : List P). slice_get l place) runs.passes_are ∙ there_mapped (λ (x : ShardRun P). x.new.pass) runs.shards place r run.3;
      },
      ap (λ (l : List OutState). slice_get l place) runs.outs_were ∙ there_mapped (λ (x : ShardRun P). out_of x.old) runs.shards place r run.3,
      ap (λ (l : List OutState). slice_get l place) runs.outs_are ∙ there_mapped (λ (x : ShardRun P). out_of x.new) runs.shards place r run.3,
    )

worked_at : {P : Type 0} (house : HouseCalls P) (config : Config) (groups : List Group) (port : ℕ) (fresh : Bool) (old new : BegunState P)
    (read : Result (Unit {0}) RunFault) (rows : List TallyRow) (place : ℕ) (out_before out_now : OutState)
    → ServesBegun house config groups port fresh old new read rows → place < length config.externals
    → slice_get old.outs place ≡ Some out_before → slice_get new.outs place ≡ Some out_now
    → HasWorked house old.passes new.passes place out_before out_now
worked_at {P} house config groups port fresh old new read rows place out_before out_now served within sent told =
    let p = served.served in
    let count = p.parts_were.out_count in
    let count_now = p.parts_are.out_count in
    let run = run_at house config groups port fresh old new read rows place served within in
    let was : slice_get p.before.outs place ≡ Some out_before =
    in_front p.before.outs p.spare.outs (p.before.out ∷ []) place out_before (omega (arith, within, count))
    (subst (λ (l : List OutState). slice_get l place ≡ Some out_before) p.parts_were.outs sent) in
    let is : slice_get p.after.outs place ≡ Some out_now =
    in_front p.after.outs p.spare.outs (p.after.out ∷ []) place out_now (omega (arith, within, count_now))
    (subst (λ (l : List OutState). slice_get l place ≡ Some out_now) p.parts_are.outs told) in
    record {
      one = run.0;
      before = some_of out_before (out_of run.0.run.old) (sym was ∙ run.1);
      now = some_of out_now (out_of run.0.run.new) (sym is ∙ run.2);
    }

-- so it was, or nothing was served
worked : {P : Type 0} (house : HouseCalls P) (config : Config) (groups : List Group) (port : ℕ) (fresh : Bool) (old new : BegunState P)
    (result : Result (List TallyRow) ServeFault) (place : ℕ) (out_before out_now : OutState)
    → AnswersBegun house config groups port fresh old new result → place < length config.externals
    → slice_get old.outs place ≡ Some out_before → slice_get new.outs place ≡ Some out_now
    → (new ≡ old) ⊎ HasWorked house old.passes new.passes place out_before out_now
worked house config groups port fresh old new (Ok rows) place out_before out_now h within sent told =
    inr (worked_at house config groups port fresh old new _ rows place out_before out_now h within sent told)
worked house config groups port fresh old new (Err ServeFaults.Read) place out_before out_now h within sent told =
    inr (worked_at house config groups port fresh old new _ h.rows place out_before out_now h.served within sent told)
worked house config groups port fresh old new (Err ServeFaults.Threads) place out_before out_now h within sent told =
    inr (worked_at house config groups port fresh old new _ h.rows place out_before out_now h.served within sent told)
worked house config groups port fresh old new (Err ServeFaults.Memory) place out_before out_now h within sent told = inl h

-- the same without outboxes
pub ran : {P : Type 0} (house : HouseCalls P) (config : Config) (groups : List Group) (port : ℕ) (fresh : Bool) (old new : BegunState P)
    (result : Result (List TallyRow) ServeFault) (place : ℕ)
    → AnswersBegun house config groups port fresh old new result → place < length config.externals
    → (new ≡ old) ⊎ RanThere house old.passes new.passes place
ran house config groups port fresh old new (Ok rows) place h within =
    inr (run_at house config groups port fresh old new _ rows place h within).0
ran house config groups port fresh old new (Err ServeFaults.Read) place h within =
    inr (run_at house config groups port fresh old new _ h.rows place h.served within).0
ran house config groups port fresh old new (Err ServeFaults.Threads) place h within =
    inr (run_at house config groups port fresh old new _ h.rows place h.served within).0
ran house config groups port fresh old new (Err ServeFaults.Memory) place h within = inl h

module _ {D : Type 0} (tells : Type 0) (seen : D → List ℕ) (moment : D → ℕ)
    (left_since : D → ℕ → List ℕ → Type 0) (may_leave : D → List ℕ → Type 0) (faults : D → ℕ)
  where
    -- where nothing was served
    unserved : (turns : List (TurnName (Opening D))) (config : Config) (m place : ℕ) (x : External) (p now : DiskPair D) (old last : HousePass D)
        (out_before out_now : OutState) → out_now ≡ out_before
        → IsOpenedAndEnded tells seen moment left_since may_leave faults turns config m place x p now old last
        → IsServedAsPromised tells seen moment left_since may_leave faults config m place x p now out_before out_now
    unserved turns config m place x p now old last out_before out_now same whole = record {
      opening = whole.o;
      served = whole.served;
      opened = whole.opened;
      history = last.history.seen;
      promises = whole.ends.promises;
      doubts = doubts_in last.history.marks;
      crash = kept_of tells seen moment left_since may_leave faults m x whole.o p now config old last whole.opened whole.ends;
      calls = [];
      refused = tt;
      answered = [];
      answered_are = refl;
      replies = subst (λ (s : OutState). HandsReplies [] out_before s) (sym same) (hands_nothing out_before);
      acknowledged = nothing_acknowledged tells seen moment left_since may_leave faults whole.o old last now whole.ends;
    }

    -- where its worker ran
    worked_for : (begun : Begun D) (first passes : List (HousePass D)) (config : Config) (m place : ℕ) (x : External) (p now : DiskPair D) (last : HousePass D)
        (out_before out_now : OutState)
        → (w : HasWorked (calls_of tells seen moment left_since may_leave faults begun.house) first passes place out_before out_now)
        → IsOpenedAndEnded tells seen moment left_since may_leave faults begun.house.turns config m place x p now w.one.run.new.pass last
        → IsServedAsPromised tells seen moment left_since may_leave faults config m place x p now out_before out_now
    worked_for begun first passes config m place x p now last out_before out_now w whole =
        let does = w.one.is.works.does in
        let calls = w.one.is.works.calls in
        let old : HousePass D = w.one.run.old.pass in
        let is = pass_at tells seen moment left_since may_leave faults begun.house 0 w.one.kept place old w.one.splits.passes w.one.began in
        let at : old.shard ≡ place = is.1 ∙ (let e : 0 + place ≡ place = omega arith in e) in
        let opens : BeginsAt begun.house old.shard whole.o = (
          whole.turn,
          subst (λ n. slice_get begun.house.turns n ≡ Some whole.turn) (sym at) whole.there,
          whole.key,
        ) in
        let told : HandsReplies (answered_in calls) (out_of w.one.run.old) (out_of w.one.run.new) =
        replies_along tells seen moment left_since may_leave faults begun.house calls w.one.run.old w.one.run.new does in
        record {
          opening = whole.o;
          served = whole.served;
          opened = whole.opened;
          history = last.history.seen;
          promises = whole.ends.promises;
          doubts = doubts_in last.history.marks;
          crash = kept_of tells seen moment left_since may_leave faults m x whole.o p now config w.one.run.new.pass last whole.opened whole.ends;
          calls = calls;
          refused = refused_along tells seen moment left_since may_leave faults begun.house whole.o calls w.one.run.old
              w.one.run.new last.history.seen last.history.marks
              (record { begins = opens; config = is.0.opens whole.o opens }) does
              (whole.ends.others, sym whole.ends.knows) (whole.ends.more, sym whole.ends.marks);
          answered = answered_in calls;
          answered_are = refl;
          replies = subst (λ (s : OutState). HandsReplies (answered_in calls) s out_now) (sym w.before)
              (subst (λ (s : OutState). HandsReplies (answered_in calls) (out_of w.one.run.old) s) (sym w.now) told);
          acknowledged = acknowledged tells seen moment left_since may_leave faults whole.o calls w.one.run.old.pass w.one.run.new.pass last now
              (noted_along tells seen moment left_since may_leave faults begun.house calls w.one.run.old w.one.run.new does) whole.ends;
        }

    pub promised_at : PromisesAreKept D tells seen moment left_since may_leave faults
    promised_at config groups port m before pairs begun old new result begins serves place x p now out_before out_now at there back sent told =
        let calls = calls_of tells seen moment left_since may_leave faults begun.house in
        let within = slice_get_within config.externals place x at in
        let first = begun_pass tells seen moment left_since may_leave faults config m before begun place x p begins at there in
        let passes = count_back tells seen moment left_since may_leave faults begun.house config groups port begun.fresh _ serves.then result serves.answers in
        let seats = slice_get_within begun.passes.items place first.0 first.1 in
        let counts = serves.ends.count_passes in
        let then : List (HousePass D) = serves.then.passes in
        let few : place < length then = omega (arith, seats, passes) in
        let many : place < length serves.ended = omega (arith, few, counts) in
        let last : HousePass D = get_or serves.ended place first.0 in
        let came : slice_get serves.ended place ≡ Some last = slice_get-get_or serves.ended place first.0 many in
        let whole : (q : HousePass D) → slice_get then place ≡ Some q
        → IsOpenedAndEnded tells seen moment left_since may_leave faults begun.house.turns config m place x p now q last =
        λ q passed. ended_at tells seen moment left_since may_leave faults config m before pairs begun then serves.ended place x p now q last
        begins serves.ends at there back passed came in
        let outs : slice_get serves.then.outs place ≡ Some out_now =
        subst (λ (e : Edges). slice_get e.outs place ≡ Some out_now) serves.edges told in
        elim (worked calls config groups port begun.fresh _ serves.then result place out_before out_now serves.answers within sent outs) [
          | inl same ↦ (
              let q : HousePass D = get_or then place first.0 in
              let still : slice_get old.outs place ≡ Some out_now =
              subst (λ (s : BegunState (HousePass D)). slice_get s.outs place ≡ Some out_now) same outs in
              unserved begun.house.turns config m place x p now q last out_before out_now (some_of out_now out_before (sym still ∙ sent))
              (whole q (slice_get-get_or then place first.0 few))
              )
          | inr w ↦ worked_for begun begun.passes.items then config m place x p now last out_before out_now w (whole w.one.run.new.pass w.one.pass)
        ]
