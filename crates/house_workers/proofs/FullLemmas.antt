-- A queue that was full had been filled.
use Rattle.std.proofs.Common.{◌≡◌, ℕ, zero, suc, ◌+◌, ◌-◌, ◌/◌, ◌^◌, ◌<◌, ◌≤◌, min, Bool, true, false, cond, List, [], ◌∷◌, length, fold, map, Option, Some, None, Result, refl, sym, ap, ◌∙◌, subst, length-append, arith}
use Rattle.std.specs.List.{AllByRecursion, count_by, slice_get}
use Rattle.std.proofs.lemmas.Bool.{eqb-true}
use Rattle.pcp_base.specs.declared.configs.Config.{Config}
use Rattle.pcp_announce.specs.declared.doors.Group.{Group}
use Rattle.pcp_io.specs.declared.inboxes.InboxItem.{InboxItem}
use Rattle.job_queue.specs.declared.jobs.Job.{Job}
use Rattle.job_queue.specs.declared.jobs.TheConstants.{MOST_JOBS}
use Rattle.job_queue.specs.Queues.{PutterKnowledge, WasFull}
use Rattle.job_workers.specs.declared.tallies.TallyRow.{TallyRow}
use Rattle.job_workers.specs.HouseCalls.{HouseCalls}
use Rattle.job_dispatch.specs.declared.noise.NoiseCounts.{NoiseCounts}
use Rattle.job_dispatch.specs.declared.ports.Port.{Port}
use Rattle.job_dispatch.specs.Dispatches.{Dispatched, Fate, Given, Late, Put, Full, Waits, Joins, Noise, Starved, Ignored, IsFate, all_put_for, put_by}
use Rattle.job_dispatch.specs.Dispatching.{DispatchState, DoesStep, DoesSteps}
use Rattle.job_dispatch.specs.Noise.{in_second}
use Rattle.job_dispatch.specs.PortsAfter.{ArePortsAfter, IsPortAfter}
use Rattle.job_dispatch.proofs.PortLemmas.{after_step}
use Rattle.request_workers.specs.declared.faults.RunFault.{RunFault}
use Rattle.request_workers.specs.BegunHouses.{ServesBegun}
use Rattle.request_workers.specs.Counts.{counted, is_full}
use Rattle.request_workers.specs.Parts.{BegunState}
use Rattle.request_workers.specs.Served.{AreShardRuns, ShardRun}
use Rattle.request_workers.proofs.CountLemmas.{rows_count}
use Rattle.request_workers.proofs.LeadLemmas.{does_all}
use Rattle.house_workers.specs.Laws.{IsFilled}

-- ---- what ports have put

no_port : {X : Type 0} (i : ℕ) (x : X) → slice_get [] i ≡ Some x → ⊥
no_port i x e = cc

some_same : {X : Type 0} (x y : X) → Some x ≡ Some y → x ≡ y
some_same x y e = cc

-- the port of this place has put so many jobs at most
abbrev AtMost : ℕ → ℕ → List Port → Type 0
AtMost shard n ports = (port : Port) → slice_get ports shard ≡ Some port → length port.putter.put ≤ n

none_put : (shard : ℕ) (ports : List Port) → AllByRecursion (λ (p : Port). p.putter.put ≡ []) ports → AtMost shard 0 ports
none_put shard [] h port e = absurd (no_port shard port e)
none_put zero (p ∷ ps) h port e =
    let none : length p.putter.put ≡ 0 = ap length h.0 in
    let same : length p.putter.put ≡ length port.putter.put = ap (λ (x : Port). length x.putter.put) (some_same p port e) in
    omega (arith, none, same)
none_put (suc i) (p ∷ ps) h port e = none_put i ps h.1 port e

-- what the port of a place was before these items
port_before : (shard i : ℕ) (ds : List Dispatched) (old new : List Port) (q : Port) → ArePortsAfter shard ds old new → slice_get new i ≡ Some q
    → (p : Port) × (slice_get old i ≡ Some p) × IsPortAfter (shard + i) ds p q
port_before shard i ds [] [] q h e = absurd (no_port i q e)
port_before shard i ds [] (n ∷ ns) q h e = absurd h
port_before shard i ds (o ∷ os) [] q h e = absurd h
port_before shard zero ds (o ∷ os) (n ∷ ns) q h e =
    let same : shard ≡ shard + zero = omega arith in
    (o, refl, subst (λ m. IsPortAfter m ds o q) same (subst (λ (x : Port). IsPortAfter shard ds o x) (some_same n q e) h.0))
port_before shard (suc i) ds (o ∷ os) (n ∷ ns) q h e =
    let was = port_before (shard + 1) i ds os ns q h.1 e in
    let same : (shard + 1) + i ≡ shard + suc i = omega arith in
    (was.0, was.1, subst (λ m. IsPortAfter m ds was.0 q) same was.2)

more_put : (shard : ℕ) (ds : List Dispatched) (p q : Port) → IsPortAfter shard ds p q → length q.putter.put ≡ length p.putter.put + length (all_put_for shard ds)
more_put shard ds p q h = ap (λ (x : PutterKnowledge). length x.put) h.putter ∙ length-append p.putter.put (all_put_for shard ds)

at_most_after : (shard n : ℕ) (d : Dispatched) (old new : List Port) → AtMost shard n old → ArePortsAfter 0 (d ∷ []) old new
    → AtMost shard (n + length (all_put_for shard (d ∷ []))) new
at_most_after shard n d old new most after q e =
    let was = port_before 0 shard (d ∷ []) old new q after e in
    let same : 0 + shard ≡ shard = omega arith in
    let more = more_put shard (d ∷ []) was.0 q (subst (λ m. IsPortAfter m (d ∷ []) was.0 q) same was.2) in
    let few = most was.0 was.1 in
    omega (arith, more, few)

put_count : (shard : ℕ) (put : Option Job) (d : Dispatched) (rest : List Dispatched) → put_by shard d ≡ put
    → length (all_put_for shard (d ∷ rest)) ≡ length (all_put_for shard (d ∷ [])) + length (all_put_for shard rest)
put_count shard None d rest e = rw e (omega arith)
put_count shard (Some job) d rest e = rw e (omega arith)

-- ---- a full queue

filled : (put : List Job) → WasFull [] put → MOST_JOBS ≤ length put
filled put was =
    let parts : length put ≡ length was.last.before + length was.items = ap length was.last.parted ∙ length-append was.last.before was.items in
    let full = was.full in
    omega (arith, parts, full)

full_here : (shard n : ℕ) (config : Config) (noise : NoiseCounts) (item : InboxItem) (fate : Fate) (old new : List Port) → AtMost shard n old → IsFate config noise item fate old new
    → is_full shard (Given item fate) ≡ true → MOST_JOBS ≤ n
full_here shard n config noise item (Put at job) old new most f e = absurd (let x : false ≡ true = e in cc)
full_here shard n config noise item (Full at job) old new most f e =
    let same : at ≡ shard = eqb-true at shard e in
    let many = filled f.2.0.putter.put f.2.2 in
    let few = most f.2.0 (subst (λ i. slice_get old i ≡ Some f.2.0) same f.2.1.there) in
    omega (arith, many, few)
full_here shard n config noise item (Waits at) old new most f e = absurd (let x : false ≡ true = e in cc)
full_here shard n config noise item (Joins at) old new most f e = absurd (let x : false ≡ true = e in cc)
full_here shard n config noise item (Noise at job) old new most f e = absurd (let x : false ≡ true = e in cc)
full_here shard n config noise item Starved old new most f e = absurd (let x : false ≡ true = e in cc)
full_here shard n config noise item Ignored old new most f e = absurd (let x : false ≡ true = e in cc)

-- so of each step
full_step : {P : Type 0} (house : HouseCalls P) (config : Config) (groups : List Group) (port shard n : ℕ) (d : Dispatched) (a b : DispatchState P)
    → AtMost shard n a.ports → DoesStep house config groups port d a b → is_full shard d ≡ true → MOST_JOBS ≤ n
full_step house config groups port shard n (Given item fate) a b most does e =
    full_here shard n config (in_second a.noise (does.time / 1000)) item fate a.ports b.ports most does.becomes e
full_step house config groups port shard n (Late at) a b most does e = absurd (let x : false ≡ true = e in cc)

one_more : (n m k l total : ℕ) (full : Bool) → l ≡ k + cond full 1 0 → (full ≡ true → MOST_JOBS ≤ n) → (l < total → MOST_JOBS ≤ n + m) → k < total → MOST_JOBS ≤ n + m
one_more n m k l total true e here rest more =
    let many = here refl in
    omega (arith, many)
one_more n m k l total false e here rest more =
    let same : l ≡ k + 0 = e in
    rest (omega (arith, same, more))

-- Where an item was dropped at a full queue, that many jobs were put into it, before or by these items.
put_where_full : {P : Type 0} (house : HouseCalls P) (config : Config) (groups : List Group) (port shard : ℕ) (ds : List Dispatched) (n k : ℕ) (a b : DispatchState P)
    → AtMost shard n a.ports → DoesSteps house config groups port ds a b → k < fold (λ m (d : Dispatched). m + cond (is_full shard d) 1 0) k ds
    → MOST_JOBS ≤ n + length (all_put_for shard ds)
put_where_full house config groups port shard [] n k a b most does more = absurd (omega (arith, more))
put_where_full house config groups port shard (d ∷ ds) n k a b most does more =
    let one : ℕ = length (all_put_for shard (d ∷ [])) in
    let rest : ℕ = length (all_put_for shard ds) in
    let l : ℕ = k + cond (is_full shard d) 1 0 in
    let total : ℕ = fold (λ m (x : Dispatched). m + cond (is_full shard x) 1 0) l ds in
    let after = at_most_after shard n d a.ports does.0.ports most (after_step house config groups port d a does.0 does.1) in
    let all : length (all_put_for shard (d ∷ ds)) ≡ one + rest = put_count shard (put_by shard d) d ds refl in
    let same : n + (one + rest) ≡ (n + one) + rest = omega arith in
    let got : MOST_JOBS ≤ n + (one + rest) =
    one_more n (one + rest) k l total (is_full shard d) refl
    (full_step house config groups port shard n d a does.0 most does.1)
    (λ h. subst (λ x. MOST_JOBS ≤ x) (sym same) (put_where_full house config groups port shard ds (n + one) l does.0 b after does.2 h)) more in
    subst (λ x. MOST_JOBS ≤ n + x) (sym all) got

-- ---- rows

some_counted : (n most : ℕ) → 0 < min n most → 0 < n
some_counted n most h = omega (arith, h)

kept_count : (j n most : ℕ) → j ≤ most → j ≤ n → j ≤ min n most
kept_count j n most fit h = omega (arith, fit, h)

jobs_fit : MOST_JOBS ≤ 2 ^ 64 - 1
jobs_fit = omega arith

row_filled : (full put : ℕ) (row : TallyRow) → row.full ≡ counted full → row.taken ≡ counted put → (0 < full → MOST_JOBS ≤ put) → IsFilled row
row_filled full put row is taken many some =
    let dropped : 0 < full = some_counted full (2 ^ 64 - 1) (subst (λ n. 0 < n) is some) in
    subst (λ n. MOST_JOBS ≤ n) (sym taken) (kept_count MOST_JOBS put (2 ^ 64 - 1) jobs_fit (many dropped))

rows_filled : {P : Type 0} (house : HouseCalls P) (shard : ℕ) (ds : List Dispatched) (rs : List (ShardRun P)) → AreShardRuns house shard ds rs
    → ((n : ℕ) → 0 < count_by (λ (d : Dispatched). is_full n d) ds → MOST_JOBS ≤ length (all_put_for n ds))
    → AllByRecursion IsFilled (map (λ (r : ShardRun P). r.row) rs)
rows_filled house shard ds [] runs many = tt
rows_filled house shard ds (r ∷ rs) runs many =
    let counts = rows_count house shard ds r runs.0 in
    (row_filled (count_by (λ (d : Dispatched). is_full shard d) ds) (length (all_put_for shard ds)) r.row counts.full counts.taken (many shard), rows_filled house (shard + 1) ds rs runs.1 many)

pub filled_rows : {P : Type 0} (house : HouseCalls P) (config : Config) (groups : List Group) (port : ℕ) (fresh : Bool) (old new : BegunState P) (read : Result (Unit {0}) RunFault) (rows : List TallyRow)
    → ServesBegun house config groups port fresh old new read rows → AllByRecursion IsFilled rows
filled_rows house config groups port fresh old new read rows served =
    let all = served.served.serves in
    let ds = all.runs.runs.dispatched in
    let steps = does_all house config groups port _ _ read all.runs.runs in
    subst (λ (l : List TallyRow). AllByRecursion IsFilled l) (sym all.runs.rows_are)
    (rows_filled house 0 ds all.runs.shards all.runs.each
    (λ n some.
    let got : MOST_JOBS ≤ 0 + length (all_put_for n ds) = put_where_full house config groups port n ds 0 0 _ steps.0 (none_put n all.ports all.nothing) steps.1 some in
    omega (arith, got)))
