-- Jobs that count as faulted, and faults that were noted.
use Rattle.std.proofs.Common.{◌≡◌, ℕ, ◌+◌, ◌*◌, ◌/◌, ◌≤◌, cond, List, [], ◌∷◌, ◌++◌, length, sym, ap, ◌∙◌, subst, inl, inr, arith}
use Rattle.std.proofs.lemmas.List.Sums.{sum_by-append}
use Rattle.lease_disk.specs.declared.disks.DiskPair.{DiskPair}
use Rattle.pcp_base.specs.declared.datagrams.Entry.{Entry}
use Rattle.journal_sides.specs.declared.errors.JournalFault.{JournalFault}
use Rattle.journal_sides.specs.declared.errors.JournalFault.TheVariants as JournalFaults
use Rattle.lease_histories.specs.Entries.{entry_kind}
use Rattle.lease_house.specs.declared.faults.HouseFault.{HouseFault}
use Rattle.lease_house.specs.declared.faults.HouseFault.TheVariants as HouseFaults
use Rattle.lease_house.specs.SoloCalls.{fault_at as fault_of}
use Rattle.job_queue.specs.declared.batches.TheConstants.{MOST_BATCH}
use Rattle.job_queue.specs.declared.jobs.Job.{Job}
use Rattle.job_workers.specs.declared.tallies.TallyRow.{TallyRow}
use Rattle.job_workers.specs.Works.{DoesCalls, IsOfHouse, Lost, Refused, Replied, WorkCall, WorkResult, WorkState, row_by}
use Rattle.job_dispatch.specs.Dispatches.{Dispatched}
use Rattle.request_workers.specs.Served.{IsShardRun, ShardRun}
use Rattle.turn_lock.specs.Passes.{PassKnowledge}
use Rattle.turned_shards.specs.declared.marks.Mark.{Mark}
use Rattle.turned_shards.specs.declared.openings.Opening.{Opening}
use Rattle.turned_shards.specs.declared.passes.HousePass.{HousePass}
use Rattle.turned_shards.specs.FaultCounts.{HaveRisenBy, fault_count, is_of_fault}
use Rattle.shared_house.specs.HouseCalls.{AddsTo, HouseView, Notes, before_own}
use Rattle.turned_shards.specs.Turnings.{EndsOne}
use Rattle.house_workers.specs.HouseCallsOf.{NotesOwn, calls_of}
use Rattle.house_workers.specs.Laws.{AreFewFaults}

-- ---- faults in histories

counts-append : (xs ys : List Entry) → fault_count (xs ++ ys) ≡ fault_count xs + fault_count ys
counts-append xs ys = sum_by-append (λ (e : Entry). cond {A = ℕ} (is_of_fault (entry_kind e)) 1 0) xs ys

counted_in : {D : Type 0} (old new : PassKnowledge Entry (Mark D)) (others settling own : List Entry) → Notes old new others settling own
    → fault_count old.seen + fault_count own ≤ fault_count new.seen
counted_in old new others settling own h =
    let all = ap fault_count h.seen in
    let a = counts-append ((old.seen ++ others) ++ settling) own in
    let b = counts-append (old.seen ++ others) settling in
    let c = counts-append old.seen others in
    omega (arith, all, a, b, c)

-- ---- calls that a disk refused

abbrev pub refusal_in : WorkResult → ℕ
refusal_in (Replied handed) = 0
refusal_in Lost = 0
refusal_in (Refused (HouseFaults.Disk shard)) = 1
refusal_in (Refused HouseFaults.Memory) = 0

abbrev pub refusals : List WorkCall → ℕ
refusals [] = 0
refusals (c ∷ cs) = refusal_in c.result + refusals cs

refused_as : (fault told : HouseFault) (n m : ℕ) → fault ≡ told → n + refusal_in (Refused told) ≤ m → n + refusal_in (Refused fault) ≤ m
refused_as fault told n m e h = subst (λ (f : HouseFault). n + refusal_in (Refused f) ≤ m) (sym e) h

module _ {D : Type 0} (tells : Type 0) (seen : D → List ℕ) (moment : D → ℕ)
    (left_since : D → ℕ → List ℕ → Type 0) (may_leave : D → List ℕ → Type 0) (faults : D → ℕ)
  where
    counted_as : (o : Opening D) (Settles : List Entry → List Entry → Type 0) (old new : HousePass D)
        (wanted : List Entry → List Entry) (own : List Entry) → (adds : AddsTo o Settles old new wanted)
        → own ≡ wanted (before_own o old adds.others adds.settling)
        → fault_count old.history.seen + fault_count own ≤ fault_count new.history.seen
    counted_as o Settles old new wanted own adds is =
        subst (λ (l : List Entry). fault_count old.history.seen + fault_count l ≤ fault_count new.history.seen) (sym is)
        (counted_in old.history new.history adds.others adds.settling _ adds.notes)

    -- the call's own entries hold its refusal
    counted_own : (now : ℕ) (o : Opening D) (wanted : List Entry → List Entry) (raised : List Entry → ℕ → ℕ)
        (old new : HousePass D) (own : List Entry) (place : ℕ) (fault : HouseFault) (cause : JournalFault) → fault ≡ fault_of place cause
        → NotesOwn tells seen moment left_since may_leave faults now o wanted raised old new own cause
        → fault_count old.history.seen + refusal_in (Refused fault) ≤ fault_count new.history.seen
    counted_own now o wanted raised old new own place fault JournalFaults.Disk e h =
        refused_as fault (HouseFaults.Disk place) (fault_count old.history.seen) (fault_count new.history.seen) e
        (let all = counted_as o _ old new _ own h.0.refuses.adds h.0.own_is in
        let one : fault_count own ≡ 1 = ap fault_count h.0.own_is in
        omega (arith, all, one))
    counted_own now o wanted raised old new own place fault JournalFaults.Memory e (inl h) =
        refused_as fault HouseFaults.Memory (fault_count old.history.seen) (fault_count new.history.seen) e
        (let all = counted_as o _ old new _ own h.refuses.adds h.own_is in omega (arith, all))
    counted_own now o wanted raised old new own place fault JournalFaults.Memory e (inr h) =
        refused_as fault HouseFaults.Memory (fault_count old.history.seen) (fault_count new.history.seen) e
        (let all = counted_as o _ old new _ own h.refuses.adds h.own_is in omega (arith, all))

    counted_call : (house : HouseView D) (now : ℕ) (old new : HousePass D) (jobs : List Job) (own : List Entry) (result : WorkResult)
        → IsOfHouse (calls_of tells seen moment left_since may_leave faults house) now old new jobs own result
        → fault_count old.history.seen + refusal_in result ≤ fault_count new.history.seen
    counted_call house now old new jobs own (Replied handed) h =
        let all = counted_as h.answers.opening _ old new _ own h.answers.serves.adds h.answers.own_is in omega (arith, all)
    counted_call house now old new jobs own Lost h =
        let all = counted_as h.loses.opening _ old new _ own h.loses.loses.adds h.loses.own_is in omega (arith, all)
    counted_call house now old new jobs own (Refused fault) (inl h) =
        counted_own now h.refuses.opening _ _ old new own old.shard fault h.refuses.cause h.refuses.fault_is h.refuses.notes
    counted_call house now old new jobs own (Refused fault) (inr h) =
        counted_own now h.refuses.opening _ _ old new own old.shard fault h.refuses.cause h.refuses.fault_is h.refuses.notes

    counted_along : (house : HouseView D) (calls : List WorkCall) (a b : WorkState (HousePass D))
        → DoesCalls (calls_of tells seen moment left_since may_leave faults house) calls a b
        → fault_count a.pass.history.seen + refusals calls ≤ fault_count b.pass.history.seen
    counted_along house [] a b does =
        let same : fault_count b.pass.history.seen ≡ fault_count a.pass.history.seen = ap (λ (s : WorkState (HousePass D)). fault_count s.pass.history.seen) does in
        omega (arith, same)
    counted_along house (c ∷ cs) a b does =
        let first = counted_call house (c.time / 1000) a.pass does.0.pass c.jobs c.own c.result does.1.by_house in
        let rest = counted_along house cs does.0 b does.2 in
        omega (arith, first, rest)

    -- ---- rows

    faulted_by : (row : TallyRow) (jobs : ℕ) (result : WorkResult) → jobs ≤ MOST_BATCH
        → (row_by row jobs result).faulted ≤ row.faulted + MOST_BATCH * refusal_in result
    faulted_by row jobs (Replied handed) few = omega arith
    faulted_by row jobs Lost few = omega arith
    faulted_by row jobs (Refused (HouseFaults.Disk shard)) few = omega (arith, few)
    faulted_by row jobs (Refused HouseFaults.Memory) few = omega arith

    faulted_along : (house : HouseView D) (calls : List WorkCall) (a b : WorkState (HousePass D))
        → DoesCalls (calls_of tells seen moment left_since may_leave faults house) calls a b
        → b.row.faulted ≤ a.row.faulted + MOST_BATCH * refusals calls
    faulted_along house [] a b does =
        let same : b.row.faulted ≡ a.row.faulted = ap (λ (s : WorkState (HousePass D)). s.row.faulted) does in
        omega (arith, same)
    faulted_along house (c ∷ cs) a b does =
        let first = faulted_by a.row (length c.jobs) c.result does.1.few in
        let is : does.0.row.faulted ≡ (row_by a.row (length c.jobs) c.result).faulted = ap (λ (r : TallyRow). r.faulted) does.1.row in
        let rest = faulted_along house cs does.0 b does.2 in
        omega (arith, first, is, rest)

    pub few_faults : (house : HouseView D) (shard : ℕ) (ds : List Dispatched) (r : ShardRun (HousePass D))
        → IsShardRun (calls_of tells seen moment left_since may_leave faults house) shard ds r
        → (o : Opening D) (ended : HousePass D) (pair : DiskPair D)
        → EndsOne tells seen moment left_since may_leave faults o r.new.pass ended pair
        → AreFewFaults D tells seen moment left_since may_leave faults o pair r.row.faulted
    few_faults house shard ds r is o ended pair ends =
        let noted = counted_along house is.works.calls r.old r.new is.works.does in
        let rows = faulted_along house is.works.calls r.old r.new is.works.does in
        let none : r.old.row.faulted ≡ 0 = ap (λ (x : TallyRow). x.faulted) is.begins in
        let same : r.row.faulted ≡ r.new.row.faulted = ap (λ (x : TallyRow). x.faulted) is.row in
        let more = ap fault_count ends.knows ∙ counts-append r.new.pass.history.seen ends.others in
        record {
          risen = fault_count ended.history.seen;
          few = omega (arith, noted, rows, none, same, more);
          counted = subst (λ (p : DiskPair D). HaveRisenBy faults o.book.journal.pair p (fault_count ended.history.seen)) (sym ends.pair_is) ends.stands.risen;
        }
