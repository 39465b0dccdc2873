-- Rows count.
use Rattle.std.proofs.Common.{◌≡◌, ℕ, ◌+◌, ◌-◌, ◌==◌, ◌^◌, min, Bool, true, false, cond, List, [], ◌∷◌, length, fold, refl, sym, ap, ◌∙◌, arith}
use Rattle.std.specs.List.{sum_by}
use Rattle.std.proofs.lemmas.List.Concat.{length-flat_map}
use Rattle.pcp_base.specs.declared.datagrams.Entry.{Entry}
use Rattle.lease_house.specs.declared.faults.HouseFault.TheVariants.{Disk, Memory}
use Rattle.job_queue.specs.declared.jobs.Job.{Job}
use Rattle.job_workers.specs.declared.tallies.TallyRow.{TallyRow}
use Rattle.job_workers.specs.HouseCalls.{HouseCalls}
use Rattle.job_workers.specs.Sends.{sent_count, unsent_count}
use Rattle.job_workers.specs.Tallies.{more, no_jobs, row_full, row_starved}
use Rattle.job_workers.specs.Works.{DoesCall, DoesCalls, IsOfHouse, Lost, Refused, Replied, WorkCall, WorkResult, WorkState, row_by, unsent_in}
use Rattle.job_dispatch.specs.Dispatches.{Dispatched, Full, Given, Ignored, Joins, Late, Noise, Put, Starved, Waits}
use Rattle.job_dispatch.specs.PortsAfter.{dispatched_row, row_by_step}
use Rattle.request_workers.specs.Counts.{RowsCount, counted, faulted_in, is_full, is_starved, sent_in, silent_in, starved_in}

-- ---- counts that stand still at their end

capped : (n m most : ℕ) → min (min n most + m) most ≡ min (n + m) most
capped n m most = omega arith

capped_none : (most : ℕ) → 0 ≡ min 0 most
capped_none most = omega arith

capped_both : (n m most : ℕ) → min (min n most + min m most) most ≡ min (n + m) most
capped_both n m most = omega arith

none_counted : 0 ≡ counted 0
none_counted = capped_none (2 ^ 64 - 1)

grows : (k m n : ℕ) → n ≡ counted k → more n m ≡ counted (k + m)
grows k m n e = ap (λ x. more x m) e ∙ capped k m (2 ^ 64 - 1)

plus_none : (k : ℕ) → k ≡ k + 0
plus_none k = omega arith

stands : (k n : ℕ) → n ≡ counted k → n ≡ counted (k + 0)
stands k n e = e ∙ ap counted (plus_none k)

-- ---- one call

taken_after : {P : Type 0} (house : HouseCalls P) (now : ℕ) (a b : P) (jobs : List Job) (own : List Entry) (r : WorkResult) (row : TallyRow) (k : ℕ)
    → IsOfHouse house now a b jobs own r → row.taken ≡ counted k → (row_by row (length jobs) r).taken ≡ counted (k + length jobs)
taken_after house now a b jobs own (Replied handed) row k h e = grows k (length jobs) row.taken e
taken_after house now a b jobs own Lost row k h e = grows k 1 row.taken e ∙ ap (λ n. counted (k + n)) (sym (ap length h.jobs_are))
taken_after house now a b jobs own (Refused (Disk shard)) row k h e = grows k (length jobs) row.taken e
taken_after house now a b jobs own (Refused Memory) row k h e = grows k (length jobs) row.taken e

replied_after : (jobs : ℕ) (r : WorkResult) (row : TallyRow) (k : ℕ) → row.replied ≡ counted k → (row_by row jobs r).replied ≡ counted (k + sent_in r)
replied_after jobs (Replied handed) row k e = grows k (sent_count handed) row.replied e
replied_after jobs Lost row k e = stands k row.replied e
replied_after jobs (Refused (Disk shard)) row k e = stands k row.replied e
replied_after jobs (Refused Memory) row k e = stands k row.replied e

silent_after : (jobs : ℕ) (r : WorkResult) (row : TallyRow) (k : ℕ) → row.silent ≡ counted k → (row_by row jobs r).silent ≡ counted (k + silent_in jobs r)
silent_after jobs (Replied handed) row k e = grows k (jobs - length handed) row.silent e
silent_after jobs Lost row k e = stands k row.silent e
silent_after jobs (Refused (Disk shard)) row k e = stands k row.silent e
silent_after jobs (Refused Memory) row k e = stands k row.silent e

unsent_after : (jobs : ℕ) (r : WorkResult) (row : TallyRow) (k : ℕ) → row.unsent ≡ counted k → (row_by row jobs r).unsent ≡ counted (k + unsent_in r)
unsent_after jobs (Replied handed) row k e = grows k (unsent_count handed) row.unsent e
unsent_after jobs Lost row k e = stands k row.unsent e
unsent_after jobs (Refused (Disk shard)) row k e = stands k row.unsent e
unsent_after jobs (Refused Memory) row k e = stands k row.unsent e

faulted_after : (jobs : ℕ) (r : WorkResult) (row : TallyRow) (k : ℕ) → row.faulted ≡ counted k → (row_by row jobs r).faulted ≡ counted (k + faulted_in jobs r)
faulted_after jobs (Replied handed) row k e = stands k row.faulted e
faulted_after jobs Lost row k e = stands k row.faulted e
faulted_after jobs (Refused (Disk shard)) row k e = grows k jobs row.faulted e
faulted_after jobs (Refused Memory) row k e = stands k row.faulted e

starved_after : (jobs : ℕ) (r : WorkResult) (row : TallyRow) (k : ℕ) → row.starved ≡ counted k → (row_by row jobs r).starved ≡ counted (k + starved_in jobs r)
starved_after jobs (Replied handed) row k e = stands k row.starved e
starved_after jobs Lost row k e = stands k row.starved e
starved_after jobs (Refused (Disk shard)) row k e = stands k row.starved e
starved_after jobs (Refused Memory) row k e = grows k jobs row.starved e

-- ---- all calls

-- in a call the field grows by so many
Grows : {P : Type 0} → HouseCalls P → (TallyRow → ℕ) → (WorkCall → ℕ) → Type 0
Grows {P} house field many = (c : WorkCall) (a b : WorkState P) (k : ℕ) → DoesCall house c a b → field a.row ≡ counted k → field b.row ≡ counted (k + many c)

count_calls : {P : Type 0} (house : HouseCalls P) (field : TallyRow → ℕ) (many : WorkCall → ℕ) → Grows house field many
    → (cs : List WorkCall) (k : ℕ) (a b : WorkState P) → DoesCalls house cs a b → field a.row ≡ counted k → field b.row ≡ counted (fold (λ n c. n + many c) k cs)
unfolding Grows
count_calls {P} house field many one [] k a b does e = ap (λ (s : WorkState P). field s.row) does ∙ e
count_calls house field many one (c ∷ cs) k a b does e = count_calls house field many one cs (k + many c) does.0 b does.2 (one c a does.0 k does.1 e)

of_run : {P : Type 0} (house : HouseCalls P) (field : TallyRow → ℕ) (many : WorkCall → ℕ) → Grows house field many → field no_jobs ≡ 0
    → (cs : List WorkCall) (a b : WorkState P) → DoesCalls house cs a b → a.row ≡ no_jobs → field b.row ≡ counted (sum_by many cs)
of_run house field many one none cs a b does begins = count_calls house field many one cs 0 a b does (ap field begins ∙ (none ∙ none_counted))

-- ---- what the dispatcher did

full_if : (b : Bool) (row : TallyRow) (k : ℕ) → row.full ≡ counted k → (cond b (row_full row) row).full ≡ counted (k + cond b 1 0)
full_if true row k e = grows k 1 row.full e
full_if false row k e = stands k row.full e

full_if_starved : (b : Bool) (row : TallyRow) (k : ℕ) → row.full ≡ counted k → (cond b (row_starved row) row).full ≡ counted (k + 0)
full_if_starved true row k e = stands k row.full e
full_if_starved false row k e = stands k row.full e

starved_if : (b : Bool) (row : TallyRow) (k : ℕ) → row.starved ≡ counted k → (cond b (row_starved row) row).starved ≡ counted (k + cond b 1 0)
starved_if true row k e = grows k 1 row.starved e
starved_if false row k e = stands k row.starved e

starved_if_full : (b : Bool) (row : TallyRow) (k : ℕ) → row.starved ≡ counted k → (cond b (row_full row) row).starved ≡ counted (k + 0)
starved_if_full true row k e = stands k row.starved e
starved_if_full false row k e = stands k row.starved e

full_by : (shard : ℕ) (d : Dispatched) (row : TallyRow) (k : ℕ) → row.full ≡ counted k → (row_by_step shard row d).full ≡ counted (k + cond (is_full shard d) 1 0)
full_by shard (Given item (Put at job)) row k e = stands k row.full e
full_by shard (Given item (Full at job)) row k e = full_if (at == shard) row k e
full_by shard (Given item (Waits at)) row k e = stands k row.full e
full_by shard (Given item (Joins at)) row k e = stands k row.full e
full_by shard (Given item (Noise at job)) row k e = stands k row.full e
full_by shard (Given item Starved) row k e = full_if_starved (0 == shard) row k e
full_by shard (Given item Ignored) row k e = stands k row.full e
full_by shard (Late at) row k e = stands k row.full e

starved_by : (shard : ℕ) (d : Dispatched) (row : TallyRow) (k : ℕ) → row.starved ≡ counted k → (row_by_step shard row d).starved ≡ counted (k + cond (is_starved shard d) 1 0)
starved_by shard (Given item (Put at job)) row k e = stands k row.starved e
starved_by shard (Given item (Full at job)) row k e = starved_if_full (at == shard) row k e
starved_by shard (Given item (Waits at)) row k e = stands k row.starved e
starved_by shard (Given item (Joins at)) row k e = stands k row.starved e
starved_by shard (Given item (Noise at job)) row k e = stands k row.starved e
starved_by shard (Given item Starved) row k e = starved_if (0 == shard) row k e
starved_by shard (Given item Ignored) row k e = stands k row.starved e
starved_by shard (Late at) row k e = stands k row.starved e

count_steps : (shard : ℕ) (field : TallyRow → ℕ) (test : Dispatched → Bool)
    → ((d : Dispatched) (row : TallyRow) (k : ℕ) → field row ≡ counted k → field (row_by_step shard row d) ≡ counted (k + cond (test d) 1 0))
    → (ds : List Dispatched) (row : TallyRow) (k : ℕ) → field row ≡ counted k
    → field (fold (row_by_step shard) row ds) ≡ counted (fold (λ n (d : Dispatched). n + cond (test d) 1 0) k ds)
count_steps shard field test one [] row k e = e
count_steps shard field test one (d ∷ ds) row k e =
    count_steps shard field test one ds (row_by_step shard row d) (k + cond (test d) 1 0) (one d row k e)

-- ---- the row of an external address

both : (n m x y : ℕ) → x ≡ counted n → y ≡ counted m → more x y ≡ counted (n + m)
both n m x y e f = ap (λ z. more z y) e ∙ (ap (λ z. more (counted n) z) f ∙ capped_both n m (2 ^ 64 - 1))

pub rows_count : {P : Type 0} (house : HouseCalls P) → RowsCount house
unfolding Grows
rows_count {P} house shard ds r is =
    let does = is.works.does in
    record {
      taken = ap (λ (x : TallyRow). x.taken) is.row
          ∙ (of_run house (λ x. x.taken) (λ c. length c.jobs)
          (λ c a b k d e. ap (λ (x : TallyRow). x.taken) d.row ∙ taken_after house _ a.pass b.pass c.jobs c.own c.result a.row k d.by_house e) refl is.works.calls r.old r.new does is.begins
          ∙ ap counted (sym (ap length is.works.jobs ∙ length-flat_map (λ (c : WorkCall). c.jobs) is.works.calls)));
      replied = ap (λ (x : TallyRow). x.replied) is.row
          ∙ of_run house (λ x. x.replied) (λ c. sent_in c.result)
          (λ c a b k d e. ap (λ (x : TallyRow). x.replied) d.row ∙ replied_after (length c.jobs) c.result a.row k e) refl is.works.calls r.old r.new does is.begins;
      silent = ap (λ (x : TallyRow). x.silent) is.row
          ∙ of_run house (λ x. x.silent) (λ c. silent_in (length c.jobs) c.result)
          (λ c a b k d e. ap (λ (x : TallyRow). x.silent) d.row ∙ silent_after (length c.jobs) c.result a.row k e) refl is.works.calls r.old r.new does is.begins;
      unsent = ap (λ (x : TallyRow). x.unsent) is.row
          ∙ of_run house (λ x. x.unsent) (λ c. unsent_in c.result)
          (λ c a b k d e. ap (λ (x : TallyRow). x.unsent) d.row ∙ unsent_after (length c.jobs) c.result a.row k e) refl is.works.calls r.old r.new does is.begins;
      faulted = ap (λ (x : TallyRow). x.faulted) is.row
          ∙ of_run house (λ x. x.faulted) (λ c. faulted_in (length c.jobs) c.result)
          (λ c a b k d e. ap (λ (x : TallyRow). x.faulted) d.row ∙ faulted_after (length c.jobs) c.result a.row k e) refl is.works.calls r.old r.new does is.begins;
      full = ap (λ (x : TallyRow). x.full) is.row
          ∙ count_steps shard (λ x. x.full) (is_full shard) (full_by shard) ds no_jobs 0 none_counted;
      starved = ap (λ (x : TallyRow). x.starved) is.row
          ∙ both (sum_by (λ (c : WorkCall). starved_in (length c.jobs) c.result) is.works.calls) _ r.new.row.starved (dispatched_row shard ds).starved
          (of_run house (λ x. x.starved) (λ c. starved_in (length c.jobs) c.result)
          (λ c a b k d e. ap (λ (x : TallyRow). x.starved) d.row ∙ starved_after (length c.jobs) c.result a.row k e) refl is.works.calls r.old r.new does is.begins)
          (count_steps shard (λ x. x.starved) (is_starved shard) (starved_by shard) ds no_jobs 0 none_counted);
    }
