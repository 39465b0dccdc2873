-- Work that goes on.
use Rattle.std.proofs.Common.{◌≡◌, ◌≤◌, true, ℕ, ◌-◌, ◌/◌, List, [], ◌∷◌, ◌++◌, length, map, Option, Some, refl, sym, ap, ◌∙◌, subst, inl, inr, append_assoc, arith}
use Rattle.std.specs.List.{AllByRecursion}
use Rattle.std.proofs.lemmas.List.{append-nil, length-map}
use Rattle.std.proofs.lemmas.Grind.{flat_map-append}
use Rattle.atomic_table.specs.Seated.{TableId}
use Rattle.pcp_base.specs.declared.configs.Config.{Config}
use Rattle.pcp_base.specs.declared.datagrams.Datagram.{Datagram}
use Rattle.pcp_io.specs.Sends.{sent_with}
use Rattle.pcp_io.specs.Times.{Times, IsTimeNow}
use Rattle.lease_house.specs.declared.faults.HouseFault.{HouseFault}
use Rattle.lease_histories.specs.Routes.{route_of}
use Rattle.job_queue.specs.declared.batches.TheConstants.{MOST_BATCH}
use Rattle.job_queue.specs.declared.jobs.Job.{Job}
use Rattle.job_queue.specs.declared.jobs.Job.TheVariants as Jobs
use Rattle.job_queue.specs.declared.jobs.JobsRoute.{JobsRoute}
use Rattle.job_queue.specs.Queues.{HasMet, IsJobFor, MayBeEmpty, PutterKnowledge, TakerKnowledge}
use Rattle.job_workers.specs.declared.tallies.Sends.{Sends}
use Rattle.job_workers.specs.declared.tallies.TallyRow.{TallyRow}
use Rattle.job_workers.specs.declared.workers.Next.{Next}
use Rattle.job_workers.specs.declared.workers.Next.TheVariants as Nexts
use Rattle.job_workers.specs.Gatherings.{Finishes, HasWorked, IsDesk, behind}
use Rattle.job_workers.specs.HouseCalls.{AnswersBatchOf, HouseCalls, LosesAllOf, RefusesBatchOf, RefusesLossOf, StaysPass}
use Rattle.job_workers.specs.Sends.{Handed, HandsOn, sent_count}
use Rattle.job_workers.specs.Tallies.{row_lost, row_refused, row_replied}
use Rattle.job_workers.specs.Works.{AnswersBatch, Counts, DoesCall, DoesCalls, DoesUnheard, LosesAll, Lost, Refused, Replied, WorkCall, WorkState, Works, jobs_of, row_by}
use Rattle.job_workers.proofs.SendLemmas.{sent_with-nil}

DoesCalls-append : {P : Type 0} (house : HouseCalls P) (xs ys : List WorkCall) (a b c : WorkState P) → DoesCalls house xs a b → DoesCalls house ys b c → DoesCalls house (xs ++ ys) a c
DoesCalls-append {P} house [] ys a b c h k = subst (λ (s : WorkState P). DoesCalls house ys s c) h k
DoesCalls-append house (x ∷ xs) ys a b c h k = (h.0, h.1, DoesCalls-append house xs ys h.0 b c h.2 k)

pub Works-none : {P : Type 0} (house : HouseCalls P) (a : WorkState P) → Works house [] a a
Works-none house a = record { calls = []; does = refl; jobs = refl }

pub Works-append : {P : Type 0} (house : HouseCalls P) (js ks : List Job) (a b c : WorkState P) → Works house js a b → Works house ks b c → Works house (js ++ ks) a c
Works-append house js ks a b c p q = record {
  calls = p.calls ++ q.calls;
  does = DoesCalls-append house p.calls q.calls a b c p.does q.does;
  jobs = ap (λ (l : List Job). l ++ ks) p.jobs ∙ (ap (λ (l : List Job). jobs_of p.calls ++ l) q.jobs
      ∙ sym (flat_map-append (λ (call : WorkCall). call.jobs) p.calls q.calls));
}

-- and no job more
pub Works-more : {P : Type 0} (house : HouseCalls P) (js : List Job) (a b c : WorkState P) → Works house js a b → Works house [] b c → Works house js a c
Works-more house js a b c p q = subst (λ (l : List Job). Works house l a c) (append-nil js) (Works-append house js [] a b c p q)

-- one call
Works-one : {P : Type 0} (house : HouseCalls P) (call : WorkCall) (a b : WorkState P) → DoesCall house call a b → Works house call.jobs a b
Works-one house call a b does = record { calls = call ∷ []; does = (b, does, refl); jobs = sym (append-nil call.jobs) }

pub Works-batch : {P : Type 0} (house : HouseCalls P) (items batch : List Datagram) (a b : WorkState P) → items ≡ batch → AnswersBatch house items a b → Works house (map Jobs.Packet batch) a b
Works-batch house items batch a b same h =
    subst (λ (js : List Job). Works house js a b) (h.jobs ∙ ap (map Jobs.Packet) same) (Works-one house h.call a b h.does)

-- a call without replies
pub Works-unheard : {P : Type 0} (house : HouseCalls P) (wanted : List Job) (old new : P) (row_old row_new : TallyRow) (times_old times_new : Option Times) (sent : Option (List Datagram)) (faults : ℕ)
    → length wanted ≤ MOST_BATCH → DoesUnheard house wanted old new row_old row_new times_old times_new
    → Works house wanted (record { pass = old; row = row_old; sent = sent; faults = faults; times = times_old }) (record { pass = new; row = row_new; sent = sent; faults = faults; times = times_new })
Works-unheard {P} house wanted old new row_old row_new times_old times_new sent faults few h =
    let a : WorkState P = record { pass = old; row = row_old; sent = sent; faults = faults; times = times_old } in
    let b : WorkState P = record { pass = new; row = row_new; sent = sent; faults = faults; times = times_new } in
    let does : DoesCall house h.call a b = record {
      few = subst (λ (js : List Job). length js ≤ MOST_BATCH) (sym h.jobs) few;
      clock = h.clock;
      by_house = h.by_house;
      stays = h.stays;
      sent = sym (ap (sent_with sent) h.silent ∙ sent_with-nil sent);
      faults = inl (omega (arith, h.sends));
      later = omega arith;
      row = h.row ∙ ap (λ (js : List Job). row_by row_old (length js) h.call.result) (sym h.jobs);
    } in
    subst (λ (js : List Job). Works house js a b) h.jobs (Works-one house h.call a b does)

pub Works-loss : {P : Type 0} (house : HouseCalls P) (next : Next) (old new : P) (row_old row_new : TallyRow) (times_old times_new : Option Times) (sent : Option (List Datagram)) (faults : ℕ)
    → next ≡ Nexts.Loss → LosesAll house old new row_old row_new times_old times_new
    → Works house (behind next) (record { pass = old; row = row_old; sent = sent; faults = faults; times = times_old }) (record { pass = new; row = row_new; sent = sent; faults = faults; times = times_new })
Works-loss {P} house next old new row_old row_new times_old times_new sent faults is h =
    let a : WorkState P = record { pass = old; row = row_old; sent = sent; faults = faults; times = times_old } in
    let b : WorkState P = record { pass = new; row = row_new; sent = sent; faults = faults; times = times_new } in
    subst (λ (n : Next). Works house (behind n) a b) (sym is) (Works-unheard house (Jobs.Lose ∷ []) old new row_old row_new times_old times_new sent faults (omega arith) h)

-- ---- a pass stays one of its external address

stays_along : {P : Type 0} (house : HouseCalls P) (calls : List WorkCall) (a b : WorkState P) → DoesCalls house calls a b → StaysPass house a.pass b.pass
stays_along house [] a b h = subst (λ (s : WorkState _). StaysPass house a.pass s.pass) (sym h) (record { is = λ x. x; place = refl })
stays_along house (x ∷ xs) a b h =
    let rest = stays_along house xs h.0 b h.2 in
    record { is = λ is. rest.is (h.1.stays.is is); place = rest.place ∙ h.1.stays.place }

-- ---- jobs that were taken and done

desk_stays : {P : Type 0} (house : HouseCalls P) (old new : P) (t u : TakerKnowledge) (js : List Job) → u ≡ record t { taken = t.taken ++ js } → StaysPass house old new
    → (queue : TableId) → IsDesk house queue old t → IsDesk house queue new u
desk_stays house old new t u js taken stays queue h = record {
  pass_is = stays.is h.pass_is;
  queue_is = ap (λ (k : TakerKnowledge). k.queue) taken ∙ h.queue_is;
  route_is = ap (λ (k : TakerKnowledge). k.route) taken ∙ (h.route_is
      ∙ ap (λ n. Some (record { config = house.config; shard = n })) (sym stays.place));
}

pub HasWorked-none : {P : Type 0} (house : HouseCalls P) (a : WorkState P) (t : TakerKnowledge) → HasWorked house a a t t
HasWorked-none house a t = record {
  jobs = [];
  taken = ap (λ (l : List Job). record t { taken = l }) (sym (append-nil t.taken));
  works = Works-none house a;
  stays = record { is = λ is. is; place = refl };
  desk = λ queue h. h;
}

-- jobs that were taken together are done
pub HasWorked-of : {P : Type 0} (house : HouseCalls P) (a b : WorkState P) (t u : TakerKnowledge) (js : List Job) → u ≡ record t { taken = t.taken ++ js } → Works house js a b → HasWorked house a b t u
HasWorked-of house a b t u js taken works =
    let stays : StaysPass house a.pass b.pass = stays_along house works.calls a b works.does in
    record { jobs = js; taken = taken; works = works; stays = stays; desk = desk_stays house a.pass b.pass t u js taken stays }

pub HasWorked-append : {P : Type 0} (house : HouseCalls P) (a b c : WorkState P) (t u v : TakerKnowledge) → HasWorked house a b t u → HasWorked house b c u v → HasWorked house a c t v
HasWorked-append house a b c t u v p q =
    HasWorked-of house a c t v (p.jobs ++ q.jobs)
    (q.taken ∙ (ap (λ (w : TakerKnowledge). record w { taken = w.taken ++ q.jobs }) p.taken
    ∙ ap (λ (l : List Job). record t { taken = l }) (append_assoc t.taken p.jobs q.jobs)))
    (Works-append house p.jobs q.jobs a b c p.works q.works)

-- after work the desk is one still
pub IsDesk-after : {P : Type 0} (house : HouseCalls P) (queue : TableId) (a b : WorkState P) (t u : TakerKnowledge) → IsDesk house queue a.pass t → HasWorked house a b t u → IsDesk house queue b.pass u
IsDesk-after house queue a b t u h w = w.desk queue h

-- the datagrams of jobs for an external address go there
pub routed_batch : (route : Option JobsRoute) (config : Config) (shard : ℕ) (batch : List Datagram) → route ≡ Some (record { config = config; shard = shard })
    → AllByRecursion (IsJobFor route) (map Jobs.Packet batch) → AllByRecursion (λ d. route_of config d ≡ shard) batch
routed_batch route config shard [] is h = tt
routed_batch route config shard (d ∷ ds) is h =
    (subst (λ (r : Option JobsRoute). IsJobFor r (Jobs.Packet d)) is h.0, routed_batch route config shard ds is h.1)

-- a pass stays one of the house
pub IsPassOf-after : {P : Type 0} (house : HouseCalls P) (js : List Job) (a b : WorkState P) → Works house js a b → house.is_pass a.pass → house.is_pass b.pass
IsPassOf-after house js a b works h = (stays_along house works.calls a b works.does).is h

-- a call by which all leases were lost
pub loses_all : {P : Type 0} (house : HouseCalls P) (time m : ℕ) (old new : P) (row_old row_new : TallyRow) (times_old times_new : Option Times)
    → m ≡ time / 1000 → IsTimeNow times_old times_new time → LosesAllOf house m old new → row_new ≡ row_lost row_old
    → LosesAll house old new row_old row_new times_old times_new
loses_all house time m old new row_old row_new times_old times_new second clock loses row =
    let lost : LosesAllOf house (time / 1000) old new = subst (λ n. LosesAllOf house n old new) second loses in
    record {
      call = record { jobs = Jobs.Lose ∷ []; time = time; own = lost.own; result = Lost };
      jobs = refl;
      clock = clock;
      by_house = record { jobs_are = refl; loses = lost.loses };
      stays = lost.stays;
      silent = refl;
      sends = refl;
      row = row;
    }

-- one that was refused
pub lacks_loss : {P : Type 0} (house : HouseCalls P) (time m : ℕ) (old new : P) (row_old row_new : TallyRow) (times_old times_new : Option Times) (fault : HouseFault)
    → m ≡ time / 1000 → IsTimeNow times_old times_new time → RefusesLossOf house m old new fault → row_new ≡ row_refused row_old 1 fault
    → LosesAll house old new row_old row_new times_old times_new
lacks_loss house time m old new row_old row_new times_old times_new fault second clock refuses row =
    let refused : RefusesLossOf house (time / 1000) old new fault = subst (λ n. RefusesLossOf house n old new fault) second refuses in
    record {
      call = record { jobs = Jobs.Lose ∷ []; time = time; own = refused.own; result = Refused fault };
      jobs = refl;
      clock = clock;
      by_house = inr (record { jobs_are = refl; refuses = refused.refuses });
      stays = refused.stays;
      silent = refl;
      sends = refl;
      row = row;
    }

-- a call that counted, for no job
pub counts_all : {P : Type 0} (house : HouseCalls P) (time m : ℕ) (old new : P) (row_old row_new : TallyRow) (times_old times_new : Option Times)
    → m ≡ time / 1000 → IsTimeNow times_old times_new time → AnswersBatchOf house m [] old new [] → row_new ≡ row_replied row_old 0 0 0 0
    → Counts house old new row_old row_new times_old times_new
counts_all house time m old new row_old row_new times_old times_new second clock serves row =
    let served : AnswersBatchOf house (time / 1000) [] old new [] = subst (λ n. AnswersBatchOf house n [] old new []) second serves in
    record {
      call = record { jobs = []; time = time; own = served.own; result = Replied [] };
      jobs = refl;
      clock = clock;
      by_house = record { batch = []; jobs_are = refl; answers = served.answers };
      stays = served.stays;
      silent = refl;
      sends = refl;
      row = row;
    }

-- one that was refused
pub lacks_count : {P : Type 0} (house : HouseCalls P) (time m : ℕ) (old new : P) (row_old row_new : TallyRow) (times_old times_new : Option Times) (fault : HouseFault)
    → m ≡ time / 1000 → IsTimeNow times_old times_new time → RefusesBatchOf house m [] old new fault → row_new ≡ row_refused row_old 0 fault
    → Counts house old new row_old row_new times_old times_new
lacks_count house time m old new row_old row_new times_old times_new fault second clock refuses row =
    let refused : RefusesBatchOf house (time / 1000) [] old new fault = subst (λ n. RefusesBatchOf house n [] old new fault) second refuses in
    record {
      call = record { jobs = []; time = time; own = refused.own; result = Refused fault };
      jobs = refl;
      clock = clock;
      by_house = inl (record { batch = []; jobs_are = refl; refuses = refused.refuses });
      stays = refused.stays;
      silent = refl;
      sends = refl;
      row = row;
    }

-- a batch that was answered
pub answers_batch : {P : Type 0} (house : HouseCalls P) (time m : ℕ) (old new : P) (row_old row_new : TallyRow) (times_old times_new : Option Times)
    (sent_old sent_new : Option (List Datagram)) (faults_old faults_new : ℕ) (batch replies handed_on : List Datagram) (sends : Sends) (silent : ℕ)
    → m ≡ time / 1000 → IsTimeNow times_old times_new time → AnswersBatchOf house m batch old new replies → handed_on ≡ replies
    → HandsOn handed_on sends sent_old sent_new faults_old faults_new → silent ≡ length batch - length replies
    → row_new ≡ row_replied row_old (length batch) silent sends.sent sends.failed → length batch ≤ MOST_BATCH
    → AnswersBatch house batch (record { pass = old; row = row_old; sent = sent_old; faults = faults_old; times = times_old }) (record { pass = new; row = row_new; sent = sent_new; faults = faults_new; times = times_new })
answers_batch house time m old new row_old row_new times_old times_new sent_old sent_new faults_old faults_new batch replies handed_on sends silent second clock serves same h quiet row few =
    let told : List Datagram = map (λ (x : Handed). x.reply) h.handed in
    let served : AnswersBatchOf house (time / 1000) batch old new told =
    subst (λ (ds : List Datagram). AnswersBatchOf house (time / 1000) batch old new ds) (sym (h.replies_are ∙ same)) (subst (λ n. AnswersBatchOf house n batch old new replies) second serves) in
    let jobs : List Job = map Jobs.Packet batch in
    let count : length jobs ≡ length batch = length-map batch Jobs.Packet in
    let handed_count : length told ≡ length h.handed = length-map h.handed (λ (x : Handed). x.reply) in
    let reply_count : length told ≡ length replies = ap length (h.replies_are ∙ same) in
    let silent_is : silent ≡ length jobs - length h.handed = quiet ∙ omega (arith, count, handed_count, reply_count) in
    record {
      call = record { jobs = jobs; time = time; own = served.own; result = Replied h.handed };
      jobs = refl;
      does = record {
        few = omega (arith, count, few);
        clock = clock;
        by_house = record { batch = batch; jobs_are = refl; answers = served.answers };
        stays = served.stays;
        sent = h.all.sent;
        faults = h.all.faults;
        later = h.all.later;
        row = row ∙ (ap (λ n. row_replied row_old n silent sends.sent sends.failed) (sym count)
            ∙ (ap (λ n. row_replied row_old (length jobs) n sends.sent sends.failed) silent_is
            ∙ (ap (λ n. row_replied row_old (length jobs) (length jobs - length h.handed) n sends.failed) h.sent
            ∙ ap (λ n. row_replied row_old (length jobs) (length jobs - length h.handed) (sent_count h.handed) n) h.failed)));
      };
    }

-- one that was refused
pub lacks_batch : {P : Type 0} (house : HouseCalls P) (time m : ℕ) (old new : P) (row_old row_new : TallyRow) (times_old times_new : Option Times)
    (sent : Option (List Datagram)) (faults : ℕ) (batch : List Datagram) (fault : HouseFault)
    → m ≡ time / 1000 → IsTimeNow times_old times_new time → RefusesBatchOf house m batch old new fault
    → row_new ≡ row_refused row_old (length batch) fault → length batch ≤ MOST_BATCH
    → AnswersBatch house batch (record { pass = old; row = row_old; sent = sent; faults = faults; times = times_old }) (record { pass = new; row = row_new; sent = sent; faults = faults; times = times_new })
lacks_batch house time m old new row_old row_new times_old times_new sent faults batch fault second clock refuses row few =
    let refused : RefusesBatchOf house (time / 1000) batch old new fault = subst (λ n. RefusesBatchOf house n batch old new fault) second refuses in
    let jobs : List Job = map Jobs.Packet batch in
    let count : length jobs ≡ length batch = length-map batch Jobs.Packet in
    record {
      call = record { jobs = jobs; time = time; own = refused.own; result = Refused fault };
      jobs = refl;
      does = record {
        few = omega (arith, count, few);
        clock = clock;
        by_house = inl (record { batch = batch; jobs_are = refl; refuses = refused.refuses });
        stays = refused.stays;
        sent = sym (sent_with-nil sent);
        faults = inl (omega arith);
        later = omega arith;
        row = row ∙ ap (λ n. row_refused row_old n fault) (sym count);
      };
    }

-- both ends have met, and the queue is empty
pub finishes : {P : Type 0} (house : HouseCalls P) (a b : WorkState P) (putter : PutterKnowledge) (t met end : TakerKnowledge) → HasMet putter t met → HasWorked house a b met end → MayBeEmpty end → Finishes house a b t.taken putter.put
finishes house a b putter t met end h w dry =
    let put : end.put ≡ putter.put = ap (λ (k : TakerKnowledge). k.put) w.taken ∙ h.put in
    let knows : end.knows_put ≡ true = ap (λ (k : TakerKnowledge). k.knows_put) w.taken ∙ h.knows in
    let taken : end.taken ≡ t.taken ++ w.jobs = ap (λ (k : TakerKnowledge). k.taken) w.taken ∙ ap (λ (l : List Job). l ++ w.jobs) h.taken in
    record { jobs = w.jobs; all = sym put ∙ (dry knows ∙ taken); works = w.works; stays = w.stays }

-- the desk is one still
pub IsDesk-met : {P : Type 0} (house : HouseCalls P) (queue : TableId) (pass : P) (putter : PutterKnowledge) (t met : TakerKnowledge) → IsDesk house queue pass t → putter.queue ≡ queue → putter.route ≡ t.route → HasMet putter t met → IsDesk house queue pass met
IsDesk-met house queue pass putter t met d q r h = record {
  pass_is = d.pass_is;
  queue_is = h.queue ∙ q;
  route_is = h.route ∙ (r ∙ d.route_is);
}
