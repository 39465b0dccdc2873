-- What a worker does (our own): calls of the house one after the other, and what it hands on of
-- each.
use Rattle.std.specs.Prelude.{◌≡◌, ℕ, ◌-◌, ◌/◌, ◌≤◌, ◌⊎◌, List, [], ◌∷◌, length, map, flat_map, Option}
use Rattle.pcp_base.specs.declared.datagrams.Datagram.{Datagram}
use Rattle.pcp_base.specs.declared.datagrams.Entry.{Entry}
use Rattle.pcp_io.specs.Sends.{sent_with}
use Rattle.pcp_io.specs.Times.{Times, IsTimeNow}
use Rattle.lease_house.specs.declared.faults.HouseFault.{HouseFault}
use Rattle.job_queue.specs.declared.batches.TheConstants.{MOST_BATCH}
use Rattle.job_queue.specs.declared.jobs.Job.{Job}
use Rattle.job_queue.specs.declared.jobs.Job.TheVariants.{Packet, Lose}
use Rattle.job_workers.specs.declared.tallies.TallyRow.{TallyRow}
use Rattle.job_workers.specs.HouseCalls.{HouseCalls, StaysPass}
use Rattle.job_workers.specs.Sends.{Handed, HasRisenBy, sent_count, taken_of, unsent_count}
use Rattle.job_workers.specs.Tallies.{row_replied, row_lost, row_refused}

-- ---- calls of the house

pub data WorkResult : Type 0 where
  -- a batch was answered, and the replies were handed on in this order
  Replied : List Handed → WorkResult
  -- all leases were lost
  Lost : WorkResult
  Refused : HouseFault → WorkResult

pub record WorkCall : Type 0 where
  -- the jobs for which it was: datagrams, or one loss
  pub jobs : List Job
  -- what the clock gave just before, in milliseconds
  pub time : ℕ
  -- the entries that it noted as its own
  pub own : List Entry
  pub result : WorkResult

-- what a worker works on: its pass and its row, and, where they are told, what its outbox took, the
-- count of faults of that, and the times that its clock will give
pub record WorkState (P : Type 0) : Type 0 where
  pub pass : P
  pub row : TallyRow
  pub sent : Option (List Datagram)
  pub faults : ℕ
  pub times : Option Times

-- what the outbox took of a call
abbrev pub taken_in : WorkResult → List Datagram
taken_in (Replied handed) = taken_of handed
taken_in Lost = []
taken_in (Refused fault) = []

-- how many of its sends failed
abbrev pub unsent_in : WorkResult → ℕ
unsent_in (Replied handed) = unsent_count handed
unsent_in Lost = 0
unsent_in (Refused fault) = 0

-- the row after a call for so many jobs
abbrev pub row_by : TallyRow → ℕ → WorkResult → TallyRow
row_by row jobs (Replied handed) =
    row_replied row jobs (jobs - length handed) (sent_count handed) (unsent_count handed)
row_by row jobs Lost = row_lost row
row_by row jobs (Refused fault) = row_refused row jobs fault

-- the jobs of these calls, in order
abbrev pub jobs_of : List WorkCall → List Job
jobs_of calls = flat_map (λ c. c.jobs) calls

module _ {P : Type 0} (house : HouseCalls P) where
  -- the replies of a batch were handed on
  pub record Answers (now : ℕ) (old new : P) (jobs : List Job) (own : List Entry)
      (handed : List Handed) : Type 0 where
    pub batch : List Datagram
    pub jobs_are : jobs ≡ map Packet batch
    pub answers : house.answers now batch old new own (map (λ h. h.reply) handed)

  pub record Forgets (now : ℕ) (old new : P) (jobs : List Job) (own : List Entry) : Type 0 where
    pub jobs_are : jobs ≡ Lose ∷ []
    pub loses : house.loses now old new own

  pub record LacksBatch (now : ℕ) (old new : P) (jobs : List Job) (own : List Entry)
      (fault : HouseFault) : Type 0 where
    pub batch : List Datagram
    pub jobs_are : jobs ≡ map Packet batch
    pub refuses : house.refuses_batch now batch old new own fault

  pub record LacksLoss (now : ℕ) (old new : P) (jobs : List Job) (own : List Entry)
      (fault : HouseFault) : Type 0 where
    pub jobs_are : jobs ≡ Lose ∷ []
    pub refuses : house.refuses_loss now old new own fault

  -- what the house did in the call
  abbrev pub IsOfHouse : ℕ → (old new : P) → List Job → List Entry → WorkResult → Type 0
  IsOfHouse now old new jobs own (Replied handed) = Answers now old new jobs own handed
  IsOfHouse now old new jobs own Lost = Forgets now old new jobs own
  IsOfHouse now old new jobs own (Refused fault) =
      LacksBatch now old new jobs own fault ⊎ LacksLoss now old new jobs own fault

  -- One call, for few jobs: the clock is read once, and then the house is called at that second.
  -- The replies are handed on, and the row counts.
  pub record DoesCall (call : WorkCall) (old new : WorkState P) : Type 0 where
    pub few : length call.jobs ≤ MOST_BATCH
    pub clock : IsTimeNow old.times new.times call.time
    pub by_house :
        IsOfHouse (call.time / 1000) old.pass new.pass call.jobs call.own call.result
    pub stays : StaysPass house old.pass new.pass
    pub sent : new.sent ≡ sent_with old.sent (taken_in call.result)
    pub faults : HasRisenBy (unsent_in call.result) old.faults new.faults
    pub later : old.faults ≤ new.faults
    pub row : new.row ≡ row_by old.row (length call.jobs) call.result

  -- calls one after the other
  abbrev pub DoesCalls : List WorkCall → WorkState P → WorkState P → Type 0
  DoesCalls [] old new = new ≡ old
  DoesCalls (call ∷ calls) old new =
      (mid : WorkState P) × DoesCall call old mid × DoesCalls calls mid new

  -- what a worker did from one state to another, and the jobs that it took for it
  pub record Works (taken : List Job) (old new : WorkState P) : Type 0 where
    pub calls : List WorkCall
    pub does : DoesCalls calls old new
    pub jobs : taken ≡ jobs_of calls

  -- a call for a batch
  pub record AnswersBatch (batch : List Datagram) (old new : WorkState P) : Type 0 where
    pub call : WorkCall
    pub jobs : call.jobs ≡ map Packet batch
    pub does : DoesCall call old new

  -- a call for these jobs that has no replies, for any outbox
  pub record DoesUnheard (wanted : List Job) (old new : P) (row_old row_new : TallyRow)
      (times_old times_new : Option Times) : Type 0 where
    pub call : WorkCall
    pub jobs : call.jobs ≡ wanted
    pub clock : IsTimeNow times_old times_new call.time
    pub by_house : IsOfHouse (call.time / 1000) old new call.jobs call.own call.result
    pub stays : StaysPass house old new
    pub silent : taken_in call.result ≡ []
    pub sends : unsent_in call.result ≡ 0
    pub row : row_new ≡ row_by row_old (length wanted) call.result

  -- a call for a loss, and one that counts, for no job
  abbrev pub LosesAll : (old new : P) → (row_old row_new : TallyRow) →
      (times_old times_new : Option Times) → Type 0
  LosesAll = DoesUnheard (Lose ∷ [])

  abbrev pub Counts : (old new : P) → (row_old row_new : TallyRow) →
      (times_old times_new : Option Times) → Type 0
  Counts = DoesUnheard []
