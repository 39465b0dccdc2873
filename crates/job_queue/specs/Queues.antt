-- The rule of a queue of jobs, and what its ends know (our own).
use Rattle.std.specs.Prelude.{◌≡◌, ℕ, ◌-◌, ◌≤◌, Bool, true, false, List, [], ◌++◌, length, map, drop, filter, Option, Some, None}
use Rattle.std.specs.List.{AllByRecursion}
use mathlib.Core.Option.{some}
use mathlib.Core.List.{IsPrefix}
use lib.ListN.{get_elem?}
use Rattle.atomic_table.specs.Seated.{TableId}
use Rattle.lease_histories.specs.Routes.{route_of}
use Rattle.job_queue.specs.Noise.{is_noise}
use Rattle.job_queue.specs.declared.jobs.Job.{Job}
use Rattle.job_queue.specs.declared.jobs.Job.TheVariants.{Packet, Lose}
use Rattle.job_queue.specs.declared.jobs.JobsRoute.{JobsRoute}
use Rattle.job_queue.specs.declared.jobs.JobsView.{JobsView}
use Rattle.job_queue.specs.declared.jobs.TheConstants.{MOST_JOBS}

abbrev pub jobs_view : Bool → Bool → Option JobsRoute → List Job → List Job → JobsView
jobs_view puts takes route put taken = record {
  puts = puts;
  takes = takes;
  route = route;
  put = put;
  taken = taken;
  told_put = [];
  told_taken = [];
}

-- the view is told so much of what was put and taken
abbrev pub hearing : JobsView → List Job → List Job → JobsView
hearing v put taken = record v { told_put = put; told_taken = taken }

-- it neither puts nor takes, and was told so much
abbrev pub told_view : List Job → List Job → JobsView
told_view put taken = hearing (jobs_view false false None [] []) put taken

-- the job is one for this external address
abbrev pub IsJobFor : Option JobsRoute → Job → Type 0
IsJobFor None job = Unit {0}
IsJobFor (Some r) (Packet d) = route_of r.config d ≡ r.shard
IsJobFor (Some r) Lose = Unit {0}

-- One pass at most puts, and it has the list of what was put; one takes, and has that of what was taken.
-- What a pass was told are first parts of these.
pub record FitsEnd (putter taker : ℕ) (route : Option JobsRoute) (put taken : List Job) (seat : ℕ)
    (v : JobsView) : Type 0 where
  pub puts : v.puts ≡ true → (seat ≡ putter) × (v.route ≡ route) × (v.put ≡ put)
  pub takes : v.takes ≡ true → (seat ≡ taker) × (v.route ≡ route) × (v.taken ≡ taken)
  pub told_put : IsPrefix v.told_put put
  pub told_taken : IsPrefix v.told_taken taken

-- What was put is what was taken and then what the queue holds. All are jobs for one external address.
pub record AreInOrder (items : List Job) (views : List JobsView) : Type 0 where
  pub putter : ℕ
  pub taker : ℕ
  pub route : Option JobsRoute
  pub put : List Job
  pub taken : List Job
  pub order : put ≡ taken ++ items
  pub jobs : AllByRecursion (IsJobFor route) items
  pub ends : (seat : ℕ) (v : JobsView) → get_elem? views seat ≡ some v →
      FitsEnd putter taker route put taken seat v

-- the items are the last of what was put, and what stands before them begins with what was taken
pub record IsLastOf (taken items put : List Job) : Type 0 where
  pub before : List Job
  pub parted : put ≡ before ++ items
  pub behind : IsPrefix taken before

-- at some moment after these were taken the last of what was put filled the queue
pub record WasFull (taken put : List Job) : Type 0 where
  pub items : List Job
  pub full : length items ≡ MOST_JOBS
  pub last : IsLastOf taken items put

-- the items are what is left behind what was taken
pub record IsRestOf (v : JobsView) (items : List Job) : Type 0 where
  pub all : v.puts ≡ true → v.put ≡ v.taken ++ items
  pub told : IsPrefix v.told_put (v.taken ++ items)

-- ---- noise

-- a datagram that asks for nothing that may be granted
abbrev pub is_noise_job : Option JobsRoute → Job → Bool
is_noise_job None job = false
is_noise_job (Some r) (Packet d) = is_noise r.config d
is_noise_job (Some r) Lose = false

-- at some moment after these were taken the last of what was put, which the queue held, had so many jobs
-- that are noise
pub record HeldNoise (taken : List Job) (route : Option JobsRoute) (put : List Job) (count : ℕ)
    : Type 0 where
  pub items : List Job
  pub few : length items ≤ MOST_JOBS
  pub last : IsLastOf taken items put
  pub noise : length (filter (is_noise_job route) items) ≡ count

-- the last so many
abbrev pub last_of : {X : Type 0} → ℕ → List X → List X
last_of n xs = drop (length xs - n) xs

-- which of the last jobs are noise: of all, or of as many as a queue holds
abbrev pub noise_marks : Option JobsRoute → List Job → List Bool
noise_marks route put = last_of MOST_JOBS (map (is_noise_job route) put)

-- ---- the two ends

pub record PutterKnowledge : Type 0 where
  pub queue : TableId
  -- the external address of its jobs
  pub route : Option JobsRoute
  -- all that was put
  pub put : List Job

pub record TakerKnowledge : Type 0 where
  pub queue : TableId
  -- the external address of its jobs
  pub route : Option JobsRoute
  -- whether it has met the end that puts, and then what that has put
  pub knows_put : Bool
  pub put : List Job
  -- all that was taken
  pub taken : List Job

-- first parts of what was put and of what was taken
pub record QueueNews : Type 0 where
  pub queue : TableId
  pub put : List Job
  pub taken : List Job

-- nothing was put and nothing taken
pub record AreEnds (route : JobsRoute) (queue : TableId) (putter : PutterKnowledge)
    (taker : TakerKnowledge) : Type 0 where
  pub putter_of : putter.queue ≡ queue
  pub taker_of : taker.queue ≡ queue
  pub putter_route : putter.route ≡ Some route
  pub taker_route : taker.route ≡ Some route
  pub put : putter.put ≡ []
  pub apart : taker.knows_put ≡ false
  pub taken : taker.taken ≡ []

-- where it knows what was put, all of it was taken
abbrev pub MayBeEmpty : TakerKnowledge → Type 0
MayBeEmpty taker = taker.knows_put ≡ true → taker.put ≡ taker.taken

-- the taker knows what was put, which begins with what was taken
pub record HasMet (putter : PutterKnowledge) (taker both : TakerKnowledge) : Type 0 where
  pub queue : both.queue ≡ putter.queue
  pub route : both.route ≡ putter.route
  pub knows : both.knows_put ≡ true
  pub put : both.put ≡ putter.put
  pub taken : both.taken ≡ taker.taken
  pub begins : IsPrefix taker.taken putter.put
