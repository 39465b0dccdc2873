-- What a worker takes out of its queue for a call, and what its desk is to be (our own).
use Rattle.std.specs.Prelude.{◌≡◌, List, [], ◌∷◌, ◌++◌, map, Some}
use Rattle.std.specs.List.{AllByRecursion}
use Rattle.atomic_table.specs.Seated.{TableId}
use Rattle.pcp_base.specs.declared.datagrams.Datagram.{Datagram}
use Rattle.job_queue.specs.declared.jobs.Job.{Job}
use Rattle.job_queue.specs.declared.jobs.Job.TheVariants as Jobs
use Rattle.job_queue.specs.Queues.{TakerKnowledge, IsJobFor, MayBeEmpty}
use Rattle.job_workers.specs.declared.workers.Next.{Next}
use Rattle.job_workers.specs.declared.workers.Next.TheVariants as Nexts
use Rattle.job_workers.specs.HouseCalls.{HouseCalls, StaysPass}
use Rattle.job_workers.specs.Works.{WorkState, Works}

-- the job that was taken behind the datagrams
abbrev pub behind : Next → List Job
behind Nexts.More = []
behind Nexts.Loss = Jobs.Lose ∷ []
behind Nexts.Dry = []

-- datagrams were taken, and maybe a loss behind them
pub record Gathers (old new : TakerKnowledge) (batch : List Datagram) (next : Next) : Type 0 where
  pub taken : new ≡ record old { taken = old.taken ++ (map Jobs.Packet batch ++ behind next) }
  pub routed : AllByRecursion (IsJobFor old.route) (map Jobs.Packet batch)
  pub dry : next ≡ Nexts.Dry → MayBeEmpty new

module _ {P : Type 0} (house : HouseCalls P) where
  -- the ends with which a worker works: a pass of the house, and a queue of jobs for its external
  -- address
  pub record IsDesk (queue : TableId) (pass : P) (taker : TakerKnowledge) : Type 0 where
    pub pass_is : house.is_pass pass
    pub queue_is : taker.queue ≡ queue
    pub route_is :
        taker.route ≡ Some (record { config = house.config; shard = house.place_of pass })

  -- From one state to another a worker took some jobs out of its queue, and did them.
  pub record HasWorked (old new : WorkState P) (taker_old taker_new : TakerKnowledge)
      : Type 0 where
    pub jobs : List Job
    pub taken : taker_new ≡ record taker_old { taken = taker_old.taken ++ jobs }
    pub works : Works house jobs old new
    pub stays : StaysPass house old.pass new.pass
    -- so its desk is one still
    pub desk : (queue : TableId) →
        IsDesk queue old.pass taker_old → IsDesk queue new.pass taker_new

  -- What was left of all that was put was done: with what was taken before it is all, in order.
  pub record Finishes (old new : WorkState P) (taken put : List Job) : Type 0 where
    pub jobs : List Job
    pub all : put ≡ taken ++ jobs
    pub works : Works house jobs old new
    pub stays : StaysPass house old.pass new.pass
