-- What stands for each external address before the threads begin, and what is left of it at the end
-- (our own).
use Rattle.std.specs.Prelude.{◌≡◌, ℕ, ◌+◌, List, [], ◌∷◌, ◌++◌, false, length, map, Option}
use Rattle.std.specs.List.{AllByRecursion}
use Rattle.atomic_table.specs.Seated.{TableId}
use Rattle.pcp_base.specs.declared.configs.Config.{Config}
use Rattle.pcp_io.specs.Times.{Times}
use Rattle.job_queue.specs.Queues.{AreEnds}
use Rattle.job_workers.specs.declared.tallies.TallyRow.{TallyRow}
use Rattle.job_workers.specs.declared.workers.Desk.{Desk}
use Rattle.job_workers.specs.Gatherings.{Finishes, IsDesk}
use Rattle.job_workers.specs.HouseCalls.{HouseCalls}
use Rattle.job_workers.specs.Stations.{OutState, Station, state_at}
use Rattle.job_workers.specs.Tallies.{joined_rows, no_jobs}
use Rattle.job_dispatch.specs.declared.ports.Port.{Port}
use Rattle.job_dispatch.specs.Dispatches.{IsPort}
use Rattle.request_workers.specs.declared.seats.Seat.{Seat}

-- ---- before passes are moved

-- an empty queue of jobs for this external address, its two ends, and an empty batch
pub record IsSeat (config : Config) (shard : ℕ) (s : Seat) : Type 0 where
  pub ends : AreEnds (record { config = config; shard = shard }) s.queue s.putter s.taker
  pub batch : s.batch ≡ []

-- those of the external addresses from this one on
abbrev pub AreSeats : Config → ℕ → List Seat → Type 0
AreSeats config shard [] = Unit {0}
AreSeats config shard (s ∷ ss) = IsSeat config shard s × AreSeats config (shard + 1) ss

-- seats were added for external addresses from this one on
pub record AddsSeats (config : Config) (shard count : ℕ) (old new : List Seat) : Type 0 where
  pub added : List Seat
  pub new_is : new ≡ old ++ added
  pub count_is : length added ≡ count
  pub seats : AreSeats config shard added

-- one external address at the end: the desk and the port that the threads left, and the desk once
-- all was done
pub record Ending (P : Type 0) : Type 0 where
  pub left : Station P
  pub port : Port
  pub done : Station P

module _ {P : Type 0} where
  -- a pass of the house for each external address from this one on
  abbrev pub ArePasses : HouseCalls P → ℕ → List P → Type 0
  ArePasses house shard [] = Unit {0}
  ArePasses house shard (p ∷ ps) =
      (house.is_pass p × (house.place_of p ≡ shard)) × ArePasses house (shard + 1) ps

  -- ---- a pass at each desk

  -- a desk at which nothing was done, of a queue into which nothing was put
  pub record IsSeated (house : HouseCalls P) (shard : ℕ) (queue : TableId) (desk : Desk P)
      (port : Port) : Type 0 where
    pub desk_is : IsDesk house queue desk.pass desk.taker
    pub place : house.place_of desk.pass ≡ shard
    pub batch : desk.batch ≡ []
    pub row : desk.row ≡ no_jobs
    pub taken : desk.taker.taken ≡ []
    pub port_is : IsPort house.config shard queue port
    pub put : port.putter.put ≡ []
    pub counted : port.row ≡ no_jobs
    pub waits : port.waits ≡ false

  -- those of the external addresses from this one on
  abbrev pub AreSeated : HouseCalls P → ℕ → List TableId → List (Desk P) → List Port → Type 0
  AreSeated house shard [] [] [] = Unit {0}
  AreSeated house shard [] [] (o ∷ os) = ⊥
  AreSeated house shard [] (d ∷ ds) os = ⊥
  AreSeated house shard (q ∷ qs) [] os = ⊥
  AreSeated house shard (q ∷ qs) (d ∷ ds) [] = ⊥
  AreSeated house shard (q ∷ qs) (d ∷ ds) (o ∷ os) =
      IsSeated house shard q d o × AreSeated house (shard + 1) qs ds os

  -- a desk with its pass, and a port, were added for each external address from this one on
  pub record Seats (house : HouseCalls P) (shard : ℕ) (passes : List P)
      (queues_old queues_new : List TableId) (desks_old desks_new : List (Desk P))
      (ports_old ports_new : List Port) : Type 0 where
    pub queues : List TableId
    pub desks : List (Desk P)
    pub ports : List Port
    pub queues_are : queues_new ≡ queues_old ++ queues
    pub desks_are : desks_new ≡ desks_old ++ desks
    pub ports_are : ports_new ≡ ports_old ++ ports
    pub passes_are : map (λ d. d.pass) desks ≡ passes
    pub seated : AreSeated house shard queues desks ports

  -- ---- once all threads have ended

  -- the ends of one queue, as the threads left them
  pub record IsLeft (house : HouseCalls P) (queue : TableId) (desk : Desk P) (port : Port)
      : Type 0 where
    pub desk_is : IsDesk house queue desk.pass desk.taker
    pub batch : desk.batch ≡ []
    pub queue_is : port.putter.queue ≡ queue
    pub route_is : port.putter.route ≡ desk.taker.route

  abbrev pub AreLeft : HouseCalls P → List TableId → List (Desk P) → List Port → Type 0
  AreLeft house [] [] [] = Unit {0}
  AreLeft house [] [] (o ∷ os) = ⊥
  AreLeft house [] (d ∷ ds) os = ⊥
  AreLeft house (q ∷ qs) [] os = ⊥
  AreLeft house (q ∷ qs) (d ∷ ds) [] = ⊥
  AreLeft house (q ∷ qs) (d ∷ ds) (o ∷ os) = IsLeft house q d o × AreLeft house qs ds os

  -- what was left of all that was put was done
  abbrev pub IsEnding : HouseCalls P → Ending P → Type 0
  IsEnding house e =
      Finishes house (state_at e.left) (state_at e.done) e.left.desk.taker.taken e.port.putter.put

  -- All was done for each external address; the passes and the joined rows were added, in order.
  pub record FinishesAll (house : HouseCalls P) (desks : List (Desk P)) (ports : List Port)
      (outs_old outs_new : List OutState) (times_old times_new : List (Option Times))
      (passes_old passes_new : List P) (rows_old rows_new : List TallyRow) : Type 0 where
    pub endings : List (Ending P)
    pub each : AllByRecursion (IsEnding house) endings
    pub desks_are : desks ≡ map (λ e. e.left.desk) endings
    pub ports_are : ports ≡ map (λ e. e.port) endings
    pub outs_were : outs_old ≡ map (λ e. e.left.out) endings
    pub outs_are : outs_new ≡ map (λ e. e.done.out) endings
    pub times_were : times_old ≡ map (λ e. e.left.times) endings
    pub times_are : times_new ≡ map (λ e. e.done.times) endings
    pub passes_are : passes_new ≡ passes_old ++ map (λ e. e.done.desk.pass) endings
    pub rows_are : rows_new ≡ rows_old ++ map (λ e. joined_rows e.done.desk.row e.port.row) endings
