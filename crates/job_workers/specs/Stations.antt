-- The workers of all external addresses (our own).
use Rattle.std.specs.Prelude.{◌≡◌, ℕ, List, [], ◌∷◌, Option}
use Rattle.std.specs.List.{AllZip}
use Rattle.atomic_table.specs.Seated.{TableId}
use Rattle.pcp_base.specs.declared.datagrams.Datagram.{Datagram}
use Rattle.pcp_io.specs.Times.{Times}
use Rattle.job_workers.specs.declared.workers.Desk.{Desk}
use Rattle.job_workers.specs.Gatherings.{HasWorked, IsDesk}
use Rattle.job_workers.specs.HouseCalls.{HouseCalls}
use Rattle.job_workers.specs.Works.{WorkState}

-- what an outbox tells
pub record OutState : Type 0 where
  pub sent : Option (List Datagram)
  pub faults : ℕ

-- a worker's desk, with its outbox and its clock
pub record Station (P : Type 0) : Type 0 where
  pub desk : Desk P
  pub out : OutState
  pub times : Option Times

module _ {P : Type 0} where
  abbrev pub stations : List (Desk P) → List OutState → List (Option Times) → List (Station P)
  stations [] outs times = []
  stations (d ∷ ds) [] times = []
  stations (d ∷ ds) (o ∷ os) [] = []
  stations (d ∷ ds) (o ∷ os) (t ∷ ts) =
      record { desk = d; out = o; times = t } ∷ stations ds os ts

  abbrev pub state_at : Station P → WorkState P
  state_at s = record {
    pass = s.desk.pass;
    row = s.desk.row;
    sent = s.out.sent;
    faults = s.out.faults;
    times = s.times;
  }

  -- each desk is one of its queue
  abbrev pub AreStations : HouseCalls P → List TableId → List (Desk P) → Type 0
  AreStations house queues desks =
      AllZip (λ q d. IsDesk house q d.pass d.taker × (d.batch ≡ [])) queues desks

  -- each worker did jobs of its queue
  abbrev pub AllWorked : HouseCalls P → List (Station P) → List (Station P) → Type 0
  AllWorked house old new = AllZip
      (λ s t. HasWorked house (state_at s) (state_at t) s.desk.taker t.desk.taker
      × (t.desk.batch ≡ [])) old new
