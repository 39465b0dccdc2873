-- Updates of renumbered external addresses are sent, each through the outbox of its own (our own).
use Rattle.std.specs.Prelude.{◌≡◌, ℕ, ◌+◌, List, [], ◌∷◌, ◌++◌, length, map, flat_map, replicate}
use Rattle.pcp_base.specs.declared.configs.Config.{Config}
use Rattle.pcp_base.specs.declared.datagrams.Datagram.{Datagram}
use Rattle.pcp_announce.specs.Doors.{doors_to}
use Rattle.job_workers.specs.Sends.{Handed, HandsAll}
use Rattle.job_workers.specs.Stations.{OutState}

-- an update by each door by which its receiver is reached, in order
abbrev pub by_doors : Config → Datagram → List Datagram
by_doors config update = map (λ door. record update { door = door }) (doors_to config update.peer)

-- these were handed to an outbox, in order and each once
pub record Hands (datagrams : List Datagram) (old new : OutState) : Type 0 where
  pub handed : List Handed
  pub datagrams_are : map (λ h. h.reply) handed ≡ datagrams
  pub all : HandsAll handed old.sent new.sent old.faults new.faults
  pub idle : datagrams ≡ [] → new ≡ old

module _ (config : Config) where
  -- the updates of each external address to its outbox; the outboxes behind them are as they were
  abbrev pub HandsEach : List (List Datagram) → (old new : List OutState) → Type 0
  HandsEach [] old new = new ≡ old
  HandsEach (us ∷ uss) [] new = ⊥
  HandsEach (us ∷ uss) (o ∷ os) [] = ⊥
  HandsEach (us ∷ uss) (o ∷ os) (n ∷ ns) =
      Hands (flat_map (by_doors config) us) o n × HandsEach uss os ns

-- the index of the external address of each update; the first ones are of this one
abbrev pub places_of : ℕ → List (List Datagram) → List ℕ
places_of place [] = []
places_of place (us ∷ uss) = replicate (length us) place ++ places_of (place + 1) uss
