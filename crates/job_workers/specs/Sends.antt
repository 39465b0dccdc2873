-- Replies that are handed to an outbox (our own).
use Rattle.std.specs.Prelude.{◌≡◌, ℕ, ◌+◌, ◌-◌, ◌^◌, ◌≤◌, ◌⊎◌, Bool, not, List, [], ◌∷◌, length, map, filter, Option}
use Rattle.pcp_base.specs.declared.datagrams.Datagram.{Datagram}
use Rattle.pcp_announce.specs.declared.doors.Group.{Group}
use Rattle.pcp_io.specs.Sends.{sent_with}
use Rattle.job_workers.specs.declared.tallies.Sends.{Sends}

-- The count of faults has risen by at least so many. A count of 64 bits that stands at its end says
-- nothing.
abbrev pub HasRisenBy : ℕ → ℕ → ℕ → Type 0
HasRisenBy n before now = (before + n ≤ now) ⊎ (2 ^ 64 - 1 ≤ now)

-- a reply, and whether its send was Ok
pub record Handed : Type 0 where
  pub reply : Datagram
  pub sent : Bool

-- those that the outbox took
abbrev pub taken_of : List Handed → List Datagram
taken_of handed = map (λ h. h.reply) (filter (λ h. h.sent) handed)

abbrev pub sent_count : List Handed → ℕ
sent_count handed = length (filter (λ h. h.sent) handed)

abbrev pub unsent_count : List Handed → ℕ
unsent_count handed = length (filter (λ h. not h.sent) handed)

-- these replies were handed to an outbox, which told the first as what it took before, and the
-- second after
pub record HandsAll (handed : List Handed) (before now : Option (List Datagram))
    (faults_before faults_now : ℕ) : Type 0 where
  pub sent : now ≡ sent_with before (taken_of handed)
  pub faults : HasRisenBy (unsent_count handed) faults_before faults_now
  pub later : faults_before ≤ faults_now

abbrev pub HandsOne : Datagram → Bool → Option (List Datagram) → Option (List Datagram) → ℕ → ℕ →
    Type 0
HandsOne reply sent = HandsAll (record { reply = reply; sent = sent } ∷ [])

-- all these replies were handed on, in order, each once
pub record HandsOn (replies : List Datagram) (sends : Sends) (before now : Option (List Datagram))
    (faults_before faults_now : ℕ) : Type 0 where
  pub handed : List Handed
  pub replies_are : map (λ h. h.reply) handed ≡ replies
  pub all : HandsAll handed before now faults_before faults_now
  pub sent : sends.sent ≡ sent_count handed
  pub failed : sends.failed ≡ unsent_count handed

-- octets to this port of all hosts of a group, by its door
abbrev pub to_group : ℕ → List ℕ → Group → Datagram
to_group port octets group =
    record { peer = group.hosts; port = port; door = group.door; octets = octets }

-- the same octets to all of these groups, in order
abbrev pub to_all : List Group → ℕ → List ℕ → List Datagram
to_all groups port octets = map (to_group port octets) groups

-- these octets were handed on to all of these groups, in order
pub record TellsAll (groups : List Group) (port : ℕ) (octets : List ℕ)
    (before now : Option (List Datagram)) (faults_before faults_now : ℕ) : Type 0 where
  pub handed : List Handed
  pub told : map (λ h. h.reply) handed ≡ to_all groups port octets
  pub sends : HandsAll handed before now faults_before faults_now
