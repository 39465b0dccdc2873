-- Datagrams that are handed to an outbox (our own).
use Rattle.std.specs.Prelude.{◌≡◌, ℕ, ◌+◌, ◌-◌, ◌^◌, ◌≤◌, ◌⊎◌, Bool, not, List, length, map, filter, Option}
use Rattle.pcp_base.specs.declared.datagrams.Datagram.{Datagram}
use Rattle.pcp_io.specs.Sends.{sent_with}

-- what an outbox tells
pub record Told : Type 0 where
  -- the datagrams that it took, where it tells them
  pub sent : Option (List Datagram)
  pub faults : ℕ

-- a datagram, and whether the outbox took it
pub record Handed : Type 0 where
  pub datagram : Datagram
  pub taken : Bool

abbrev pub taken_of : List Handed → List Datagram
taken_of handed = map (λ h. h.datagram) (filter (λ h. h.taken) handed)

abbrev pub lost_count : List Handed → ℕ
lost_count handed = length (filter (λ h. not h.taken) handed)

-- The count of faults has risen by at least so many. A count of 64 bits that stands at its end says
-- nothing.
abbrev pub HasRisenBy : ℕ → ℕ → ℕ → Type 0
HasRisenBy n before now = (before + n ≤ now) ⊎ (2 ^ 64 - 1 ≤ now)

-- these were handed to it, and each that it didn't take is a fault
pub record HandsAll (handed : List Handed) (old new : Told) : Type 0 where
  pub sent : new.sent ≡ sent_with old.sent (taken_of handed)
  pub faults : HasRisenBy (lost_count handed) old.faults new.faults
  pub later : old.faults ≤ new.faults

-- these datagrams were handed to it, in order and each once
pub record Hands (datagrams : List Datagram) (old new : Told) : Type 0 where
  pub handed : List Handed
  pub are : map (λ h. h.datagram) handed ≡ datagrams
  pub all : HandsAll handed old new
