-- What is announced (our own).
use Rattle.std.specs.Prelude.{◌≡◌, ℕ, List, [], map, Option, if◌then◌else◌}
use Rattle.pcp_base.specs.declared.datagrams.Datagram.{Datagram}
use Rattle.pcp_io.specs.Times.{Times, IsTimeNow}
use Rattle.pcp_announce.specs.declared.doors.Group.{Group}
use Rattle.pcp_announce.specs.Schedules.{Schedule, after_due, after_seen, announcement, is_due}
use Rattle.job_workers.specs.HouseCalls.{HouseCalls, IsTold}
use Rattle.job_workers.specs.Sends.{Handed, HandsAll, to_all}

-- what announcements work on: the pass that asks the epoch word, the announcer, and of the outbox
-- and the clock what they tell
pub record AnnounceState (P : Type 0) : Type 0 where
  pub pass : P
  pub schedule : Schedule
  pub sent : Option (List Datagram)
  pub faults : ℕ
  pub times : Option Times

-- what is due of a schedule
abbrev pub due_to : List Group → ℕ → Schedule → ℕ → List Datagram
due_to groups port s time = if is_due s time then to_all groups port (announcement s time) else []

-- The epoch word is asked and the clock gives this time; the announcer sees that base and is asked
-- once. Where an announcement is due it goes to all groups by their doors, in order.
pub record Announces {P : Type 0} (house : HouseCalls P) (groups : List Group) (port : ℕ)
    (time : ℕ) (old new : AnnounceState P) : Type 0 where
  pub base : ℕ
  pub told : IsTold house old.pass new.pass base
  pub clock : IsTimeNow old.times new.times time
  pub schedule : new.schedule ≡ after_due (after_seen old.schedule base time) time
  pub handed : List Handed
  pub announcements : map (λ h. h.reply) handed
      ≡ due_to groups port (after_seen old.schedule base time) time
  pub sends : HandsAll handed old.sent new.sent old.faults new.faults
