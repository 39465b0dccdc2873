-- When announcements are due, and what they say (RFC 6887, section 14.1; their number and gaps are our own).
use Rattle.std.specs.Prelude.{ℕ, ◌+◌, ◌-◌, ◌*◌, ◌/◌, ◌^◌, ◌<◌, ◌≤◌, ◌&&◌, nat_lt, nat_le, max, Bool, List, replicate, Option, Some, None, if◌then◌else◌}
use Rattle.pcp_base.specs.Epoch.{epoch_of}
use Rattle.pcp_codec.specs.declared.layout.TheConstants.{ANNOUNCE_OPCODE}
use Rattle.pcp_codec.specs.Replies.{head}
use Rattle.pcp_announce.specs.declared.announcer.TheConstants.{ANNOUNCEMENTS, FIRST_GAP_MS}

pub record Schedule : Type 0 where
  -- the base seen last
  pub base : ℕ
  -- when the last rise of the base was seen, in milliseconds
  pub since : ℕ
  -- how many announcements were made of those that follow it
  pub made : ℕ
  -- the last time handed in
  pub last : ℕ

pub record IsSchedule (s : Schedule) : Type 0 where
  pub made : s.made ≤ ANNOUNCEMENTS
  pub since : s.since ≤ s.last
  pub last : s.last < 1000 * 2 ^ 40

-- all are to be made where the base is fresh, else none
abbrev pub begun : ℕ → Bool → ℕ → Schedule
begun base fresh now = record { base = base; since = now; made = if fresh then 0 else ANNOUNCEMENTS; last = now }

-- a time that is smaller than the last one counts as that one
abbrev pub counted : Schedule → ℕ → ℕ
counted s now = max s.last now

-- a greater base begins anew
abbrev pub after_seen : Schedule → ℕ → ℕ → Schedule
after_seen s base now =
    if nat_lt s.base base then record { base = base; since = counted s now; made = 0; last = counted s now }
    else record s { base = base; last = counted s now }

-- how long after the rise the k-th is due, from 0: each gap is twice the one before
abbrev pub wait_of : ℕ → ℕ
wait_of k = FIRST_GAP_MS * (2 ^ k - 1)

-- whether one is left, and its time has come
abbrev pub is_due : Schedule → ℕ → Bool
is_due s now = nat_lt s.made ANNOUNCEMENTS && nat_le (s.since + wait_of s.made) (counted s now)

-- one is made where it is due
abbrev pub after_due : Schedule → ℕ → Schedule
after_due s now = record s { made = if is_due s now then s.made + 1 else s.made; last = counted s now }

-- an announcement: the head of a success with lifetime 0
abbrev pub announcement : Schedule → ℕ → List ℕ
announcement s now = head ANNOUNCE_OPCODE 0 0 (epoch_of (counted s now / 1000) s.base) (replicate 12 0)
