-- What holds of each state that fitting records make (our own).
use Rattle.std.specs.Prelude.{◌≡◌, ◌<◌, ◌≤◌, ◌^◌, [], None}
use Rattle.std.specs.List.{AllByRecursion}
use Rattle.pcp_base.specs.States.{State}
use Rattle.pcp_base.specs.Records.{IsTermAt, IsEndAt}
use Rattle.pcp_base.specs.Sound.{SoundState}

pub record IsReached (s : State) : Type 0 where
  pub sound : SoundState s
  -- each lease was granted by the last moment, and is live at it
  pub maps : AllByRecursion (λ l. IsTermAt s.last l.granted l.expiry) s.table.maps
  pub peers : AllByRecursion (λ l. IsTermAt s.last l.granted l.expiry) s.table.peers
  -- each end came by the last moment, less than 120 seconds before it
  pub ends : AllByRecursion (IsEndAt s.last) s.ends
  pub base : s.base ≤ s.last
  pub last : s.last < 2 ^ 40

-- the same in the first format, which knows no ends and no address
pub record IsReachedFirst (s : State) : Type 0 where
  pub reached : IsReached s
  pub endless : s.ends ≡ []
  pub unnamed : s.address ≡ None
