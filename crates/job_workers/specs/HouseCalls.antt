-- What workers know of a house (our own): what its calls do to a pass, whatever a pass of it is.
use Rattle.std.specs.Prelude.{◌≡◌, ℕ, List}
use Rattle.pcp_base.specs.declared.configs.Config.{Config}
use Rattle.pcp_base.specs.declared.datagrams.Datagram.{Datagram}
use Rattle.pcp_base.specs.declared.datagrams.Entry.{Entry}
use Rattle.lease_house.specs.declared.faults.HouseFault.{HouseFault}

pub record HouseCalls (P : Type 0) : Type 1 where
  pub config : Config
  -- the pass is one of this house
  pub is_pass : P → Type 0
  -- the index of its external address
  pub place_of : P → ℕ
  -- At this second the batch was answered: the pass before and after, the entries that the call
  -- noted as its own, and the replies.
  pub answers : ℕ → List Datagram → P → P → List Entry → List Datagram → Type 0
  -- all leases were lost, by these entries of the call's own
  pub loses : ℕ → P → P → List Entry → Type 0
  -- the call for a batch was refused, and for a loss
  pub refuses_batch : ℕ → List Datagram → P → P → List Entry → HouseFault → Type 0
  pub refuses_loss : ℕ → P → P → List Entry → HouseFault → Type 0
  -- the epoch word told this base
  pub hears : P → P → ℕ → Type 0
  -- another pass, the last one, was split off
  pub splits : P → P → P → Type 0

module _ {P : Type 0} (house : HouseCalls P) where
  -- a pass stays one of the house, for the same external address
  pub record StaysPass (old new : P) : Type 0 where
    pub is : house.is_pass old → house.is_pass new
    pub place : house.place_of new ≡ house.place_of old

  pub record AnswersBatchOf (now : ℕ) (batch : List Datagram) (old new : P)
      (replies : List Datagram) : Type 0 where
    pub own : List Entry
    pub answers : house.answers now batch old new own replies
    pub stays : StaysPass old new

  pub record LosesAllOf (now : ℕ) (old new : P) : Type 0 where
    pub own : List Entry
    pub loses : house.loses now old new own
    pub stays : StaysPass old new

  pub record RefusesBatchOf (now : ℕ) (batch : List Datagram) (old new : P) (fault : HouseFault)
      : Type 0 where
    pub own : List Entry
    pub refuses : house.refuses_batch now batch old new own fault
    pub stays : StaysPass old new

  pub record RefusesLossOf (now : ℕ) (old new : P) (fault : HouseFault) : Type 0 where
    pub own : List Entry
    pub refuses : house.refuses_loss now old new own fault
    pub stays : StaysPass old new

  -- the word told this base
  pub record IsTold (old new : P) (base : ℕ) : Type 0 where
    pub hears : house.hears old new base
    pub stays : StaysPass old new

  -- another pass of the same external address was split off
  pub record SplitsOff (old kept other : P) : Type 0 where
    pub splits : house.splits old kept other
    pub stays : StaysPass old kept
    pub is : house.is_pass other
    pub place : house.place_of other ≡ house.place_of old
