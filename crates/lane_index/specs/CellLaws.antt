-- What is found in cells (our own).
use Rattle.std.specs.Prelude.{◌≡◌, ℕ, ◌≤◌, max, true, List, Option, IfSome, IfNone}
use Rattle.pcp_base.specs.declared.leases.Endpoint.{Endpoint}
use Rattle.pcp_base.specs.States.{State}
use Rattle.filter_rules.specs.Lookups.{look}
use Rattle.lane_index.specs.declared.senders.Sender.{Sender}
use Rattle.lane_index.specs.declared.cells.Cell.{Cell}
use Rattle.lane_index.specs.Openings.{EachLaterWins, IsOpen, NoneOpens}
use Rattle.lane_index.specs.LeaseCells.{AreCellsOf}

-- what is found in cells that stand for a state's table is what the state tells
abbrev pub LooksAreTheTables : Type 0
LooksAreTheTables = (st : State) (s : Sender) (m : ℕ) (cells : List Cell) (result : Option Endpoint)
    → AreCellsOf st.table st.last cells → s.port ≤ 65535
    → IfSome result (λ e. IsOpen (max m st.last) s cells e)
    → IfNone result (EachLaterWins (max m st.last) cells →
    NoneOpens (max m st.last) s (λ c. true) cells)
    → result ≡ look st s.protocol s.port s.remote s.remote_port m
