-- How a request counts, by whether a lease covers its endpoint before it, and by the reply (our
-- own; for private contracts).
use Rattle.std.specs.Prelude.{ℕ, ◌==◌, max, Bool, false, slice_index, if◌then◌else◌, List}
use Rattle.pcp_base.specs.declared.asks.Ask.{Ask}
use Rattle.pcp_base.specs.declared.asks.Ask.TheVariants as Asks
use Rattle.load_summary.specs.declared.counts.LoadKind.{LoadKind}
use Rattle.load_summary.specs.declared.counts.LoadKind.TheVariants.{Granted, Renewed, Deleted, Absent, Refused}
use Rattle.lease_histories.specs.PlainHouses.{PlainHouse, covering_in}
use Rattle.lease_house.specs.SoloHouses.{last_in}

-- whether a MAP lease of the external address at this place covers what a call at `now` asks for;
-- what isn't a MAP request has no lease
abbrev pub is_there : PlainHouse → ℕ → Ask → ℕ → Bool
is_there house place (Asks.Map ask) now =
    covering_in house place ask.endpoint (max now (last_in house place))
is_there house place (Asks.Known refusal) now = false
is_there house place Asks.Announce now = false
is_there house place (Asks.Peer ask) now = false

-- whether octet 3 of a reply tells a success
abbrev pub is_met : List ℕ → Bool
is_met reply = slice_index reply 3 == 0

-- how what was met counts
abbrev pub kind_met : (deletes there : Bool) → LoadKind
kind_met deletes there = if deletes
    then (if there then Deleted else Absent)
    else (if there then Renewed else Granted)

-- what isn't a MAP request counts as refused
abbrev pub kind_told : Ask → (there : Bool) → List ℕ → LoadKind
kind_told (Asks.Map ask) there reply =
    if is_met reply then kind_met (ask.lifetime == 0) there else Refused
kind_told (Asks.Known refusal) there reply = Refused
kind_told Asks.Announce there reply = Refused
kind_told (Asks.Peer ask) there reply = Refused
