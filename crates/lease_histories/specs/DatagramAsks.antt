-- What datagrams of either protocol ask for.
use Rattle.std.specs.Prelude.{◌≡◌, ℕ, List}
use Rattle.pcp_base.specs.declared.addresses.Address.{Address}
use Rattle.pcp_base.specs.declared.asks.Ask.{Ask}
use Rattle.pcp_base.specs.declared.configs.Config.{Config}
use Rattle.pcp_base.specs.Asks.{IsWellFormedAsk}
use Rattle.pcp_options.specs.declared.options.Item.{Item}
use Rattle.pcp_options.specs.declared.verdicts.Verdict.TheVariants.{Asked}
use Rattle.pcp_options.specs.Responses.{AreOctets}
use Rattle.lease_histories.specs.Routes.{verdict_of_datagram}

-- whatever is asked may be asked of a lease table
abbrev pub DatagramAsksAreWellFormed : Type 0
DatagramAsksAreWellFormed =
    (config : Config) (source : Address) (message : List ℕ) (place : ℕ) (ask : Ask)
    (items : List Item) → AreOctets message
    → verdict_of_datagram config source message ≡ Asked place ask items → IsWellFormedAsk ask
