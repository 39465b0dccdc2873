-- Which datagrams are noise (our own): they ask for nothing that may be granted, whatever the leases are.
use Rattle.std.specs.Prelude.{Bool, true, false}
use Rattle.pcp_base.specs.declared.asks.Ask.{Ask}
use Rattle.pcp_base.specs.declared.asks.Ask.TheVariants as Asks
use Rattle.pcp_base.specs.declared.configs.Config.{Config}
use Rattle.pcp_base.specs.declared.datagrams.Datagram.{Datagram}
use Rattle.pcp_options.specs.declared.verdicts.Verdict.{Verdict}
use Rattle.pcp_options.specs.declared.verdicts.Verdict.TheVariants.{Silent, Refuse, Asked}
use Rattle.lease_histories.specs.Routes.{judged}

-- it is known already that it is refused
abbrev pub is_known : Ask → Bool
is_known (Asks.Known refusal) = true
is_known Asks.Announce = false
is_known (Asks.Map ask) = false
is_known (Asks.Peer ask) = false

-- it isn't a request that may be granted
abbrev pub is_hopeless : Verdict → Bool
is_hopeless Silent = true
is_hopeless (Refuse refusal) = true
is_hopeless (Asked place ask items) = is_known ask

-- a datagram that asks for nothing that may be granted
abbrev pub is_noise : Config → Datagram → Bool
is_noise config from = is_hopeless (judged config from)
