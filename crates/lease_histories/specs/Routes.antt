-- To which external address a datagram goes (our own).
use Rattle.std.specs.Prelude.{ℕ, List, [], unwrap_or, if◌then◌else◌}
use Rattle.pcp_base.specs.declared.addresses.Address.{Address}
use Rattle.pcp_base.specs.declared.configs.Config.{Config}
use Rattle.pcp_base.specs.declared.datagrams.Datagram.{Datagram}
use Rattle.pcp_base.specs.Pairing.{place_of}
use Rattle.pcp_options.specs.declared.verdicts.Verdict.{Verdict}
use Rattle.pcp_options.specs.declared.verdicts.Verdict.TheVariants.{Silent, Refuse, Asked}
use Rattle.pcp_options.specs.Verdicts.{verdict_of}
use Rattle.natpmp_front.specs.declared.requests.Front.{Front}
use Rattle.natpmp_front.specs.declared.requests.Front.TheVariants as Fronts
use Rattle.natpmp_front.specs.Requests.{is_front}
use Rattle.natpmp_front.specs.Verdicts.{front_of}

-- the verdict on a datagram of NAT-PMP, whose requests have no options
abbrev pub front_verdict : Front → Verdict
front_verdict Fronts.Silent = Silent
front_verdict (Fronts.Asked place ask) = Asked place ask []

-- the verdict on octets that came from a source: that of NAT-PMP where octet 0 is 0, else that of PCP
unfoldable pub verdict_of_datagram : Config → Address → List ℕ → Verdict
verdict_of_datagram config source message =
    if is_front message then front_verdict (front_of config source message)
    else verdict_of config source message

-- the verdict on a datagram
abbrev pub judged : Config → Datagram → Verdict
judged config from = verdict_of_datagram config from.peer from.octets

-- that of what is asked, else that of the source, else the first
abbrev pub place_by : Config → Address → Verdict → ℕ
place_by config source (Asked place ask items) = place
place_by config source (Refuse refusal) = unwrap_or (place_of config.subscribers source) 0
place_by config source Silent = unwrap_or (place_of config.subscribers source) 0

-- the index of the external address to which a datagram goes
abbrev pub route_of : Config → Datagram → ℕ
route_of config from = place_by config from.peer (judged config from)
