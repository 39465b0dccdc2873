-- Where ports of both protocols stand, and the ends of ports in a row that got theirs together
-- (our own).
use Rattle.std.specs.Prelude.{◌≡◌, ℕ, ◌+◌, ◌-◌, List, Option, Some, None, IfSome}
use Rattle.pcp_base.specs.declared.leases.Protocol.{Protocol}
use Rattle.pcp_base.specs.declared.leases.Protocol.TheVariants.{Tcp, Udp}
use Rattle.pcp_base.specs.declared.leases.End.{End}
use Rattle.port_spans.specs.declared.runs.Run.{Run}
use Rattle.port_spans.specs.Runs.{run_at}

-- where a port stands among those of both protocols
abbrev pub spot : Protocol → ℕ → ℕ
spot Tcp port = port
spot Udp port = 65536 + port

abbrev pub spot_of : End → ℕ
spot_of e = spot e.endpoint.protocol e.external

-- the end of the port i behind that of an end
abbrev pub end_along : ℕ → End → End
end_along i e = record {
  endpoint = record e.endpoint { port = e.endpoint.port + i };
  external = e.external + i;
  end = e.end;
}

-- the end at a spot of a run: its value is that of its first port
abbrev pub end_told : ℕ → Option (Run End) → Option End
end_told at None = None
end_told at (Some r) = Some (end_along (at - r.first) r.value)

-- no run goes on over a spot
abbrev pub BeginsAt : ℕ → List (Run End) → Type 0
BeginsAt at runs = IfSome (run_at runs at) (λ r. r.first ≡ at)
