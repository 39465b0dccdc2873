-- What is known of the ports of an external address at a moment (our own).
use Rattle.std.specs.Prelude.{◌≡◌, ℕ, ◌+◌, ◌<◌, ◌≤◌, ◌^◌, List, [], Option, Some, None, if◌then◌else◌}
use Rattle.pcp_base.specs.declared.leases.Protocol.{Protocol}
use Rattle.pcp_base.specs.declared.leases.End.{End}
use Rattle.pcp_base.specs.Ends.{is_recent}
use Rattle.pcp_base.specs.States.{State}
use Rattle.lease_store.specs.declared.terms.Terms.{Terms}
use Rattle.port_spans.specs.declared.runs.Run.{Run}
use Rattle.leased_ports.specs.LastEnds.{last_end}
use Rattle.leased_ports.specs.Kept.{end_by}

pub record Leased : Type 0 where
  -- the range of ports that are given, and how many an address may own
  pub low : ℕ
  pub high : ℕ
  pub quota : ℕ
  -- the moment by which all that fell due is seen to, and the one that is reached
  pub settled : ℕ
  pub reached : ℕ
  -- the runs of ports that have their last ends together, also of those whose rest is over
  pub runs : List (Run End)

abbrev pub leased : (low high quota settled reached : ℕ) → List (Run End) → Leased
leased low high quota settled reached runs = record {
  low = low;
  high = high;
  quota = quota;
  settled = settled;
  reached = reached;
  runs = runs;
}

-- the last end of a port
abbrev pub end_of : Leased → Protocol → ℕ → Option End
end_of v protocol port = end_by v.runs protocol port

-- no port has a last end, and the moment is 0
abbrev pub fresh_ports : ℕ → ℕ → ℕ → Leased
fresh_ports low high quota = leased low high quota 0 0 []

-- the same on the same range and quota
abbrev pub vacated : Leased → Leased
vacated v = fresh_ports v.low v.high v.quota

-- the end, while it is recent
abbrev pub while_recent : ℕ → Option End → Option End
while_recent m None = None
while_recent m (Some e) = if is_recent m e then Some e else None

-- the same at a later moment
abbrev pub at_moment : ℕ → Leased → Leased
at_moment m v = record v { reached = m }

-- the same where all that fell due is seen to
abbrev pub as_settled : Leased → Leased
as_settled v = record v { settled = v.reached }

-- the same but for last ends
pub record OnlyEndsChange (old new : Leased) : Type 0 where
  pub low : new.low ≡ old.low
  pub high : new.high ≡ old.high
  pub quota : new.quota ≡ old.quota
  pub settled : new.settled ≡ old.settled
  pub reached : new.reached ≡ old.reached

-- an end of a port of 1 to 65535
pub record IsLastEnd (e : End) : Type 0 where
  pub external : 1 ≤ e.external
  pub near : e.end < 2 ^ 41

-- ends of n ports in a row, at least one: this one and those along it
pub record AreLastEnds (first : End) (n : ℕ) : Type 0 where
  pub is_last : IsLastEnd first
  pub some : 1 ≤ n
  pub external : first.external + n ≤ 65536
  pub internal : first.endpoint.port + n ≤ 65536

-- the value is that of the ports of a state: the last ends by which ports are held or rest at its
-- last moment are those of the state
pub record IsPortsOf (v : Leased) (s : State) : Type 0 where
  pub passed : s.last ≤ v.reached
  pub same : (protocol : Protocol) (port : ℕ) →
      while_recent s.last (end_of v protocol port) ≡ last_end s s.last protocol port

-- the ports are leased on these terms
pub record IsOnTerms (v : Leased) (terms : Terms) : Type 0 where
  pub low : v.low ≡ terms.external.low
  pub high : v.high ≡ terms.external.high
  pub quota : v.quota ≡ terms.quota
