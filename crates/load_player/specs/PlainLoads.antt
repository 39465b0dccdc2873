-- What serves a load, for tests (our own): it counts requests, and sends each back. One for UDP is
-- granted, any other refused.
use Rattle.std.specs.Prelude.{ℕ, ◌+◌, ◌==◌, if◌then◌else◌, slice_index}
use Rattle.pcp_base.specs.declared.datagrams.Datagram.{Datagram}
use Rattle.load_summary.specs.declared.counts.LoadKind.{LoadKind}
use Rattle.load_summary.specs.declared.counts.LoadKind.TheVariants.{Granted, Refused}
use Rattle.load_player.specs.LoadRuns.{LoadEffects}

-- the protocol of a MAP request stands at place 36 (RFC 6887, section 11.1)
abbrev pub kind_by_protocol : Datagram → LoadKind
kind_by_protocol from = if slice_index from.octets 36 == 17 then Granted else Refused

-- a house is how many requests it has served
abbrev pub plain_effects : LoadEffects ℕ
plain_effects = record {
  after = λ count from m. count + 1;
  reply = λ count from m. from.octets;
  kind = λ count from m. kind_by_protocol from;
  leases = λ count m. count;
  owned = λ count m. count;
}
