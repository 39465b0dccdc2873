-- What a cascade keeps (our own; for proofs alone).
use Rattle.std.specs.Prelude.{◌≡◌, ℕ, ◌-◌, ◌<◌, ◌≤◌, ◌*◌, ◌/◌, ◌^◌, min, List, length, Option, Some, None, ⊤}
use Rattle.std.specs.List.{AllByRecursion}
use Rattle.pcp_base.specs.declared.leases.Endpoint.{Endpoint}
use Rattle.pcp_codec.specs.declared.layout.TheConstants.{HEAD_OCTETS}
use Rattle.cascade_ties.specs.declared.ties.Tie.{Tie}
use Rattle.cascade_ties.specs.declared.ties.Tied.{Tied}
use Rattle.cascade_ties.specs.declared.ties.Waiting.{Waiting}
use Rattle.cascade_ties.specs.Ties.{Ties, TiesDiffer, tie_of}
use Rattle.proxy_cascade.specs.declared.terms.CascadeTerms.{CascadeTerms}
use Rattle.proxy_cascade.specs.Cascades.{Cascade}

-- a request that was read has a head
abbrev pub HasHead : Option Waiting → Type 0
HasHead None = ⊤
HasHead (Some w) = HEAD_OCTETS ≤ length w.request

-- few ties that differ, and requests that were read
pub record AreKept (ties : List Tied) : Type 0 where
  pub few : length ties ≤ 4096
  pub differ : TiesDiffer ties
  pub heads : AllByRecursion (λ t. HasHead t.waiting) ties

-- the tie of an endpoint is this one
pub record IsTied (ts : Ties) (client : Endpoint) (tie : Tie) : Type 0 where
  pub tied : Tied
  pub found : tie_of client ts.each ≡ Some tied
  pub same : tied.tie ≡ tie

-- a time that a clock may tell
abbrev pub IsTime : ℕ → Type 0
IsTime now = now < 1000 * 2 ^ 40

pub record IsKept (last : ℕ) (ties : List Tied) : Type 0 where
  pub time : IsTime last
  pub kept : AreKept ties

-- the epoch that these terms tell
abbrev pub epoch_of : CascadeTerms → ℕ
epoch_of terms = min ((terms.last_ms - terms.base_ms) / 1000) (2 ^ 32 - 1)

-- the cascade with these terms and ties
abbrev pub cascade_of : CascadeTerms → Ties → Cascade
cascade_of terms ties = record {
  own = terms.own;
  server = terms.server;
  key = terms.key;
  ties = ties;
  base = terms.base_ms;
  heard = terms.heard;
  last = terms.last_ms;
}
