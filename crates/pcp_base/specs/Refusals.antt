-- Refusals (RFC 6887, section 8.2).
use Rattle.std.specs.Prelude.{true, false}
use Rattle.pcp_base.specs.declared.codes.Code.{Code}
use Rattle.pcp_base.specs.declared.asks.Refusal.{Refusal}
use Rattle.pcp_base.specs.Codes.{lifetime_of}

-- a request whose options were read
abbrev pub parsed : Code → Refusal
parsed code = record { code = code; parsed = true; lifetime = lifetime_of code }

-- a request that is refused before that
abbrev pub unparsed : Code → Refusal
unparsed code = record { code = code; parsed = false; lifetime = lifetime_of code }
