-- The head of a reply, and the reply to a refused request (RFC 6887, sections 7.2 and 8.2; the padding
-- and the cut of an error reply are our own).
use Rattle.std.specs.Prelude.{ℕ, ◌+◌, ◌-◌, ◌*◌, ◌/◌, ◌%◌, min, max, List, ◌∷◌, ◌++◌, length, replicate, if◌then◌else◌}
use Rattle.std.specs.Int.{to_be_bytes, w32}
use Rattle.pcp_base.specs.declared.asks.Refusal.{Refusal}
use Rattle.pcp_base.specs.Codes.{code_number}
use Rattle.pcp_codec.specs.declared.layout.TheConstants.{VERSION, R_BIT, MESSAGE_OCTETS, HEAD_OCTETS, LAST_PLACE}
use Rattle.pcp_codec.specs.Fields.{octets_at}
use Rattle.pcp_codec.specs.Requests.{opcode_of}

-- version 2, the R bit and the opcode, a reserved octet, the code, the lifetime, the epoch, and 12 octets
abbrev pub head : ℕ → ℕ → ℕ → ℕ → List ℕ → List ℕ
head opcode code lifetime epoch last =
    VERSION ∷ (R_BIT + opcode % R_BIT) ∷ 0 ∷ code ∷ to_be_bytes w32 lifetime ++ to_be_bytes w32 epoch ++ last

-- How many octets an error reply has: those of the request, at most 1100, filled up to a multiple of 4,
-- and a head's at least.
abbrev pub reply_length : List ℕ → ℕ
reply_length request = max HEAD_OCTETS ((min (length request) MESSAGE_OCTETS + 3) / 4 * 4)

-- The last 12 octets of an error reply's head: zeros where the request was read up to its options and
-- these too, else a copy of the last 96 bits of the client address (RFC 6887, section 7.2).
abbrev pub refusal_last : List ℕ → Refusal → List ℕ
refusal_last request refusal =
    if refusal.parsed then replicate 12 0 else octets_at request LAST_PLACE 12

-- an error reply: the request with zeros past its end, under a new head
abbrev pub refusal_text : List ℕ → Refusal → ℕ → List ℕ
refusal_text request refusal epoch =
    head (opcode_of request) (code_number refusal.code) refusal.lifetime epoch (refusal_last request refusal)
    ++ octets_at request HEAD_OCTETS (reply_length request - HEAD_OCTETS)
