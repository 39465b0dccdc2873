-- Fields of a message at their places; octets past its end read as zero (RFC 6886, section 3: numbers are
-- big-endian). As in the crate of PCP messages, on which this one doesn't stand.
use Rattle.std.specs.Prelude.{ℕ, zero, suc, ◌+◌, List, [], ◌∷◌, slice_index}
use Rattle.std.specs.Int.{from_be_bytes, w16, w32}

-- the octet at a place
abbrev pub octet : List ℕ → ℕ → ℕ
octet message place = slice_index message place

-- n octets from a place on
abbrev pub octets_at : List ℕ → ℕ → ℕ → List ℕ
octets_at message place zero = []
octets_at message place (suc n) = octet message place ∷ octets_at message (place + 1) n

-- the number of two octets, and of four
abbrev pub u16_at : List ℕ → ℕ → ℕ
u16_at message place = from_be_bytes w16 (octets_at message place 2)

abbrev pub u32_at : List ℕ → ℕ → ℕ
u32_at message place = from_be_bytes w32 (octets_at message place 4)
