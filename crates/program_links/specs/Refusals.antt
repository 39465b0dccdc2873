-- Which replies tell an error.
use Rattle.std.specs.Prelude.{ℕ, ◌||◌, Bool, true, false, nat_eq, not, List, [], ◌∷◌, if◌then◌else◌}

-- The result code of NAT-PMP, whose version is 0, is in octets 2 and 3 (RFC 6886, section 3.2); that of PCP
-- is octet 3 (RFC 6887, section 7.2).
abbrev pub is_refusal : List ℕ → Bool
is_refusal (version ∷ opcode ∷ high ∷ code ∷ rest) =
    if nat_eq version 0 then not (nat_eq high 0) || not (nat_eq code 0) else not (nat_eq code 0)
is_refusal octets = false
