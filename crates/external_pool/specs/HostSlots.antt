-- Which slot a host has (our own; for proofs alone).
use Rattle.std.specs.Prelude.{ℕ, ◌*◌, ◌/◌, ◌%◌, ◌^◌, List}
use Rattle.std.specs.Int.{w128, from_be_bytes}
use Rattle.external_pool.specs.declared.hosts.TheConstants.{MIXER}

-- the number that the octets of the address spell is multiplied modulo 2 ^ 128, and its highest 12
-- bits are taken
unfoldable pub slot_of : List ℕ → ℕ
slot_of octets = from_be_bytes w128 octets * MIXER % 2 ^ 128 / 2 ^ 116
