-- What the ports of one protocol are used for (our own).
use Rattle.std.specs.Prelude.{◌≡◌, ℕ, zero, suc, ◌+◌, ◌<◌, ◌≤◌, ◌&&◌, ◌==◌, nat_le, Bool, true, false, List, [], ◌∷◌, ◌++◌, take, drop, replicate, slice_index_or}
use Rattle.pcp_base.specs.declared.addresses.Address.{Address}
use Rattle.pcp_base.specs.Tables.{same_address}
use Rattle.external_pool.specs.declared.uses.Use.{Use}
use Rattle.external_pool.specs.declared.uses.Use.TheVariants.{Free, Held, Resting}

-- the range, and for each port number what it is used for
pub record PortUses : Type 0 where
  pub low : ℕ
  pub high : ℕ
  pub each : List Use

-- a range, and these uses
abbrev pub uses_over : ℕ → ℕ → List Use → PortUses
uses_over low high each = record { low = low; high = high; each = each }

-- no port is used
unfoldable pub all_free : ℕ → List Use
all_free count = replicate count Free

abbrev pub use_at : List Use → ℕ → Use
use_at each port = slice_index_or each port Free

abbrev pub is_in_range : ℕ → ℕ → ℕ → Bool
is_in_range low high port = nat_le low port && nat_le port high

-- neither held nor at rest
abbrev pub is_free_use : Use → Bool
is_free_use Free = true
is_free_use (Held who) = false
is_free_use (Resting who internal) = false

abbrev pub is_held : Use → Bool
is_held Free = false
is_held (Held who) = true
is_held (Resting who internal) = false

abbrev pub is_held_by : Address → Use → Bool
is_held_by who Free = false
is_held_by who (Held holder) = same_address holder who
is_held_by who (Resting last internal) = false

-- neither held nor at rest for another endpoint than this address and internal port
abbrev pub is_free_to : Address → ℕ → Use → Bool
is_free_to who internal Free = true
is_free_to who internal (Held holder) = false
is_free_to who internal (Resting last port) = same_address last who && port == internal

-- in the range, held by nobody and at rest for nobody
abbrev pub is_vacant : PortUses → ℕ → Bool
is_vacant uses port =
    is_in_range uses.low uses.high port && is_free_use (use_at uses.each port)

-- in the range, held by nobody and at rest for no other endpoint
abbrev pub is_open : PortUses → Address → ℕ → ℕ → Bool
is_open uses who internal port =
    is_in_range uses.low uses.high port && is_free_to who internal (use_at uses.each port)

-- the use of the port i behind one with this use: where ports go to rest in a row, so do the
-- internal ones
abbrev pub use_along : ℕ → Use → Use
use_along i Free = Free
use_along i (Held who) = Held who
use_along i (Resting last internal) = Resting last (internal + i)

-- the uses of n ports in a row, of which the first has this use
abbrev pub uses_along : ℕ → Use → List Use
uses_along zero value = []
uses_along (suc n) value = value ∷ uses_along n (use_along 1 value)

-- the internal port that it tells, if it tells one
abbrev pub internal_of : Use → ℕ
internal_of Free = 0
internal_of (Held who) = 0
internal_of (Resting last internal) = internal

-- of the n ports from start on the first has this use and those behind it the uses along it; the
-- others stay
abbrev pub with_run : ℕ → ℕ → Use → List Use → List Use
with_run start n value each =
    take start each ++ (uses_along n value ++ drop (start + n) each)

abbrev pub with_uses : ℕ → ℕ → Use → PortUses → PortUses
with_uses start n value uses = record uses { each = with_run start n value uses.each }

abbrev pub is_resting : Use → Bool
is_resting Free = false
is_resting (Held who) = false
is_resting (Resting last internal) = true

-- at rest for this address and internal port
abbrev pub is_resting_for : Address → ℕ → Use → Bool
is_resting_for who internal Free = false
is_resting_for who internal (Held holder) = false
is_resting_for who internal (Resting last port) = same_address last who && port == internal

-- none of the n ports from start on is free
abbrev pub AreUsed : List Use → ℕ → ℕ → Type 0
AreUsed each start n =
    (port : ℕ) → start ≤ port → port < start + n → is_free_use (use_at each port) ≡ false
