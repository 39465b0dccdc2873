-- Whether a server's epoch goes on as the client's clock does (RFC 6887, section 8.5). Numbers are whole and signed;
-- division truncates toward zero.
use Rattle.std.specs.Prelude.{ℕ, ℤ, pos, ◌≡◌, ◌+◌, ◌/◌, ◌<◌, ◌≤◌, ◌+ℤ◌, ◌-ℤ◌, int_lt, int_div, nat_lt, ◌||◌, not, Bool, true, false, Option, Some, None}
use Rattle.client_core.specs.declared.epochs.HeardEpoch.{HeardEpoch}

-- an epoch that a server tells, and the client's second at which it comes
abbrev pub heard_epoch : ℕ → ℕ → HeardEpoch
heard_epoch server seconds = record { server = server; seconds = seconds }

-- whether a time is shorter than another by more than a sixteenth of that, and 2 seconds
abbrev pub lags : ℤ → ℤ → Bool
lags a b = int_lt (a +ℤ pos 2) (b -ℤ int_div b (pos 16))

-- whether server and client counted otherwise: either lags
abbrev pub drifts : ℤ → ℤ → Bool
drifts server client = lags client server || lags server client

-- whether an epoch may be one of a server that kept its leases since the one before: it didn't fall by more than a
-- second, and server and client counted alike
abbrev pub is_valid_after : HeardEpoch → HeardEpoch → Bool
is_valid_after before now =
    not (nat_lt (now.server + 1) before.server
    || drifts (pos now.server -ℤ pos before.server) (pos now.seconds -ℤ pos before.seconds))

-- the first reply is valid
abbrev pub is_valid : Option HeardEpoch → HeardEpoch → Bool
is_valid None now = true
is_valid (Some before) now = is_valid_after before now

-- A loss is heard: let a client hear an epoch d seconds after it was told, and another one a gap later, which is told
-- after a loss that came not before the first was told. So the second is at most gap + d. Where the first was above
-- 2 + d + gap/16, the second isn't valid.
abbrev pub LossesAreHeard : Type 0
LossesAreHeard =
    (first second at d gap : ℕ) → second ≤ gap + d → 2 + d + gap / 16 < first
    → is_valid_after (heard_epoch first at) (heard_epoch second (at + gap)) ≡ false
