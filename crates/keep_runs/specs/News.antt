-- Which of what comes is told (our own): a mapping whose address, port or size is another than the one told last, or that is
-- the first behind a loss, a refusal or an invalid epoch; a refusal whose code isn't that of the line before; a lease that
-- is lost; an invalid epoch.
use Rattle.std.specs.Prelude.{ℕ, ◌==◌, ◌&&◌, not, bytes_eq, Bool, true, false, List, [], ◌∷◌, ◌++◌, is_some, is_none, Option, Some, None, codes, if◌then◌else◌}
use Rattle.pcp_base.specs.Codes.{code_number}
use Rattle.client_core.specs.declared.events.HeldLease.{HeldLease}
use Rattle.client_core.specs.declared.meanings.EpochFound.{EpochFound}
use Rattle.client_core.specs.declared.meanings.EpochFound.TheVariants.{Unread, Valid, Invalid}
use Rattle.client_core.specs.declared.meanings.What.{What}
use Rattle.client_core.specs.declared.meanings.What.TheVariants as Whats
use Rattle.keep_runs.specs.declared.news.Told.{Told}

-- nothing was told
abbrev pub nothing_told : Told
nothing_told = record { lease = None; code = None }

-- the end of a lease isn't told again
abbrev pub is_same : HeldLease → HeldLease → Bool
is_same a b = bytes_eq a.address.0 b.address.0 && a.external == b.external && a.count == b.count

abbrev pub is_new : Option HeldLease → Option HeldLease → Bool
is_new told None = false
is_new None (Some lease) = true
is_new (Some told) (Some lease) = not (is_same told lease)

abbrev pub is_other : Option ℕ → ℕ → Bool
is_other None code = true
is_other (Some told) code = not (told == code)

-- whether what was said is told, of a client that holds this lease then
abbrev pub is_news : Told → Option HeldLease → What → Bool
is_news told lease Whats.NotMine = false
is_news told lease Whats.Told = false
is_news told lease (Whats.Taken id) = is_new told.lease lease
is_news told lease (Whats.ErrorFor id code seconds) = is_other told.code (code_number code)

-- and what was told last then: behind a refusal nobody knows that a lease goes on
abbrev pub told_after : Told → Option HeldLease → What → Told
told_after told lease Whats.NotMine = told
told_after told lease Whats.Told = told
told_after told lease (Whats.Taken id) =
    if is_new told.lease lease then record { lease = lease; code = None } else told
told_after told lease (Whats.ErrorFor id code seconds) =
    record { lease = None; code = Some (code_number code) }

-- an invalid epoch is told always
abbrev pub epoch_line : EpochFound → List ℕ
epoch_line Unread = []
epoch_line Valid = []
epoch_line Invalid = codes "invalid" ++ 10 ∷ []

-- nobody knows what a server that lost its leases has given since
abbrev pub told_with_epoch : EpochFound → Told → Told
told_with_epoch Unread told = told
told_with_epoch Valid told = told
told_with_epoch Invalid told = nothing_told

-- a lease that a tick drops
abbrev pub is_lost : (before now : Option HeldLease) → Bool
is_lost before now = is_some before && is_none now

abbrev pub loss_line : Bool → List ℕ
loss_line lost = if lost then codes "lost" ++ 10 ∷ [] else []

abbrev pub told_with_loss : Bool → Told → Told
told_with_loss lost told = if lost then nothing_told else told
