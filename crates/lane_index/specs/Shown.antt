-- The rule of the copy that is shown (our own).
use Rattle.std.specs.Prelude.{◌≡◌, ℕ, ⊤, List, Option, Some, None}
use mathlib.Core.Option.{some}
use mathlib.Core.List.{IsPrefix}
use lib.ListN.{get_elem?}
use Rattle.logbook.specs.Pages.{Book}
use Rattle.lane_index.specs.declared.history.Reached.{Reached}
use Rattle.lane_index.specs.declared.replicas.Replica.{Replica}
use Rattle.lane_index.specs.Replicas.{IsReplica}

-- the history of the copy has come this far
pub record HasReached (copy : Replica) (r : Reached) : Type 0 where
  pub book_is : r.seen.book ≡ copy.seen.book
  pub log : IsPrefix r.seen.log copy.seen.log

-- nobody knows more than the copy has; before it was told a reader knows nothing
abbrev pub Covers : Replica → Option Reached → Type 0
Covers copy None = ⊤
Covers copy (Some r) = HasReached copy r

-- The shown value is a copy of an index, and every view is a beginning of its history.
pub record IsShown (copy : Replica) (known : List (Option Reached)) : Type 0 where
  pub copy_is : IsReplica copy.seen.book copy
  pub views : (j : ℕ) (v : Option Reached) → get_elem? known j ≡ some v → Covers copy v

abbrev pub reached_by : Replica → Reached
reached_by copy = record { seen = copy.seen }

-- who enters finds a copy with all that it knew, and then knows what this copy has
abbrev pub Finds : Option Reached → Replica → Replica → Option Reached → Type 0
Finds v copy same w = IsReplica copy.seen.book copy × Covers copy v × (w ≡ Some (reached_by copy))

-- who publishes knows what the copy has
abbrev pub Shows : Option Reached → Replica → Replica → Option Reached → Type 0
Shows v old new w = IsReplica new.seen.book new × (w ≡ Some (reached_by new))

-- the view names the history of this book
abbrev pub NamesIndex : Book → Option Reached → Type 0
NamesIndex book v = (r : Reached) × (v ≡ Some r) × (r.seen.book ≡ book)

-- a copy that may be shown after this one
pub record MayBeShown (old new : Replica) : Type 0 where
  pub copy_is : IsReplica new.seen.book new
  pub more : HasReached new (reached_by old)
