-- What several ears counted (our own).
use Rattle.std.specs.Prelude.{ℕ, List}
use Rattle.std.specs.List.{sum_by}
use Rattle.program_links.specs.declared.inboxes.Ear.{Ear}

-- the faults of all of them
abbrev pub all_faults : List Ear → ℕ
all_faults ears = sum_by (λ e. e.inbox.faults) ears
