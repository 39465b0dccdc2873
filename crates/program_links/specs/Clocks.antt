-- What people are told of the system's time (our own).
use Rattle.std.specs.Prelude.{ℕ, ◌+◌, ◌-◌, ◌&&◌, nat_lt, if◌then◌else◌, Option, Some, None}
use Rattle.program_links.specs.declared.clocks.Gap.{Gap}
use Rattle.program_links.specs.declared.clocks.Gap.TheVariants.{Behind, Ahead}

-- It is behind the last moment of the journals by more than a day, or ahead of it by more than ten years,
-- where they have one; in seconds.
abbrev pub gap_of : ℕ → ℕ → Option Gap
gap_of system last =
    if nat_lt (system + 86400) last then Some (Behind (last - system))
    else (if nat_lt 0 last && nat_lt (last + 315360000) system then Some (Ahead (system - last)) else None)
