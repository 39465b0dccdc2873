-- When a client's next tick does something (our own). Times are in milliseconds.
use Rattle.std.specs.Prelude.{ℕ, ◌≡◌, ◌||◌, nat_le, Bool, false, List, [], ◌∷◌, is_some, Option, Some, None, option_map}
use Rattle.std.specs.List.{list_any}
use Rattle.client_core.specs.Clients.{ClientView, counted, is_over_in, least, request_due}
use Rattle.client_core.specs.Wants.{WantView, by_end}

-- when a want is asked for or loses its lease, whichever comes first: also in an error's time a lease ends
abbrev pub next_in : Option WantView → Option ℕ
next_in want = option_map (λ w. by_end w.lease w.time) want

abbrev pub least_next : List (Option WantView) → Option ℕ
least_next [] = None
least_next (want ∷ wants) = least (next_in want) (least_next wants)

abbrev pub next_due : ClientView → Option ℕ
next_due c = least_next c.wants

abbrev pub is_reached : Option ℕ → ℕ → Bool
is_reached None at = false
is_reached (Some time) at = nat_le time at

-- whether a tick now does something: it gives a request, or drops a lease
abbrev pub does_something : ClientView → ℕ → Bool
does_something c now = is_some (request_due c now) || list_any (is_over_in (counted c now)) c.wants

-- It does so exactly from that time on.
abbrev pub TicksFrom : Option ℕ → ClientView → Type 0
TicksFrom time c = (now : ℕ) → does_something c now ≡ is_reached time (counted c now)
