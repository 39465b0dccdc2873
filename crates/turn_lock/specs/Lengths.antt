-- The longer and the shorter of two lists (our own).
use Rattle.std.specs.Prelude.{List, length, nat_lt, if◌then◌else◌}

-- the longer of two lists; the first where they are as long
abbrev pub longer : {A : Type 0} → List A → List A → List A
longer xs ys = if nat_lt (length xs) (length ys) then ys else xs

abbrev pub shorter : {A : Type 0} → List A → List A → List A
shorter xs ys = if nat_lt (length xs) (length ys) then xs else ys
