-- Sides that are copied beside whoever writes them (our own).
use Rattle.std.specs.Prelude.{ℕ, suc, ◌&&◌, ◌==◌, nat_lt, max, Bool, List, [], ◌∷◌, ◌++◌, bytes_eq, length, take, Option, Some, None, if◌then◌else◌}
use Rattle.watch_readings.specs.declared.copies.Front.{Front}
use Rattle.watch_readings.specs.declared.copies.SideLook.{SideLook}

-- how many octets in front are the same
abbrev pub common : List ℕ → List ℕ → ℕ
common [] ys = 0
common (x ∷ xs) [] = 0
common (x ∷ xs) (y ∷ ys) = if x == y then suc (common xs ys) else 0

-- What two copies have in common, and behind it, where they differ, a closed gate: a frame counts whose
-- gate was seen open in the first copy, with the text that both have.
abbrev pub agreed : List ℕ → List ℕ → List ℕ
agreed first second =
    take (common first second) first
    ++ (if nat_lt (common first second) (max (length first) (length second)) then 0 ∷ [] else [])

-- the same file, and the same octets in front
abbrev pub same_front : Front → Front → Bool
same_front x y = x.device == y.device && (x.inode == y.inode && bytes_eq x.octets y.octets)

-- nothing but what is appended changed in front of a side while it was copied
abbrev pub is_still : SideLook → Bool
is_still look = same_front look.before look.behind

-- what both sides held at a moment while they were copied, if they stayed
abbrev pub sides_of : SideLook → SideLook → Option (List ℕ × List ℕ)
sides_of a b =
    if is_still a && is_still b
    then Some (agreed a.first a.second, agreed b.first b.second)
    else None
