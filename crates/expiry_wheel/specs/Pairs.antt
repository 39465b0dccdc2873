-- Lists of pairs as finite maps (our own; for proofs alone).
use Rattle.std.specs.Prelude.{ℕ, List, map, ◌≡◌, [], ◌∷◌, Option, None, Some, ◌==◌, if◌then◌else◌, ⊤}
use Rattle.std.specs.Ordering.{nat_cmp}
use Rattle.std.specs.FinMap.{FinMap, from_entries}
use Rattle.expiry_wheel.specs.declared.pair.Pair.{Pair}

-- the expiry of each id; of an id that stands twice, the first
abbrev pub expiries_of : List Pair → FinMap nat_cmp ℕ
expiries_of pairs = from_entries (map (λ p. (p.id, p.expiry)) pairs)

-- the expiry of the first pair with the id
abbrev pub expiry_in : List Pair → ℕ → Option ℕ
expiry_in [] id = None
expiry_in (p ∷ pairs) id = (if id == p.id then Some p.expiry else expiry_in pairs id)

-- the id of each pair isn't found in the rest
abbrev pub IdsDiffer : List Pair → Type 0
IdsDiffer [] = ⊤
IdsDiffer (p ∷ pairs) = (expiry_in pairs p.id ≡ None) × IdsDiffer pairs
