-- What values of a TOML table tell (our own).
use Rattle.std.specs.Prelude.{◌≡◌, ℕ, ◌≤◌, ◌⊎◌, Bool, true, ◌&&◌, List, [], ◌∷◌, Some, None, pos}
use Rattle.std.specs.List.{AllZip, list_any}
use Rattle.std.specs.Str.{bytes_eq}
use Rattle.toml.specs.Data.{Data, string, integer, array, table, Items, no_items, item, Members, no_members, member, get_member}

-- the key is one of these
abbrev pub is_one_of : List (List ℕ) → List ℕ → Bool
is_one_of keys key = list_any (λ k. bytes_eq k key) keys

-- each key of the table is one of these
abbrev pub has_only : List (List ℕ) → Members → Bool
has_only keys no_members = true
has_only keys (member key d rest) = is_one_of keys key && has_only keys rest

-- the table has the key, and its value tells x
abbrev pub TellsAt : {A : Type 0} → Members → List ℕ → (Data → A → Type 0) → A → Type 0
TellsAt members key Tells x = (d : Data) × (get_member key members ≡ Some d) × Tells d x

-- the same, or the table doesn't have the key, and x is the default
abbrev pub TellsOr : {A : Type 0} → Members → List ℕ → A → (Data → A → Type 0) → A → Type 0
TellsOr members key default Tells x =
    ((get_member key members ≡ None) × (x ≡ default)) ⊎ TellsAt members key Tells x

-- a whole number from low to high
abbrev pub IsNumberIn : ℕ → ℕ → Data → ℕ → Type 0
IsNumberIn low high d n = (d ≡ integer (pos n)) × (low ≤ n) × (n ≤ high)

-- a string that writes x
abbrev pub IsTextOf : {A : Type 0} → (List ℕ → A → Type 0) → Data → A → Type 0
IsTextOf Writes d x = (text : List ℕ) × (d ≡ string text) × Writes text x

-- a table that tells x
abbrev pub IsTableOf : {A : Type 0} → (Members → A → Type 0) → Data → A → Type 0
IsTableOf Tells d x = (members : Members) × (d ≡ table members) × Tells members x

-- the items of an array as a list
abbrev pub list_of : Items → List Data
list_of no_items = []
list_of (item d rest) = d ∷ list_of rest

-- an array whose items tell xs, one by one
abbrev pub IsListOf : {A : Type 0} → (Data → A → Type 0) → Data → List A → Type 0
IsListOf Tells d xs = (items : Items) × (d ≡ array items) × AllZip Tells (list_of items) xs
