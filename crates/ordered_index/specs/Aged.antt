-- Leases of which some have left what they are looked up by (our own).
use Rattle.std.specs.Prelude.{◌≡◌, ℕ, ◌+◌, ◌<◌, ◌⊎◌, Bool, false, List, [], ◌∷◌, Contains, count_by, filter, Option, Some, None, IsSome, if◌then◌else◌}
use Rattle.std.specs.List.{AllByRecursion}
use Rattle.std.specs.List.Sorted.{IsStrictlySortedBy}
use Rattle.std.specs.Map.{values_of}
use Rattle.std.specs.Ordering.{nat_cmp}
use Rattle.std.specs.BTreeMap.{BTreeMap, IsOrdered, get, insert_entry, values}

pub record Aged (L : Type 0) : Type 0 where
  -- those that are looked up, in the order granted
  pub found : List L
  -- those that have left, in the order granted
  pub past : List L
  -- all of them
  pub all : List L

-- no lease
abbrev pub no_leases : {L : Type 0} → Aged L
no_leases = record { found = []; past = []; all = [] }

-- all are those that are found and those that have left, and as many of them pass a test as of both;
-- where none of those that have left passes, those that pass are those that are found and pass, in
-- the same order
pub record AreTogether {L : Type 0} (t : Aged L) : Type 0 where
  pub of_all : (l : L) → Contains t.all l → Contains t.found l ⊎ Contains t.past l
  pub of_found : (l : L) → Contains t.found l → Contains t.all l
  pub of_past : (l : L) → Contains t.past l → Contains t.all l
  pub same : (test : L → Bool) → AllByRecursion (λ l. test l ≡ false) t.past
      → filter test t.all ≡ filter test t.found
  pub counted : (test : L → Bool) → count_by test t.all
      ≡ count_by test t.found + count_by test t.past

-- entries with others among them, in the order of their numbers
abbrev pub entries_with : {L : Type 0} → List (ℕ × L) → List (ℕ × L) → List (ℕ × L)
entries_with [] es = es
entries_with (e ∷ past) es = insert_entry nat_cmp (entries_with past es) e.0 e.1

-- what leases by their numbers are seen as, beside those that have left
abbrev pub aged : {L : Type 0} → BTreeMap ℕ L → BTreeMap ℕ L → Aged L
aged leases past = record {
  found = values leases;
  past = values past;
  all = values_of (entries_with past.entries leases.entries);
}

-- numbers in order that leases don't have, and that are below the next one
pub record AreApart {L : Type 0} (leases : BTreeMap ℕ L) (next : ℕ) (past : BTreeMap ℕ L)
    : Type 0 where
  pub ordered : IsOrdered nat_cmp past
  pub apart : (n : ℕ) → IsSome (get nat_cmp past n) → get nat_cmp leases n ≡ None
  pub below : (n : ℕ) → IsSome (get nat_cmp past n) → n < next

-- the numbers of both, in order
pub record AreNumbersOf {X Y : Type 0} (leases : BTreeMap ℕ X) (past : BTreeMap ℕ Y)
    (numbers : List ℕ) : Type 0 where
  pub sorted : IsStrictlySortedBy nat_cmp numbers
  pub either : (n : ℕ) → Contains numbers n
      → IsSome (get nat_cmp leases n) ⊎ IsSome (get nat_cmp past n)
  pub of_leases : (n : ℕ) → IsSome (get nat_cmp leases n) → Contains numbers n
  pub of_past : (n : ℕ) → IsSome (get nat_cmp past n) → Contains numbers n

-- leases by their numbers, and those that have left, in order and apart
pub record AreBoth {X Y : Type 0} (leases : BTreeMap ℕ X) (past : BTreeMap ℕ Y) : Type 0 where
  pub ordered : IsOrdered nat_cmp leases
  pub past_ordered : IsOrdered nat_cmp past
  pub apart : (n : ℕ) → IsSome (get nat_cmp past n) → get nat_cmp leases n ≡ None

-- the first of two, or else the second
abbrev pub either : {L : Type 0} → Option L → Option L → Option L
either None b = b
either (Some a) b = Some a

-- what there is, if it passes the test
abbrev pub passing : {L : Type 0} → (L → Bool) → Option L → Option L
passing test None = None
passing test (Some l) = if test l then Some l else None
