-- What one call does to an ordered map (our own).
use Rattle.std.specs.Prelude.{◌≡◌, List, [], Option, Some, None, if◌then◌else◌}
use Rattle.std.specs.declared.cmp.Ordering.{Ordering}
use Rattle.std.specs.Map.{set_value, remove_entry}
use Rattle.std.specs.BTreeMap.{BTreeMap, IsOrdered, get, is_at, insert_entry}

module _ {K V : Type 0} (cmp : K → K → Ordering) where
  -- no entry
  pub record IsBlankMap (it : BTreeMap K V) : Type 0 where
    pub entries : it.entries ≡ []
    pub ordered : IsOrdered cmp it

  -- the map is in order and has the value under the key
  pub record HasEntry (it : BTreeMap K V) (key : K) (value : V) : Type 0 where
    pub ordered : IsOrdered cmp it
    pub found : get cmp it key ≡ Some value

  -- the value is there under the key
  pub record Enters (before after : BTreeMap K V) (key : K) (value : V) : Type 0 where
    pub entries : after.entries ≡ insert_entry cmp before.entries key value
    pub found : get cmp after key ≡ Some value
    pub ordered : IsOrdered cmp after
    pub was_ordered : IsOrdered cmp before

  -- one entry more, or another value under a key that is there
  pub record Inserts (before after : BTreeMap K V) (key : K) (value : V) : Type 0 where
    pub entries : after.entries ≡ insert_entry cmp before.entries key value
    pub changed : (k : K) → get cmp after k
        ≡ (if is_at (cmp key) k then Some value else get cmp before k)
    pub ordered : IsOrdered cmp after

  -- another value under a key that is there
  pub record Overwrites (before after : BTreeMap K V) (key : K) (value : V) : Type 0 where
    pub entries : after.entries ≡ set_value (is_at (cmp key)) before.entries value
    pub changed : (k : K) → get cmp after k
        ≡ (if is_at (cmp key) k then Some value else get cmp before k)
    pub ordered : IsOrdered cmp after

  -- no entry under the key
  pub record Removes (before after : BTreeMap K V) (key : K) : Type 0 where
    pub entries : after.entries ≡ remove_entry (is_at (cmp key)) before.entries
    pub changed : (k : K) → get cmp after k
        ≡ (if is_at (cmp key) k then None else get cmp before k)
    pub ordered : IsOrdered cmp after

  -- the entries with what the key had before
  abbrev pub restored : K → Option V → List (K × V) → List (K × V)
  restored key None es = remove_entry (is_at (cmp key)) es
  restored key (Some old) es = set_value (is_at (cmp key)) es old

  -- without the entry of a key that is another
  abbrev pub without_other : K → K → List (K × V) → List (K × V)
  without_other from to es =
      if is_at (cmp from) to then es else remove_entry (is_at (cmp from)) es

  -- an entry under one key in place of that under another, which may be the same
  pub record Moves (before after : BTreeMap K V) (from to : K) (value : V) : Type 0 where
    pub entries : after.entries ≡ without_other from to (insert_entry cmp before.entries to value)
    pub ordered : IsOrdered cmp after
