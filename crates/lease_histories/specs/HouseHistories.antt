-- The history of a house (our own): of all its external addresses.
use Rattle.std.specs.Prelude.{◌≡◌, ℕ, ◌<◌, ◌==◌, max, List, [], ◌∷◌, ◌++◌, length, map, filter, filter_map, fold, Contains, Option, Some, None, if◌then◌else◌}
use Rattle.std.specs.List.{AllByRecursion, slice_get}
use Rattle.pcp_base.specs.declared.configs.Config.{Config}
use Rattle.pcp_base.specs.declared.configs.External.{External}
use Rattle.pcp_base.specs.declared.datagrams.Entry.{Entry}
use Rattle.pcp_base.specs.States.{State}
use Rattle.lease_histories.specs.Entries.{begins_anew, entry_kind}
use Rattle.lease_histories.specs.Legal.{IsLegal}

-- an entry, and the index of its external address
pub record HouseEntry : Type 0 where
  pub place : ℕ
  pub entry : Entry

-- the entries of one external address
abbrev pub entries_at : ℕ → List HouseEntry → List Entry
entries_at place history = map (λ h. h.entry) (filter (λ h. h.place == place) history)

-- the moment of an entry by which a table began anew
abbrev pub begun_at : Entry → Option ℕ
begun_at e = if begins_anew (entry_kind e) then Some e.moment else None

-- the bases that may be told: those of the opening states, and the moments at which the table of
-- some external address began anew
abbrev pub bases_of : List State → List HouseEntry → List ℕ
bases_of openings history =
    map (λ s. s.base) openings ++ filter_map (λ h. begun_at h.entry) history

abbrev pub greatest : List ℕ → ℕ
greatest moments = fold max 0 moments

-- one legal list of entries for each external address, each by its opening state
pub record IsHouseHistory (config : Config) (openings : List State) (history : List HouseEntry)
    : Type 0 where
  pub places : AllByRecursion (λ h. h.place < length config.externals) history
  pub legal : (place : ℕ) (external : External) (opening : State) →
      slice_get config.externals place ≡ Some external → slice_get openings place ≡ Some opening →
      IsLegal (record { config = config; place = place; external = external }) opening
      (entries_at place history)
  pub bases : AllByRecursion (λ h. Contains (bases_of openings history) h.entry.base) history

-- On one thread the entries of all external addresses have one order, and the base told is the
-- greatest so far.
pub record IsSoloHistory (config : Config) (openings : List State) (history : List HouseEntry)
    : Type 0 where
  pub house : IsHouseHistory config openings history
  pub greatest_told : (before : List HouseEntry) (h : HouseEntry) (more : List HouseEntry) →
      history ≡ before ++ h ∷ more →
      h.entry.base ≡ greatest (bases_of openings (before ++ h ∷ []))
