-- What is promised of a server's answers (our own, after RFC 6887), of one external address and of a
-- house: every reply is the lease table's in journal order, no external port has two owners, only the
-- matching nonce renews or deletes, ports rest, and no epoch told is above the age of a lease that was
-- given up early.
use Rattle.std.specs.Prelude.{◌≡◌, ℕ, ◌+◌, ◌<◌, ◌≤◌, List, [], ◌∷◌, ◌++◌, Some}
use Rattle.std.specs.List.{AllByRecursion, slice_get}
use Rattle.pcp_base.specs.declared.configs.Config.{Config}
use Rattle.pcp_base.specs.declared.configs.External.{External}
use Rattle.pcp_base.specs.declared.datagrams.Entry.{Entry}
use Rattle.pcp_base.specs.declared.leases.Owner.{Owner}
use Rattle.pcp_base.specs.declared.leases.TheConstants.{REST_SECONDS}
use Rattle.pcp_base.specs.Owners.{owners}
use Rattle.pcp_base.specs.States.{State}
use Rattle.pcp_base.specs.Tables.{live}
use Rattle.lease_histories.specs.Entries.{Served}
use Rattle.lease_histories.specs.HouseHistories.{HouseEntry, IsSoloHistory, entries_at}
use Rattle.lease_histories.specs.Laws.{AreOpenings, ChangesByNonce, HasNoOther, HasOneOwner, IsWithinAge, OwnsUpTo, Stands}
use Rattle.lease_histories.specs.Legal.{IsLegal, IsOpening, state_after}

-- Of one external address that began in this state and has these entries.
pub record KeepsPromises (x : Served) (opening : State) (entries : List Entry) : Type 0 where
  -- every reply is the lease table's in journal order
  pub replies : IsLegal x opening entries
  -- after every entry the state is one that fitting records made
  pub states : (before more : List Entry) → entries ≡ before ++ more →
      Stands (state_after opening before)
  -- after every entry, at that and every later moment, no external port has two owners
  pub one_owner : (before more : List Entry) → entries ≡ before ++ more →
      HasOneOwner (state_after opening before)
  -- only a request with the nonce of a live lease renews or deletes it
  pub nonces : (before : List Entry) (e : Entry) (more : List Entry) →
      entries ≡ before ++ e ∷ more →
      ChangesByNonce x.config e (state_after opening before).table
      (state_after opening (before ++ e ∷ [])).table
  -- until 120 seconds after the end of a lease its ports are no other endpoint's
  pub rests : (before behind : List Entry) (t : ℕ) (o : Owner) (n : ℕ) →
      entries ≡ before ++ behind → OwnsUpTo opening before behind t o →
      (state_after opening entries).last ≤ n → n < t + REST_SECONDS →
      HasNoOther (owners (live (state_after opening entries).table n)) o
  -- The epoch told is at most the age of each lease that was given up early: from each entry on, of
  -- those granted by the base after it. Each that a record gave up is such (`BasesRise`).
  pub epochs : (before : List Entry) (e : Entry) (more : List Entry) (g : ℕ) →
      entries ≡ before ++ e ∷ more → g ≤ (state_after opening (before ++ e ∷ [])).base →
      AllByRecursion (IsWithinAge g) (e ∷ more)

-- Of a house on one thread: what is promised of each external address, and the base told is the
-- greatest of all so far.
pub record HouseKeepsPromises (config : Config) (openings : List State)
    (history : List HouseEntry) : Type 0 where
  pub solo : IsSoloHistory config openings history
  pub each : (place : ℕ) (x : External) (opening : State) →
      slice_get config.externals place ≡ Some x → slice_get openings place ≡ Some opening →
      KeepsPromises (record { config = config; place = place; external = x }) opening
      (entries_at place history)

-- ---- so it is of each legal history, and of each of a house on one thread

abbrev pub LegalHistoriesKeepPromises : Type 0
LegalHistoriesKeepPromises = (x : Served) (opening : State) (entries : List Entry) →
    IsOpening x opening → IsLegal x opening entries → KeepsPromises x opening entries

abbrev pub HistoriesKeepPromises : Type 0
HistoriesKeepPromises = (config : Config) (openings : List State) (history : List HouseEntry) →
    AreOpenings config openings → IsSoloHistory config openings history →
    HouseKeepsPromises config openings history
