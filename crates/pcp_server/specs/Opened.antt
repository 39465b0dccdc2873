-- What comes before a command's own work (our own): its configuration is read, and its journals are
-- opened.
use Rattle.std.specs.Prelude.{◌≡◌, ℕ, List, ◌++◌, length, map, drop, Option}
use Rattle.pcp_base.specs.declared.configs.Config.{Config}
use Rattle.pcp_base.specs.Configs.{IsConfig}
use Rattle.pcp_base.specs.States.{State}
use Rattle.lease_disk.specs.declared.disks.DiskPair.{DiskPair}
use Rattle.config_source.specs.ConfigSources.{ReadsConfig, ReadsNoFurther, RefusesConfig, StopsAtFault}
use Rattle.config_source.specs.declared.reading.ConfigFault.{ConfigFault}
use Rattle.config_source.specs.declared.reading.ConfigFault.TheVariants.{Refused, Read, Memory}
use Rattle.lease_house.specs.SoloHouses.{HouseView, IsHouse}
use Rattle.lease_house.specs.SoloOpenings.{HandsBackAll, OpensAll}
use Rattle.lease_house.specs.declared.faults.HouseFault.{HouseFault}
use Rattle.server_commands.specs.declared.statuses.Status.{Status}
use Rattle.pcp_server.specs.Outsides.{DiskMeanings, IsUntouched, Outside}
use Rattle.pcp_server.specs.Statuses.{unopened_as, unread_as}

-- ---- the configuration

-- its source, which had this left and has that, was read to its end, and its text is this one
pub record Accepts (source_before source_now : Option (List ℕ)) (config : Config) : Type 0 where
  pub read : ReadsConfig source_before source_now config
  pub allowed : IsConfig config

-- what was read where there is no configuration
abbrev pub IsUnread : (source_before source_now : Option (List ℕ)) → ConfigFault → Type 0
IsUnread source_before source_now (Refused cause) = RefusesConfig source_before source_now cause
IsUnread source_before source_now Read = StopsAtFault source_before source_now
IsUnread source_before source_now Memory = ReadsNoFurther source_before source_now

-- There is no configuration: it is refused, the source failed, or memory was wanting.
pub record EndsUnread {W D : Type 0} (source_before source_now : Option (List ℕ))
    (before now : Outside W D) (status : Status) : Type 0 where
  pub fault : ConfigFault
  pub told : status ≡ unread_as fault
  pub source : IsUnread source_before source_now fault
  pub untouched : IsUntouched before now

-- ---- the journals

-- The journals of all external addresses were opened at `start`, each over the pair with its index.
pub record Opens {D : Type 0} (disks : DiskMeanings D) (config : Config) (start : ℕ)
    (pairs : List (DiskPair D)) (house : HouseView D) : Type 0 where
  pub config_is : house.config ≡ config
  pub books : OpensAll disks.tells disks.seen disks.moment disks.left_since disks.may_leave
      disks.faults config start config.externals pairs house.books house.spare
  pub stands : IsHouse disks.tells disks.seen disks.may_leave house

-- the states that were found, or made, by the index of the external address
abbrev pub openings : {D : Type 0} → HouseView D → List State
openings house = map (λ b. b.state) house.books

-- all pairs of a house, in order
abbrev pub pairs_of : {D : Type 0} → HouseView D → List (DiskPair D)
pairs_of house = map (λ b. b.journal.pair) house.books ++ house.spare

-- the pairs past those of the external addresses had no call
abbrev pub AreUnused : {D : Type 0} → Config → (before now : List (DiskPair D)) → Type 0
AreUnused config before now =
    drop (length config.externals) now ≡ drop (length config.externals) before

-- A journal wasn't opened: nothing is written, and all pairs come back in order.
pub record EndsUnopened {W D : Type 0} (disks : DiskMeanings D) (config : Config) (start : ℕ)
    (before now : Outside W D) (status : Status) : Type 0 where
  pub fault : HouseFault
  pub told : status ≡ unopened_as fault
  pub out : now.out ≡ before.out
  pub pairs : HandsBackAll disks.tells disks.seen disks.moment disks.left_since disks.may_leave
      disks.faults start 0 fault config.externals before.pairs now.pairs
