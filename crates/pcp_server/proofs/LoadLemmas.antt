-- A load over a house that was opened.
use Rattle.std.proofs.Common.{◌≡◌, ℕ, List, length, refl, inl, inr}
use Rattle.std.specs.Io.KnownBytes.{append_known}
use Rattle.pcp_io.specs.Writes.{WritesPart}
use Rattle.lease_house.specs.SoloHouses.{HouseView}
use Rattle.load_player.specs.LoadEnds.{EndsLoad}
use Rattle.load_player.specs.declared.player.LoadStatus.{LoadStatus}
use Rattle.load_player.specs.declared.player.LoadStatus.TheVariants.{Done, WriteFault, DiskFault, Memory}
use Rattle.server_commands.specs.declared.commands.LoadPlan.{LoadPlan}
use Rattle.pcp_server.specs.Loaded.{SumsUp, served_course}
use Rattle.pcp_server.specs.Outsides.{DiskMeanings, Outside}

pub sums-up : {W D : Type 0} (text : List ℕ) (before now : Outside W D) (status : LoadStatus) → (status ≡ Done → now.held ≡ append_known before.held text) →
    (status ≡ WriteFault → WritesPart before.held now.held text) → (status ≡ Memory → now.out ≡ before.out) → ((shard : ℕ) → status ≡ DiskFault shard → now.out ≡ before.out) →
    SumsUp text before now status
sums-up text before now Done done part memory disk = done refl
sums-up text before now WriteFault done part memory disk = part refl
sums-up text before now (DiskFault shard) done part memory disk = disk shard refl
sums-up text before now Memory done part memory disk = memory refl

-- as many books, and the same other pairs
pub ends-count : {D : Type 0} (disks : DiskMeanings D) (old new : HouseView D) (plan : LoadPlan) (status : LoadStatus) → EndsLoad (served_course disks old new) plan status →
    length new.books ≡ length old.books
ends-count disks old new plan Done ends = ends.over.count
ends-count disks old new plan WriteFault ends = ends.over.count
ends-count disks old new plan (DiskFault shard) ends = ends.over.count
ends-count disks old new plan Memory (inl ends) = ends.over.count
ends-count disks old new plan Memory (inr ends) = ends.over.count

pub ends-spare : {D : Type 0} (disks : DiskMeanings D) (old new : HouseView D) (plan : LoadPlan) (status : LoadStatus) → EndsLoad (served_course disks old new) plan status →
    new.spare ≡ old.spare
ends-spare disks old new plan Done ends = ends.over.spare
ends-spare disks old new plan WriteFault ends = ends.over.spare
ends-spare disks old new plan (DiskFault shard) ends = ends.over.spare
ends-spare disks old new plan Memory (inl ends) = ends.over.spare
ends-spare disks old new plan Memory (inr ends) = ends.over.spare
