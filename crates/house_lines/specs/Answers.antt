-- A house's faults, as a player of lines is told (our own; for private contracts).
use Rattle.lease_house.specs.declared.faults.HouseFault.{HouseFault}
use Rattle.lease_house.specs.declared.faults.HouseFault.TheVariants.{Disk, Memory}
use Rattle.script_player.specs.declared.answerers.AnswerFault.{AnswerFault}
use Rattle.script_player.specs.declared.answerers.AnswerFault.TheVariants as Told

abbrev pub fault_told : HouseFault → AnswerFault
fault_told (Disk place) = Told.Disk place
fault_told Memory = Told.Memory
