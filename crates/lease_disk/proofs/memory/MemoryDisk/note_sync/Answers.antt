use Rattle.std.proofs.Common.{◌≡◌, ◌∷◌, arith}
use Rattle.std.proofs.lemmas.Grind.{common_steps}
use Rattle.lease_disk.specs.Changes.{steps_of}
use Rattle.lease_disk.specs.Steps.DiskStep.{Synced}
use Rattle.lease_disk.proofs.StepLemmas.{no_more_synced}
use Rattle.lease_disk.proofs.memory.MemoryDisk.note_sync.Goals as goal

pub returns-clause-crash : goal.returns-clause-crash
returns-clause-crash c =
    let is : steps_of c.push.new.self.items ≡ Synced ∷ c.args.self.now.steps = grind (arith, common_steps) in
    λ image left. no_more_synced c.args.self.now.steps (steps_of c.push.new.self.items) image is left
