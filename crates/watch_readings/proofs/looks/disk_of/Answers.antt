use Rattle.std.proofs.Common.{◌∷◌, ap, ◌∙◌}
use Rattle.lease_disk.specs.DiskInMemory.{DiskInMemory}
use Rattle.lease_disk.specs.Steps.DiskStep.{Wrote}
use Rattle.watch_readings.proofs.DiskLemmas.{written_alone}
use Rattle.watch_readings.proofs.looks.disk_of.Goals as goal

pub returns-in-Ok : goal.returns-in-Ok
returns-in-Ok c =
    let octets = c.args.octets.now in
    written_alone octets _
    (ap (λ (d : DiskInMemory). d.steps) c.in-Ok.ensures.wrote ∙ ap (λ (d : DiskInMemory). Wrote 0 octets ∷ d.steps) c.in_ok-disk.ensures)
