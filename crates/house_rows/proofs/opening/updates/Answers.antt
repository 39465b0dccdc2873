use Rattle.house_rows.proofs.opening.updates.Goals as goal

pub updates-updates-requires : goal.updates-updates-requires
updates-updates-requires g c = record {
  settled = (c.opened_houses_begin.ensures c.args.config.now _ c.args.disks.items c.in-Ok.house c.in-Ok.ensures.config c.in-Ok.ensures.house c.in-Ok.ensures.opened).settled;
}
