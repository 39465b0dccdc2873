use Rattle.std.proofs.Common.{◌∙◌, refl, sym, inl, inr}
use Rattle.pcp_server.specs.Outsides.{disks_by}
use Rattle.serve_runs.proofs.ServingLemmas.{disk-lost, disk-named, lost-at, no-words, read-fault, told-of}
use Rattle.serve_runs.proofs.serving.serve_config.Goals as goal

pub returns-in-Ok-clause-served : goal.returns-in-Ok-clause-served
returns-in-Ok-clause-served g c = inr (record {
  start = c.start_of-start.result;
  clocks = _;
  clock = c.start_of-start.ensures.start;
  begun = c.in-Ok.begun;
  begins = c.in-Ok.ensures.begun;
  tally = c.serve_house-tally.result.0;
  serves = c.serve_house-tally.ensures.serves _ _ c.in-Ok.ensures.begun;
  promised = c.promises_are_kept.ensures _ _ _ _ _ _ _ _ _ _ c.in-Ok.ensures.begun
      (c.serve_house-tally.ensures.serves _ _ c.in-Ok.ensures.begun).served;
  told = told-of g.D.LeaseDisk.lost c.serve_house-tally.result.0 _ c.serve_house-tally.result.1.items _ _ _ _ _ c.deref.ensures.value c.tell_tally.ensures.told;
})

pub returns-in-Ok-clause-read_fault : goal.returns-in-Ok-clause-read_fault
returns-in-Ok-clause-read_fault g c is =
    let means = disks_by g.D.LeaseDisk.tells g.D.LeaseDisk.seen g.D.LeaseDisk.moment g.D.LeaseDisk.left_since g.D.LeaseDisk.may_leave g.D.LeaseDisk.faults in
    read-fault means g.D.LeaseDisk.lost _ _ _ c.in-Ok.begun _ _ c.serve_house-tally.result.0 c.serve_house-tally.result.1.items _ _ _ _ _
    (c.serve_house-tally.ensures.serves _ _ c.in-Ok.ensures.begun).served
    (told-of g.D.LeaseDisk.lost c.serve_house-tally.result.0 _ c.serve_house-tally.result.1.items _ _ _ _ _ c.deref.ensures.value c.tell_tally.ensures.told) is

pub returns-in-Ok-clause-disk_fault : goal.returns-in-Ok-clause-disk_fault
returns-in-Ok-clause-disk_fault g c shard is =
    let means = disks_by g.D.LeaseDisk.tells g.D.LeaseDisk.seen g.D.LeaseDisk.moment g.D.LeaseDisk.left_since g.D.LeaseDisk.may_leave g.D.LeaseDisk.faults in
    disk-lost means g.D.LeaseDisk.lost _ _ _ _ _ c.in-Ok.begun _ _ c.serve_house-tally.result.0 c.serve_house-tally.result.1.items _ _ _ _ _ shard
    c.faulted_rows_have_causes.ensures c.in-Ok.ensures.begun (c.serve_house-tally.ensures.serves _ _ c.in-Ok.ensures.begun).served
    (told-of g.D.LeaseDisk.lost c.serve_house-tally.result.0 _ c.serve_house-tally.result.1.items _ _ _ _ _ c.deref.ensures.value c.tell_tally.ensures.told) is

pub returns-in-Ok-clause-no_items : goal.returns-in-Ok-clause-no_items
returns-in-Ok-clause-no_items g c shard is =
    inr (lost-at g.D.LeaseDisk.lost c.serve_house-tally.result.0 c.serve_house-tally.result.1.items _ _ _ _ _ shard
    (told-of g.D.LeaseDisk.lost c.serve_house-tally.result.0 _ c.serve_house-tally.result.1.items _ _ _ _ _ c.deref.ensures.value c.tell_tally.ensures.told) is)

pub returns-in-Ok-clause-words : goal.returns-in-Ok-clause-words
returns-in-Ok-clause-words g c = no-words g.D.LeaseDisk.lost c.serve_house-tally.result.0 _ _ _ _ _ _ c.tell_tally.ensures.told

pub returns-in-Err-clause-disk_fault : goal.returns-in-Err-clause-disk_fault
returns-in-Err-clause-disk_fault g c shard is =
    let means = disks_by g.D.LeaseDisk.tells g.D.LeaseDisk.seen g.D.LeaseDisk.moment g.D.LeaseDisk.left_since g.D.LeaseDisk.may_leave g.D.LeaseDisk.faults in
    disk-named means c.args.config.now _ c.in-Err.refused.fault _ _ shard c.in-Err.ensures.refused c.in-Err.ensures.place (sym c.unopened_as.ensures ∙ is)

pub returns-in-Err-clause-no_items : goal.returns-in-Err-clause-no_items
returns-in-Err-clause-no_items g c shard is = inl refl
