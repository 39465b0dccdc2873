use Rattle.std.proofs.Common.{◌∙◌, sym, subst, inr}
use Rattle.house_lines.specs.Rests.{IsAtRest}
use Rattle.house_lines.specs.LoadEffects.{load_effects}
use Rattle.lease_house.specs.SoloHouses.{plain_house}
use Rattle.load_player.specs.LoadEnds.{EndsLoad}
use Rattle.load_player.specs.LoadRuns.{load_text}
use Rattle.pcp_server.specs.Loaded.{SumsUp, served_course}
use Rattle.pcp_server.specs.Opened.{AreUnused, Opens, pairs_of}
use Rattle.pcp_server.specs.Outsides.{HaveNotFallen, Outside, disks_by}
use Rattle.pcp_server.proofs.CountLemmas.{house-fault, house-later}
use Rattle.pcp_server.proofs.LoadLemmas.{ends-count, ends-spare, sums-up}
use Rattle.pcp_server.proofs.LoadPromises.{requests-keep}
use Rattle.pcp_server.proofs.OpeningLemmas.{begun, hands-later, hands-named, later, settled, unused}
use Rattle.pcp_server.proofs.PairLemmas.{fault-over, none_fell-over}
use Rattle.pcp_server.proofs.StatusLemmas.{loaded-disk, loaded-read, loaded-words, loaded-write, unopened-disk}
use Rattle.pcp_server.proofs.loading.load_served.Goals as goal

pub returns-in-Err-clause-disk_fault : goal.returns-in-Err-clause-disk_fault
returns-in-Err-clause-disk_fault g c shard is =
    hands-named (disks_by g.D.LeaseDisk.tells g.D.LeaseDisk.seen g.D.LeaseDisk.moment g.D.LeaseDisk.left_since g.D.LeaseDisk.may_leave g.D.LeaseDisk.faults)
    c.args.plan.start c.in-Err.refused.fault c.args.config.now.externals c.args.disks.items c.in-Err.refused.disks.items shard
    c.in-Err.ensures.refused c.in-Err.ensures.place (unopened-disk c.in-Err.refused.fault shard (sym c.unopened_as.ensures ∙ is))

pub returns-in-Err-clause-disks : goal.returns-in-Err-clause-disks
returns-in-Err-clause-disks g c =
    hands-later (disks_by g.D.LeaseDisk.tells g.D.LeaseDisk.seen g.D.LeaseDisk.moment g.D.LeaseDisk.left_since g.D.LeaseDisk.may_leave g.D.LeaseDisk.faults)
    c.args.plan.start 0 c.in-Err.refused.fault c.args.config.now.externals c.args.disks.items c.in-Err.refused.disks.items c.in-Err.ensures.refused

pub play_load-status-requires : goal.play_load-status-requires
play_load-status-requires g c =
    let means = disks_by g.D.LeaseDisk.tells g.D.LeaseDisk.seen g.D.LeaseDisk.moment g.D.LeaseDisk.left_since g.D.LeaseDisk.may_leave g.D.LeaseDisk.faults in
    let o : Opens means c.args.config.now c.args.plan.start c.args.disks.items c.in-Ok.house =
    record { config_is = c.in-Ok.ensures.config; books = c.in-Ok.ensures.opened; stands = c.in-Ok.ensures.house } in
    let r : IsAtRest g.D.LeaseDisk.tells g.D.LeaseDisk.seen g.D.LeaseDisk.may_leave c.in-Ok.house =
    record { is = c.in-Ok.ensures.house; settled = settled means c.args.config.now c.args.plan.start c.args.disks.items c.in-Ok.house o } in
    record { rests = subst (IsAtRest g.D.LeaseDisk.tells g.D.LeaseDisk.seen g.D.LeaseDisk.may_leave) (sym c.of-lines.ensures) r }

pub returns-clause-served : goal.returns-clause-served
returns-clause-served g c =
    let means = disks_by g.D.LeaseDisk.tells g.D.LeaseDisk.seen g.D.LeaseDisk.moment g.D.LeaseDisk.left_since g.D.LeaseDisk.may_leave g.D.LeaseDisk.faults in
    let o : Opens means c.args.config.now c.args.plan.start c.args.disks.items c.in-Ok.house =
    record { config_is = c.in-Ok.ensures.config; books = c.in-Ok.ensures.opened; stands = c.in-Ok.ensures.house } in
    let house = c.in-Ok.house in
    let ended = c.play_load-status.new.answerer in
    let status = c.play_load-status.result in
    let ends : EndsLoad (served_course means house ended) c.args.plan status =
    subst (λ h. EndsLoad (served_course means h ended) c.args.plan status) c.of-lines.ensures c.play_load-status.ensures.served in
    let count = ends-count means house ended c.args.plan status ends in
    let spare = ends-spare means house ended c.args.plan status ends in
    let before : Outside g.row.W.Denot g.row.D.Denot = record { out = c.args.out.now; held = g.W.Sink.held c.args.out.now; pairs = c.args.disks.items } in
    let now : Outside g.row.W.Denot g.row.D.Denot = record { out = c.play_load-status.new.out; held = g.W.Sink.held c.play_load-status.new.out; pairs = c.end.result.items } in
    inr (record {
      house = house;
      opened = o;
      begun = begun means c.args.config.now c.args.plan.start c.args.disks.items house o;
      ended = ended;
      load_status = status;
      told = c.loaded_as.ensures;
      summary = subst (λ h. SumsUp (load_text load_effects (plain_house h) c.args.plan) before now status) c.of-lines.ensures
          (sums-up (load_text load_effects (plain_house c.of-lines.result) c.args.plan) before now status
          c.play_load-status.ensures.done c.play_load-status.ensures.part c.play_load-status.ensures.memory c.play_load-status.ensures.disk);
      requests = ends;
      promises = requests-keep c.histories_keep_promises.ensures c.calls_make_histories.ensures c.lines_make_histories.ensures.states
          means c.args.config.now c.args.plan.start c.args.disks.items house c.requires.config o c.args.plan;
      pairs = c.end.ensures;
      unused = subst (λ ps. AreUnused c.args.config.now c.args.disks.items ps) (sym c.end.ensures)
          (unused means c.args.config.now c.args.plan.start c.args.disks.items house ended o count spare);
    })

pub returns-clause-write_fault : goal.returns-clause-write_fault
returns-clause-write_fault g c is = c.play_load-status.ensures.write_fault (loaded-write c.play_load-status.result (sym c.loaded_as.ensures ∙ is))

pub returns-clause-disk_fault : goal.returns-clause-disk_fault
returns-clause-disk_fault g c shard is =
    let means = disks_by g.D.LeaseDisk.tells g.D.LeaseDisk.seen g.D.LeaseDisk.moment g.D.LeaseDisk.left_since g.D.LeaseDisk.may_leave g.D.LeaseDisk.faults in
    let o : Opens means c.args.config.now c.args.plan.start c.args.disks.items c.in-Ok.house =
    record { config_is = c.in-Ok.ensures.config; books = c.in-Ok.ensures.opened; stands = c.in-Ok.ensures.house } in
    let old = c.of-lines.result in
    let ended = c.play_load-status.new.answerer in
    let count = ends-count means old ended c.args.plan c.play_load-status.result c.play_load-status.ensures.served in
    let risen = c.play_load-status.ensures.disk_fault shard (loaded-disk c.play_load-status.result shard (sym c.loaded_as.ensures ∙ is)) in
    let fault = house-fault g.D.LeaseDisk.faults old ended shard count risen in
    fault-over g.D.LeaseDisk.faults c.args.disks.items (pairs_of old) c.end.result.items shard
    (subst (λ h. HaveNotFallen g.D.LeaseDisk.faults c.args.disks.items (pairs_of h)) (sym c.of-lines.ensures) (later means c.args.config.now c.args.plan.start c.args.disks.items c.in-Ok.house o))
    (rw c.end.ensures fault)

pub returns-clause-disks : goal.returns-clause-disks
returns-clause-disks g c =
    let means = disks_by g.D.LeaseDisk.tells g.D.LeaseDisk.seen g.D.LeaseDisk.moment g.D.LeaseDisk.left_since g.D.LeaseDisk.may_leave g.D.LeaseDisk.faults in
    let o : Opens means c.args.config.now c.args.plan.start c.args.disks.items c.in-Ok.house =
    record { config_is = c.in-Ok.ensures.config; books = c.in-Ok.ensures.opened; stands = c.in-Ok.ensures.house } in
    let old = c.of-lines.result in
    let ended = c.play_load-status.new.answerer in
    let count = ends-count means old ended c.args.plan c.play_load-status.result c.play_load-status.ensures.served in
    let spare = ends-spare means old ended c.args.plan c.play_load-status.result c.play_load-status.ensures.served in
    none_fell-over g.D.LeaseDisk.faults c.args.disks.items (pairs_of old) c.end.result.items
    (subst (λ h. HaveNotFallen g.D.LeaseDisk.faults c.args.disks.items (pairs_of h)) (sym c.of-lines.ensures) (later means c.args.config.now c.args.plan.start c.args.disks.items c.in-Ok.house o))
    (rw c.end.ensures (house-later g.D.LeaseDisk.faults old ended count spare c.play_load-status.ensures.disks))

pub returns-clause-no_read : goal.returns-clause-no_read
returns-clause-no_read g c is = loaded-read c.play_load-status.result (sym c.loaded_as.ensures ∙ is)

pub returns-clause-words : goal.returns-clause-words
returns-clause-words g c is = loaded-words c.play_load-status.result (sym c.loaded_as.ensures ∙ is)
