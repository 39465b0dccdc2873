use Rattle.std.proofs.Common.{rules, ◌≡◌, ◌∙◌, length, Err, refl, sym, ap, subst, inl, inr}
use Rattle.std.specs.Io.KnownBytes.{append_known}
use Rattle.house_lines.specs.Rests.{IsAtRest}
use Rattle.script_player.specs.Played.{HasRun}
use Rattle.pcp_server.specs.Opened.{AreUnused, Opens, pairs_of}
use Rattle.pcp_server.specs.Outsides.{HaveNotFallen, disks_by}
use Rattle.pcp_server.specs.Played.{house_course, streams_found, updates_text}
use Rattle.pcp_server.proofs.CountLemmas.{house-fault, house-later}
use Rattle.pcp_server.proofs.OpeningLemmas.{hands-later, hands-named, later, settled, unused}
use Rattle.pcp_server.proofs.PairLemmas.{fault-over, none_fell-over}
use Rattle.pcp_server.proofs.PlayLemmas.{ends-over}
use Rattle.pcp_server.proofs.StatusLemmas.{played-disk, unopened-disk}
use Rattle.pcp_server.proofs.playing.play_served.Goals as goal

pub returns-in-Err-clause-disk_fault : goal.returns-in-Err-clause-disk_fault
returns-in-Err-clause-disk_fault g c shard is =
    hands-named (disks_by g.D.LeaseDisk.tells g.D.LeaseDisk.seen g.D.LeaseDisk.moment g.D.LeaseDisk.left_since g.D.LeaseDisk.may_leave g.D.LeaseDisk.faults)
    c.args.start c.in-Err.refused.fault c.args.config.now.externals c.args.disks.items c.in-Err.refused.disks.items shard
    c.in-Err.ensures.refused c.in-Err.ensures.place (unopened-disk c.in-Err.refused.fault shard (sym c.unopened_as.ensures ∙ is))

pub returns-in-Err-clause-disks : goal.returns-in-Err-clause-disks
returns-in-Err-clause-disks g c =
    hands-later (disks_by g.D.LeaseDisk.tells g.D.LeaseDisk.seen g.D.LeaseDisk.moment g.D.LeaseDisk.left_since g.D.LeaseDisk.may_leave g.D.LeaseDisk.faults)
    c.args.start 0 c.in-Err.refused.fault c.args.config.now.externals c.args.disks.items c.in-Err.refused.disks.items c.in-Err.ensures.refused

pub tell_updates-requires : goal.tell_updates-requires
tell_updates-requires g c =
    let means = disks_by g.D.LeaseDisk.tells g.D.LeaseDisk.seen g.D.LeaseDisk.moment g.D.LeaseDisk.left_since g.D.LeaseDisk.may_leave g.D.LeaseDisk.faults in
    let o : Opens means c.args.config.now c.args.start c.args.disks.items c.in-Ok.house =
    record { config_is = c.in-Ok.ensures.config; books = c.in-Ok.ensures.opened; stands = c.in-Ok.ensures.house } in
    record { settled = settled means c.args.config.now c.args.start c.args.disks.items c.in-Ok.house o }

pub returns-in-Err-tell_updates-clause-served : goal.returns-in-Err-tell_updates-clause-served
returns-in-Err-tell_updates-clause-served g c =
    let means = disks_by g.D.LeaseDisk.tells g.D.LeaseDisk.seen g.D.LeaseDisk.moment g.D.LeaseDisk.left_since g.D.LeaseDisk.may_leave g.D.LeaseDisk.faults in
    let o : Opens means c.args.config.now c.args.start c.args.disks.items c.in-Ok.house =
    record { config_is = c.in-Ok.ensures.config; books = c.in-Ok.ensures.opened; stands = c.in-Ok.ensures.house } in
    inl (
      inr (record {
        house = c.in-Ok.house;
        opened = o;
        updates = c.in-Err-tell_updates.ensures.err;
        pairs = c.end.ensures;
        unused = subst (λ ps. AreUnused c.args.config.now c.args.disks.items ps) (sym c.end.ensures)
            (unused means c.args.config.now c.args.start c.args.disks.items c.in-Ok.house c.in-Ok.house o refl refl);
      }),
      refl,
    )

pub returns-in-Err-tell_updates-clause-write_fault : goal.returns-in-Err-tell_updates-clause-write_fault
returns-in-Err-tell_updates-clause-write_fault g c is = c.in-Err-tell_updates.ensures.cause (ap Err is)

pub returns-in-Err-tell_updates-clause-disks : goal.returns-in-Err-tell_updates-clause-disks
returns-in-Err-tell_updates-clause-disks g c =
    let means = disks_by g.D.LeaseDisk.tells g.D.LeaseDisk.seen g.D.LeaseDisk.moment g.D.LeaseDisk.left_since g.D.LeaseDisk.may_leave g.D.LeaseDisk.faults in
    let o : Opens means c.args.config.now c.args.start c.args.disks.items c.in-Ok.house =
    record { config_is = c.in-Ok.ensures.config; books = c.in-Ok.ensures.opened; stands = c.in-Ok.ensures.house } in
    subst (HaveNotFallen g.D.LeaseDisk.faults c.args.disks.items) (sym c.end.ensures) (later means c.args.config.now c.args.start c.args.disks.items c.in-Ok.house o)

pub play-status-requires : goal.play-status-requires
play-status-requires g c =
    let means = disks_by g.D.LeaseDisk.tells g.D.LeaseDisk.seen g.D.LeaseDisk.moment g.D.LeaseDisk.left_since g.D.LeaseDisk.may_leave g.D.LeaseDisk.faults in
    let o : Opens means c.args.config.now c.args.start c.args.disks.items c.in-Ok.house =
    record { config_is = c.in-Ok.ensures.config; books = c.in-Ok.ensures.opened; stands = c.in-Ok.ensures.house } in
    let r : IsAtRest g.D.LeaseDisk.tells g.D.LeaseDisk.seen g.D.LeaseDisk.may_leave c.in-Ok.house =
    record { is = c.in-Ok.ensures.house; settled = settled means c.args.config.now c.args.start c.args.disks.items c.in-Ok.house o } in
    record { rests = subst (IsAtRest g.D.LeaseDisk.tells g.D.LeaseDisk.seen g.D.LeaseDisk.may_leave) (sym c.of-lines.ensures) r }

pub returns-clause-served : goal.returns-clause-served
returns-clause-served g c =
    let means = disks_by g.D.LeaseDisk.tells g.D.LeaseDisk.seen g.D.LeaseDisk.moment g.D.LeaseDisk.left_since g.D.LeaseDisk.may_leave g.D.LeaseDisk.faults in
    let o : Opens means c.args.config.now c.args.start c.args.disks.items c.in-Ok.house =
    record { config_is = c.in-Ok.ensures.config; books = c.in-Ok.ensures.opened; stands = c.in-Ok.ensures.house } in
    let ended = c.play-status.new.answerer in
    let told : g.W.Sink.held c.tell_updates.new.out ≡ append_known (g.W.Sink.held c.args.out.now) (updates_text c.in-Ok.house) = search rules in
    inr (ends-over c.histories_keep_promises.ensures c.lines_make_histories.ensures.histories c.lines_make_histories.ensures.states
    means c.args.config.now c.args.start
    (record { source = c.args.input.now; left = g.S.Source.left c.args.input.now })
    (record { source = c.play-status.new.input; left = g.S.Source.left c.play-status.new.input })
    (record { out = c.args.out.now; held = g.W.Sink.held c.args.out.now; pairs = c.args.disks.items })
    (record { out = c.play-status.new.out; held = g.W.Sink.held c.play-status.new.out; pairs = c.end-2.result.items })
    c.played_as.result c.in-Ok.house ended c.play-status.result c.requires.config o c.played_as.ensures
    (subst (λ h. HasRun (house_course means h ended) (streams_found c.in-Ok.house (record { source = c.args.input.now; left = g.S.Source.left c.args.input.now }) (record { out = c.args.out.now; held = g.W.Sink.held c.args.out.now; pairs = c.args.disks.items }))
    (record { left = g.S.Source.left c.play-status.new.input; held = g.W.Sink.held c.play-status.new.out }) c.play-status.result) c.of-lines.ensures
    (subst (λ held. HasRun (house_course means c.of-lines.result ended) (record { left = g.S.Source.left c.args.input.now; held = held })
    (record { left = g.S.Source.left c.play-status.new.input; held = g.W.Sink.held c.play-status.new.out }) c.play-status.result) told c.play-status.ensures.played))
    c.end-2.ensures
    (subst (λ h. length ended.books ≡ length h.books) c.of-lines.ensures c.play-status.ensures.played.kept.over.count)
    (subst (λ h. ended.spare ≡ h.spare) c.of-lines.ensures c.play-status.ensures.played.kept.over.spare))

pub returns-clause-disk_fault : goal.returns-clause-disk_fault
returns-clause-disk_fault g c shard is =
    let means = disks_by g.D.LeaseDisk.tells g.D.LeaseDisk.seen g.D.LeaseDisk.moment g.D.LeaseDisk.left_since g.D.LeaseDisk.may_leave g.D.LeaseDisk.faults in
    let o : Opens means c.args.config.now c.args.start c.args.disks.items c.in-Ok.house =
    record { config_is = c.in-Ok.ensures.config; books = c.in-Ok.ensures.opened; stands = c.in-Ok.ensures.house } in
    let ended = c.play-status.new.answerer in
    let risen = c.play-status.ensures.disk_fault shard (played-disk c.play-status.result shard (sym c.played_as.ensures ∙ is)) in
    let fault = house-fault g.D.LeaseDisk.faults c.of-lines.result ended shard c.play-status.ensures.played.kept.over.count risen in
    fault-over g.D.LeaseDisk.faults c.args.disks.items (pairs_of c.of-lines.result) c.end-2.result.items shard
    (subst (λ h. HaveNotFallen g.D.LeaseDisk.faults c.args.disks.items (pairs_of h)) (sym c.of-lines.ensures) (later means c.args.config.now c.args.start c.args.disks.items c.in-Ok.house o))
    (rw c.end-2.ensures fault)

pub returns-clause-disks : goal.returns-clause-disks
returns-clause-disks g c =
    let means = disks_by g.D.LeaseDisk.tells g.D.LeaseDisk.seen g.D.LeaseDisk.moment g.D.LeaseDisk.left_since g.D.LeaseDisk.may_leave g.D.LeaseDisk.faults in
    let o : Opens means c.args.config.now c.args.start c.args.disks.items c.in-Ok.house =
    record { config_is = c.in-Ok.ensures.config; books = c.in-Ok.ensures.opened; stands = c.in-Ok.ensures.house } in
    let ended = c.play-status.new.answerer in
    none_fell-over g.D.LeaseDisk.faults c.args.disks.items (pairs_of c.of-lines.result) c.end-2.result.items
    (subst (λ h. HaveNotFallen g.D.LeaseDisk.faults c.args.disks.items (pairs_of h)) (sym c.of-lines.ensures) (later means c.args.config.now c.args.start c.args.disks.items c.in-Ok.house o))
    (rw c.end-2.ensures (house-later g.D.LeaseDisk.faults c.of-lines.result ended c.play-status.ensures.played.kept.over.count c.play-status.ensures.played.kept.over.spare c.play-status.ensures.disks))
