use Rattle.std.proofs.Common.{◌≡◌, ℕ, ◌+◌, ◌-◌, ◌≤◌, ◌++◌, length, take, drop, sym, ◌∙◌, ap, subst, arith, length-take, length-drop, length-append}
use Rattle.pcp_base.specs.States.{State, empty_state}
use Rattle.journal_sides.specs.declared.walks.Stop.{Stop}
use Rattle.journal_sides.specs.Walks.{HasFrames, StopMeans}
use Rattle.journal_sides.proofs.BegunLaws.{walk_begun}
use Rattle.journal_sides.proofs.FillLemmas.{read_both}
use Rattle.journal_sides.proofs.SideWalks.{piece_reads, wants_enough, goes_on_walking, walk_ends, walk_sticks, walk_short, walk_out}
use Rattle.journal_sides.proofs.walks.walk.Goals as goal

pub returns-in-Ended-clause-means : goal.returns-in-Ended-clause-means
returns-in-Ended-clause-means g c = λ told all.
    let d = g.D.LeaseDisk in
    let so_far = c.loop-place.invariant in
    let octets = d.seen c.args.disk.now in
    let place = c.loop-place.place in
    let wanted = c.min-wanted.result in
    let count = c.in_ok-count.count in
    let used = c.in_ok-used.used in
    let before = g.R.Replay.state c.loop-place.replay in
    let now = g.R.Replay.state c.walk_piece.new.replay in
    let long : length c.fill.new.piece ≡ wanted = omega (arith, c.fill.auto.piece, length-take wanted c.loop-place.buffer, c.min-wanted.ensures) in
    let means = c.in_ok-used.ensures.means in
    let piece = take count (c.fill.new.piece ++ drop wanted c.loop-place.buffer) in
    let reads = piece_reads octets (d.seen c.loop-place.disk) c.fill.new.piece (drop wanted c.loop-place.buffer) place wanted count c.in_ok-count.ensures.bound (c.in_ok-count.ensures.reads told) (so_far.still told) long in
    let ended = subst (λ (x : Stop). StopMeans c.args.format means.mid now (drop used piece) x) c.in-Ended.is means.then_ in
    walk_ends c.args.format octets piece place wanted so_far.past reads before now means.mid used c.in_ok-used.ensures.within (so_far.frames told all) means.frames ended.0 ended.1

pub returns-in-Stuck-clause-means : goal.returns-in-Stuck-clause-means
returns-in-Stuck-clause-means g c = λ told all.
    let d = g.D.LeaseDisk in
    let so_far = c.loop-place.invariant in
    let octets = d.seen c.args.disk.now in
    let place = c.loop-place.place in
    let wanted = c.min-wanted.result in
    let count = c.in_ok-count.count in
    let used = c.in_ok-used.used in
    let before = g.R.Replay.state c.loop-place.replay in
    let now = g.R.Replay.state c.walk_piece.new.replay in
    let long : length c.fill.new.piece ≡ wanted = omega (arith, c.fill.auto.piece, length-take wanted c.loop-place.buffer, c.min-wanted.ensures) in
    let means = c.in_ok-used.ensures.means in
    let piece = take count (c.fill.new.piece ++ drop wanted c.loop-place.buffer) in
    let reads = piece_reads octets (d.seen c.loop-place.disk) c.fill.new.piece (drop wanted c.loop-place.buffer) place wanted count c.in_ok-count.ensures.bound (c.in_ok-count.ensures.reads told) (so_far.still told) long in
    let stuck = subst (λ (x : Stop). StopMeans c.args.format means.mid now (drop used piece) x) c.in-Stuck.is means.then_ in
    walk_sticks c.args.format octets piece place wanted so_far.past reads before means.mid used c.in_ok-used.ensures.within (so_far.frames told all) means.frames stuck

pub returns-in-Short-clause-means : goal.returns-in-Short-clause-means
returns-in-Short-clause-means g c = λ told all.
    let d = g.D.LeaseDisk in
    let so_far = c.loop-place.invariant in
    let octets = d.seen c.args.disk.now in
    let place = c.loop-place.place in
    let wanted = c.min-wanted.result in
    let count = c.in_ok-count.count in
    let used = c.in_ok-used.used in
    let before = g.R.Replay.state c.loop-place.replay in
    let now = g.R.Replay.state c.walk_piece.new.replay in
    let long : length c.fill.new.piece ≡ wanted = omega (arith, c.fill.auto.piece, length-take wanted c.loop-place.buffer, c.min-wanted.ensures) in
    let means = c.in_ok-used.ensures.means in
    let piece = take count (c.fill.new.piece ++ drop wanted c.loop-place.buffer) in
    let reads = piece_reads octets (d.seen c.loop-place.disk) c.fill.new.piece (drop wanted c.loop-place.buffer) place wanted count c.in_ok-count.ensures.bound (c.in_ok-count.ensures.reads told) (so_far.still told) long in
    let none : used ≡ 0 = omega (arith, c.if-used-eq0.true) in
    let short = subst (λ (x : Stop). StopMeans c.args.format means.mid now (drop used piece) x) c.in-Short.is means.then_ in
    let here = subst (λ (u : ℕ). HasFrames c.args.format before means.mid piece u) none means.frames in
    let stuck = subst (λ (u : ℕ). StopMeans c.args.format means.mid now (drop u (take count (c.fill.new.piece ++ drop wanted c.loop-place.buffer))) c.in_ok-used.stop) none means.then_ in
    let cut = subst (λ (x : Stop). StopMeans c.args.format means.mid now piece x) c.in-Short.is stuck in
    walk_short c.args.format octets piece place wanted so_far.past reads before means.mid
    (wants_enough (length octets - place) (length c.loop-place.buffer) wanted (omega (arith, all, c.min-wanted.ensures)) so_far.roomy)
    (so_far.frames told all) here cut.0 cut.1

pub loop-place-preserved : goal.loop-place-preserved
loop-place-preserved g c =
    let d = g.D.LeaseDisk in
    let so_far = c.loop-place.invariant in
    let octets = d.seen c.args.disk.now in
    let place = c.loop-place.place in
    let wanted = c.min-wanted.result in
    let count = c.in_ok-count.count in
    let used = c.in_ok-used.used in
    let before = g.R.Replay.state c.loop-place.replay in
    let now = g.R.Replay.state c.walk_piece.new.replay in
    let long : length c.fill.new.piece ≡ wanted = omega (arith, c.fill.auto.piece, length-take wanted c.loop-place.buffer, c.min-wanted.ensures) in
    let means = c.in_ok-used.ensures.means in
    let piece = take count (c.fill.new.piece ++ drop wanted c.loop-place.buffer) in
    let short = subst (λ (x : Stop). StopMeans c.args.format means.mid now (drop used piece) x) c.in-Short.is means.then_ in
    let few : place + used ≤ c.args.size = omega (arith, c.in_ok-used.ensures.within, length-take count (c.fill.new.piece ++ drop wanted c.loop-place.buffer), c.in_ok-count.ensures.bound, long, c.min-wanted.ensures) in
    record {
      past = omega (arith, so_far.past);
      within = few;
      roomy = omega (arith, so_far.roomy, long, c.min-wanted.ensures, length-append c.fill.new.piece (drop wanted c.loop-place.buffer), length-drop wanted c.loop-place.buffer);
      begun = λ further. ap (λ (t : State). t.started) short.2 ∙ walk_begun c.args.format before means.mid piece place used so_far.past so_far.begun means.frames further;
      frames = λ told all.
          let reads = piece_reads octets (d.seen c.loop-place.disk) c.fill.new.piece (drop wanted c.loop-place.buffer) place wanted count c.in_ok-count.ensures.bound (c.in_ok-count.ensures.reads told) (so_far.still told) long in
          subst (λ (t : State). HasFrames c.args.format empty_state t (drop 14 octets) (place + used - 14)) (sym short.2)
          (goes_on_walking c.args.format octets piece place wanted so_far.past reads before means.mid used c.in_ok-used.ensures.within (so_far.frames told all) means.frames);
      still = λ told. c.in_ok-count.ensures.seen told ∙ so_far.still told;
      read = read_both d.may_leave d.moment d.left_since g.met.D.LeaseDisk.counts_now g.met.D.LeaseDisk.only_now c.args.disk.now c.loop-place.disk c.fill.new.disk so_far.read c.in_ok-count.ensures.read;
      quiet = c.in_ok-count.ensures.quiet ∙ so_far.quiet;
      is_ready = (c.in_ok-used.ensures.ready, c.walk_piece.ensures.lasting ∙ so_far.is_ready.1);
    }

pub returns-clause-means : goal.returns-clause-means
returns-clause-means g c = λ told all.
    let so_far = c.loop-place.invariant in
    walk_out c.args.format (g.R.Replay.state c.loop-place.replay) (g.D.LeaseDisk.seen c.args.disk.now) c.args.size c.loop-place.place so_far.past (omega (arith, c.loop-place-test.false)) all (so_far.frames told all)

pub returns-in-Ended-clause-begun : goal.returns-in-Ended-clause-begun
returns-in-Ended-clause-begun g c = λ further.
    let so_far = c.loop-place.invariant in
    let means = c.in_ok-used.ensures.means in
    let piece = take c.in_ok-count.count (c.fill.new.piece ++ drop c.min-wanted.result c.loop-place.buffer) in
    let now = g.R.Replay.state c.walk_piece.new.replay in
    let ended = subst (λ (x : Stop). StopMeans c.args.format means.mid now (drop c.in_ok-used.used piece) x) c.in-Ended.is means.then_ in
    ap (λ (t : State). t.started) ended.1 ∙ walk_begun c.args.format (g.R.Replay.state c.loop-place.replay) means.mid piece c.loop-place.place c.in_ok-used.used so_far.past so_far.begun means.frames further
