use Rattle.std.proofs.Common.{◌≡◌, ◌<◌, length, refl, arith}
use Rattle.std.proofs.lemmas.Option.{slice_get_read}
use Rattle.shared_rows.proofs.PassLemmas.{first-is, set-first, set-lane}
use Rattle.shared_rows.proofs.held.look_at_first.Goals as goal

pub learn_and_look-requires-clause-pass : goal.learn_and_look-requires-clause-pass
learn_and_look-requires-clause-pass g c κs within =
    let some : 0 < length c.args.passes.now.items = omega (arith, c.len.ensures, c.if-len-eq0.false) in
    first-is c.args.house.now c.args.passes.now.items c.index_mut.result.now (slice_get_read c.args.passes.now.items _ 0 c.index_mut.result.now refl some c.index_mut.ensures.value) c.requires.passes

pub learn_and_look-requires-clause-lane : goal.learn_and_look-requires-clause-lane
learn_and_look-requires-clause-lane g c κs within =
    let some : 0 < length c.args.passes.now.items = omega (arith, c.len.ensures, c.if-len-eq0.false) in
    let one : 0 < length c.args.lanes.now.items = omega (arith, c.len-else-len-eq0.ensures, c.if-len-eq0-2.false) in
    c.requires.first c.index_mut.result.now c.index_mut-2.result.now (slice_get_read c.args.passes.now.items _ 0 c.index_mut.result.now refl some c.index_mut.ensures.value)
    (slice_get_read c.args.lanes.now.items _ 0 c.index_mut-2.result.now refl one c.index_mut-2.ensures.value)

pub returns-clause-lanes : goal.returns-clause-lanes
returns-clause-lanes g c =
    let one : 0 < length c.args.lanes.now.items = omega (arith, c.len-else-len-eq0.ensures, c.if-len-eq0-2.false) in
    set-lane c.args.house.now c.args.lanes.now.items c.index_mut-2.result.now c.learn_and_look.new.lane (slice_get_read c.args.lanes.now.items _ 0 c.index_mut-2.result.now refl one c.index_mut-2.ensures.value)
    c.learn_and_look.ensures.index c.requires.lanes

pub returns-clause-passes : goal.returns-clause-passes
returns-clause-passes g c =
    let some : 0 < length c.args.passes.now.items = omega (arith, c.len.ensures, c.if-len-eq0.false) in
    set-first c.args.house.now c.args.passes.now.items c.index_mut.result.now c.learn_and_look.new.pass (slice_get_read c.args.passes.now.items _ 0 c.index_mut.result.now refl some c.index_mut.ensures.value)
    c.requires.passes c.learn_and_look.ensures.pass
