use Rattle.std.proofs.Common.{◌≡◌, [], IfOk, subst}
use Rattle.pcp_base.specs.Reached.{IsReached}
use Rattle.pcp_base.specs.States.{State}
use Rattle.lane_index.specs.Lanes.{lane_of, writer_of}
use Rattle.turned_shards.proofs.LaneOpenings.{told-all, told-opening, told-sound}
use Rattle.turned_shards.proofs.turning.lane_over.Goals as goal

pub lane-requires : goal.lane-requires
lane-requires g c =
    let same = c.core-core.ensures.state c.requires in
    let reached = c.core-core.ensures.reached c.requires in
    let told = told-all _ c.args.book.now.state _ c.deref.result.now _ c.deref-2.result.now
    c.last-last.result same reached c.last-last.ensures.value c.in_ok-maps.ensures
    c.deref.ensures.value c.in_ok-peers.ensures c.deref-2.ensures.value in
    record {
      sound = told-sound c.args.book.now.state c.deref.result.now c.deref-2.result.now
          c.last-last.result told (subst IsReached same reached).sound.table;
    }

pub returns-clause-writer : goal.returns-clause-writer
returns-clause-writer g c =
    let same = c.core-core.ensures.state c.requires in
    let reached = c.core-core.ensures.reached c.requires in
    let told = told-all _ c.args.book.now.state _ c.deref.result.now _ c.deref-2.result.now
    c.last-last.result same reached c.last-last.ensures.value c.in_ok-maps.ensures
    c.deref.ensures.value c.in_ok-peers.ensures c.deref-2.ensures.value in
    subst (λ (s : State). IfOk c.lane.result (λ made. made.0 ≡ writer_of made.1.index s [] []))
    (told-opening c.args.book.now.state c.deref.result.now c.deref-2.result.now
    c.last-last.result told) c.lane.ensures.writer

pub returns-clause-lane : goal.returns-clause-lane
returns-clause-lane g c =
    let same = c.core-core.ensures.state c.requires in
    let reached = c.core-core.ensures.reached c.requires in
    let told = told-all _ c.args.book.now.state _ c.deref.result.now _ c.deref-2.result.now
    c.last-last.result same reached c.last-last.ensures.value c.in_ok-maps.ensures
    c.deref.ensures.value c.in_ok-peers.ensures c.deref-2.ensures.value in
    subst (λ (s : State). IfOk c.lane.result (λ made. made.1 ≡ lane_of made.0.index s []))
    (told-opening c.args.book.now.state c.deref.result.now c.deref-2.result.now
    c.last-last.result told) c.lane.ensures.lane
