use Rattle.std.proofs.Common.{[], ◌∷◌, refl, arith}
use Rattle.client_runs.specs.Links.{Drawing}
use Rattle.client_runs.proofs.CallLemmas.{on_err}
use Rattle.client_runs.proofs.LinkLemmas.{drawn-join, risen_after}
use Rattle.client_runs.proofs.openings.draw_nonce.Goals as goal

pub returns-in_err-second-clause-part : goal.returns-in_err-second-clause-part
returns-in_err-second-clause-part g c =
    let d0 : Drawing = record { words = g.E.Entropy.words c.args.entropy.now; faults = g.E.Entropy.faults c.args.entropy.now } in
    let d1 : Drawing = record { words = g.E.Entropy.words c.draw.new.entropy; faults = g.E.Entropy.faults c.draw.new.entropy } in
    let d2 : Drawing = record { words = g.E.Entropy.words c.draw-2.new.entropy; faults = g.E.Entropy.faults c.draw-2.new.entropy } in
    let one = c.in_ok-first.ensures.word in
    on_err c.from_residual-in_err-second.result _ (record {
      words = c.in_ok-first.first ∷ [];
      few = omega arith;
      drawn = drawn-join (c.in_ok-first.first ∷ []) [] d0 d1 d2 one c.in_err-second.ensures.none;
      fault = risen_after d0.faults d1.faults d2.faults one.later c.in_err-second.ensures.fault;
    })

pub returns-in_err-third-clause-part : goal.returns-in_err-third-clause-part
returns-in_err-third-clause-part g c =
    let d0 : Drawing = record { words = g.E.Entropy.words c.args.entropy.now; faults = g.E.Entropy.faults c.args.entropy.now } in
    let d1 : Drawing = record { words = g.E.Entropy.words c.draw.new.entropy; faults = g.E.Entropy.faults c.draw.new.entropy } in
    let d2 : Drawing = record { words = g.E.Entropy.words c.draw-2.new.entropy; faults = g.E.Entropy.faults c.draw-2.new.entropy } in
    let d3 : Drawing = record { words = g.E.Entropy.words c.draw-3.new.entropy; faults = g.E.Entropy.faults c.draw-3.new.entropy } in
    let two = drawn-join (c.in_ok-first.first ∷ []) (c.in_ok-second.second ∷ []) d0 d1 d2 c.in_ok-first.ensures.word c.in_ok-second.ensures.word in
    on_err c.from_residual-in_err-third.result _ (record {
      words = c.in_ok-first.first ∷ c.in_ok-second.second ∷ [];
      few = omega arith;
      drawn = drawn-join (c.in_ok-first.first ∷ c.in_ok-second.second ∷ []) [] d0 d2 d3 two c.in_err-third.ensures.none;
      fault = risen_after d0.faults d2.faults d3.faults two.later c.in_err-third.ensures.fault;
    })

pub returns-clause-nonce : goal.returns-clause-nonce
returns-clause-nonce g c =
    let d0 : Drawing = record { words = g.E.Entropy.words c.args.entropy.now; faults = g.E.Entropy.faults c.args.entropy.now } in
    let d1 : Drawing = record { words = g.E.Entropy.words c.draw.new.entropy; faults = g.E.Entropy.faults c.draw.new.entropy } in
    let d2 : Drawing = record { words = g.E.Entropy.words c.draw-2.new.entropy; faults = g.E.Entropy.faults c.draw-2.new.entropy } in
    let d3 : Drawing = record { words = g.E.Entropy.words c.draw-3.new.entropy; faults = g.E.Entropy.faults c.draw-3.new.entropy } in
    let two = drawn-join (c.in_ok-first.first ∷ []) (c.in_ok-second.second ∷ []) d0 d1 d2 c.in_ok-first.ensures.word c.in_ok-second.ensures.word in
    record {
      words = c.in_ok-first.first ∷ c.in_ok-second.second ∷ c.in_ok-third.third ∷ [];
      is = record { a = c.in_ok-first.first; b = c.in_ok-second.second; c = c.in_ok-third.third; words_are = refl; nonce_is = c.nonce_of.ensures };
      few = omega arith;
      drawn = drawn-join (c.in_ok-first.first ∷ c.in_ok-second.second ∷ []) (c.in_ok-third.third ∷ []) d0 d2 d3 two c.in_ok-third.ensures.word;
    }
