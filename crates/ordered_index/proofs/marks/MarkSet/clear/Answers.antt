use Rattle.std.proofs.Common.{◌≡◌, vec_len, ◌∙◌, arith}
use Rattle.ordered_index.specs.declared.marks.TheConstants.{HIGH_WORDS, LOW_WORDS}
use Rattle.ordered_index.proofs.MarkLemmas.{blank_marks, blank_summed, cleared_all, cleared_blank}
use Rattle.ordered_index.proofs.marks.MarkSet.clear.Goals as goal

pub invariant_of-self : goal.invariant_of-self
invariant_of-self c =
    let low_all = c.self.invariant.low_all in
    let high_all = c.self.invariant.high_all in
    let lows : vec_len c.self.inside.low ≡ LOW_WORDS = omega (arith, low_all) in
    let highs : vec_len c.self.inside.high ≡ HIGH_WORDS = omega (arith, high_all) in
    let low = c.fill.ensures.items (λ y e. e) in
    let high = c.fill-2.ensures.items (λ y e. e) in
    blank_summed c.fill.new.self.items c.fill-2.new.self.items (cleared_blank (vec_len c.self.inside.low) c.fill.new.self.items low)
    (cleared_all (vec_len c.self.inside.low) c.fill.new.self.items low ∙ lows)
    (cleared_all (vec_len c.self.inside.high) c.fill-2.new.self.items high ∙ highs)
    (cleared_blank (vec_len c.self.inside.high) c.fill-2.new.self.items high)

pub returns : goal.returns
returns c = blank_marks c.fill.new.self.items c.fill-2.new.self.items (cleared_blank (vec_len c.self.inside.low) c.fill.new.self.items (c.fill.ensures.items (λ y e. e)))
