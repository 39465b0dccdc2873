use Rattle.std.proofs.Common.{◌≡◌, ◌∙◌, ℕ, ◌-◌, ◌<◌, suc, true, false, length, slice_get, slice_index, Some, refl, sym, ap, subst, arith}
use Rattle.std.proofs.lemmas.Option.{slice_get_read, slice_get_within}
use Rattle.lane_index.specs.Applying.{finished}
use Rattle.lane_index.specs.Chains.{IsEnding}
use Rattle.lane_index.specs.Keys.{has_key}
use Rattle.lane_index.proofs.ChainLemmas.{ending-stays, ending-leaves}
use Rattle.lane_index.proofs.ending.end_one.Goals as goal

pub returns-then-not-has_key-clause-ending : goal.returns-then-not-has_key-clause-ending
returns-then-not-has_key-clause-ending c = λ first h.
    let i : ℕ = c.args.at - 1 in let x = c.index-cells-place.result in
    let is : c.args.at ≡ suc i = omega (arith, c.requires.some) in
    let within : i < length c.args.cells.now = slice_get_within c.args.cells.now i c.requires.passing.0 c.requires.passing.1 in
    let at : slice_get c.args.cells.now i ≡ Some x = slice_get_read c.args.cells.now (length c.args.cells.now) i x refl within (rw c.from-place.ensures at c.index-cells-place.is) in
    let other : has_key c.args.key.now x ≡ false = ap (has_key c.args.key.now) c.index-cells-place.is ∙ (sym c.has_key.ensures ∙ c.if-not-has_key.true) in
    subst (λ (n : ℕ). IsEnding c.args.key.now first c.args.cells.now c.args.keys.now n (slice_index c.args.keys.now.older i)) (sym is)
    (ending-stays c.args.key.now first c.args.cells.now c.args.keys.now c.args.newer i (subst (λ (n : ℕ). IsEnding c.args.key.now first c.args.cells.now c.args.keys.now c.args.newer n) is h) x at other)

pub leave_slot-requires-clause-inside : goal.leave_slot-requires-clause-inside
leave_slot-requires-clause-inside c =
    let within = slice_get_within c.args.cells.now (c.args.at - 1) c.requires.passing.0 c.requires.passing.1 in omega (arith, within)

pub bounds-cells-place-2 : goal.bounds-cells-place-2
bounds-cells-place-2 c =
    let within = slice_get_within c.args.cells.now (c.args.at - 1) c.requires.passing.0 c.requires.passing.1 in omega (arith, within, c.from-place.ensures)

pub before-older-requires-clause-inside : goal.before-older-requires-clause-inside
before-older-requires-clause-inside c =
    let within = slice_get_within c.args.cells.now (c.args.at - 1) c.requires.passing.0 c.requires.passing.1 in omega (arith, within, c.requires.keyed.long)

pub returns-clause-ending : goal.returns-clause-ending
returns-clause-ending c = λ first h.
    let i : ℕ = c.args.at - 1 in let x = c.index-cells-place.result in
    let is : c.args.at ≡ suc i = omega (arith, c.requires.some) in
    let within : i < length c.args.cells.now = slice_get_within c.args.cells.now i c.requires.passing.0 c.requires.passing.1 in
    let at : slice_get c.args.cells.now i ≡ Some x = slice_get_read c.args.cells.now (length c.args.cells.now) i x refl within (rw c.from-place.ensures at c.index-cells-place.is) in
    let has : has_key c.args.key.now x ≡ true = ap (has_key c.args.key.now) c.index-cells-place.is ∙ (sym c.has_key.ensures ∙ c.if-not-has_key.false) in
    let y = c.index-cells-place-2.result in
    let again : slice_get c.args.cells.now i ≡ Some y = slice_get_read c.args.cells.now (length c.args.cells.now) i y refl within (rw c.from-place.ensures at c.index-cells-place-2.is) in
    let both : Some y ≡ Some x = sym again ∙ at in
    let one : y ≡ x = (cc) in
    let over : c.end.new.self ≡ finished x = c.end.ensures ∙ ap finished (sym c.index-cells-place-2.is ∙ one) in
    rw (c.relink.ensures, c.bucket.ensures.exact, c.before-older.ensures, over, c.from-place.ensures)
    (ending-leaves c.args.key.now first c.args.cells.now c.args.keys.now c.args.newer i (subst (λ (n : ℕ). IsEnding c.args.key.now first c.args.cells.now c.args.keys.now c.args.newer n) is h) x at has (rw (← c.bucket.ensures.exact) c.bucket.ensures.inside))
