use Rattle.std.proofs.Common.{◌≡◌, ◌≤◌, length, arith, subst}
use Rattle.std.proofs.lemmas.Grind.{common_steps}
use Rattle.journal_sides.specs.Texts.{AreTexts, records_in}
use Rattle.journal_sides.proofs.RecordTextLaws.{behind_first, behind_nothing, next_left}
use Rattle.journal_sides.proofs.texts.first_length.Goals as goal

pub returns-then-is_empty : goal.returns-then-is_empty
returns-then-is_empty c =
    let none : length c.args.texts.now ≡ 0 = grind (arith, common_steps) in
    behind_nothing c.args.texts.now c.requires none

pub read_first-requires : goal.read_first-requires
read_first-requires c =
    let texts = c.args.texts.now in
    let some : 1 ≤ length c.args.texts.now = grind (arith, common_steps) in
    let next = next_left texts 0 (records_in texts) c.requires some in
    (next.0, next.1, subst (AreTexts texts) next.2 c.requires)

pub returns : goal.returns
returns c =
    let texts = c.args.texts.now in
    let some : 1 ≤ length c.args.texts.now = grind (arith, common_steps) in
    let next = next_left texts 0 (records_in texts) c.requires some in
    let first = c.read_first.ensures.first next.0 next.1 (subst (AreTexts texts) next.2 c.requires) in
    behind_first texts next.0 next.1 next.2 c.read_first.result.1 c.read_first.ensures.within first.1
