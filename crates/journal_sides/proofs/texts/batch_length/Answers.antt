use Rattle.std.proofs.Common.{List, ℕ, length, drop, ap, arith, length-drop, subst, sym}
use Rattle.journal_sides.specs.Texts.{AreTexts, records_in}
use Rattle.journal_sides.proofs.RecordTextLaws.{behind_more, behind_none, slice_rest, texts_again}
use Rattle.journal_sides.proofs.texts.batch_length.Goals as goal

pub loop-read-init : goal.loop-read-init
loop-read-init c = behind_none c.args.texts.now (records_in c.args.texts.now) c.requires

pub first_length-at-requires : goal.first_length-at-requires
first_length-at-requires c =
    let texts = c.args.texts.now in
    let at = c.loop-read.at in
    let left = c.loop-read.invariant.left in
    let behind = subst (λ (l : List ℕ). AreTexts l (drop c.loop-read._read (records_in texts))) (sym (slice_rest texts at)) left in
    texts_again _ _ behind

pub loop-read-preserved : goal.loop-read-preserved
loop-read-preserved c =
    let texts = c.args.texts.now in
    let at = c.loop-read.at in
    behind_more texts (records_in texts) c.loop-read._read at c.loop-read.invariant _ (slice_rest texts at) c.first_length-at.result c.first_length-at.ensures

pub overflow_add-at : goal.overflow_add-at
overflow_add-at c =
    let texts = c.args.texts.now in
    let at = c.loop-read.at in
    omega (arith, c.first_length-at.ensures.within, ap length (slice_rest texts at), length-drop at texts, c.loop-read.invariant.within, c.type_inv.texts)
