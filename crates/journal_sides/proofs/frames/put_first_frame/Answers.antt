use Rattle.std.proofs.Common.{◌≡◌, ◌++◌, ◌≤◌, List, ℕ, length, take, ap, subst, sym, ◌∙◌}
use Rattle.std.specs.Int.{to_be_bytes, w32}
use Rattle.journal_sides.specs.declared.layout.TheConstants.{MOST_FRAMED}
use Rattle.journal_sides.specs.Texts.{records_in}
use Rattle.journal_sides.specs.Frames.{records_text}
use Rattle.journal_sides.proofs.RecordTextLaws.{batch_first, batch_some, front_texts}
use Rattle.journal_sides.proofs.frames.put_first_frame.Goals as goal

pub put_frame_text-requires : goal.put_frame_text-requires
put_frame_text-requires c =
    let texts = c.args.texts.now in
    let size = c.batch_length-size.result in
    let behind = c.batch_length-size.ensures in
    let front = (front_texts texts (records_in texts) c.requires.texts 16 size behind).text in
    subst (λ (l : List ℕ). length l ≤ MOST_FRAMED) (sym front) (batch_first texts size c.requires.texts behind c.requires.some).short

pub returns-clause-some : goal.returns-clause-some
returns-clause-some c = batch_some c.args.texts.now c.batch_length-size.result c.requires.texts c.batch_length-size.ensures c.requires.some

pub returns-clause-within : goal.returns-clause-within
returns-clause-within c = c.batch_length-size.ensures.within

pub returns-clause-frame : goal.returns-clause-frame
returns-clause-frame c =
    let texts = c.args.texts.now in
    let size = c.batch_length-size.result in
    let front : take size texts ≡ records_text (take 16 (records_in texts)) = (front_texts texts (records_in texts) c.requires.texts 16 size c.batch_length-size.ensures).text in
    c.in_ok-put_frame_text.ensures
    ∙ ap (λ (l : List ℕ). c.args.out.now.items ++ (to_be_bytes w32 (length l) ++ l)) front
