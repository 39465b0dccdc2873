use Rattle.std.proofs.Common.{◌++◌, ◌∷◌, [], List, ℕ, take, ap, ◌∙◌, append_assoc}
use Rattle.std.proofs.lemmas.Result.{on_ok_weaker}
use Rattle.journal_sides.specs.Frames.{frame_text}
use Rattle.journal_sides.specs.Texts.{records_in}
use Rattle.journal_sides.proofs.frames.put_open_frame.Goals as goal

pub returns-clause-frame : goal.returns-clause-frame
returns-clause-frame c =
    let frame = frame_text (take 16 (records_in c.args.texts.now)) in
    on_ok_weaker c.put_first_frame.result (λ wrote. wrote ∙ ap (λ (l : List ℕ). l ++ frame) c.in_ok-push.ensures.items ∙ append_assoc c.args.out.now.items (1 ∷ []) frame) c.put_first_frame.ensures.frame
