use Rattle.std.proofs.Common.{◌≡◌, ◌++◌, List, ℕ, take, ap, ◌∙◌}
use Rattle.journal_sides.specs.Frames.{frame_text}
use Rattle.journal_sides.specs.Texts.{records_in}
use Rattle.journal_sides.proofs.HiddenLaws.{appended_all, rest_texts}
use Rattle.journal_sides.proofs.RecordTextLaws.{slice_rest}
use Rattle.journal_sides.proofs.frames.put_appended.Goals as goal

pub put_open_frames-requires : goal.put_open_frames-requires
put_open_frames-requires c = rest_texts c.args.texts.now c.in_ok-first.first c.in_ok-first.ensures.behind _ (slice_rest c.args.texts.now c.in_ok-first.first)

pub returns : goal.returns
returns c =
    let texts = c.args.texts.now in
    let frame = frame_text (take 16 (records_in texts)) in
    appended_all texts c.in_ok-first.first c.requires.texts c.in_ok-first.ensures.behind c.requires.some _ (slice_rest texts c.in_ok-first.first)
    c.put_first_frame.new.out.items c.put_open_frames.new.out.items c.push.new.self.items (c.in_ok-first.ensures.frame ∙ ap (λ (l : List ℕ). l ++ frame) c.requires.empty) c.in_ok-put_open_frames.ensures c.in_ok-push.ensures.items
