use Rattle.std.proofs.Common.{length, ap, refl, arith, length-drop}
use Rattle.journal_sides.proofs.HiddenLaws.{framed_first, framed_last, framed_more, slice_texts}
use Rattle.journal_sides.proofs.RecordTextLaws.{slice_rest}
use Rattle.journal_sides.proofs.frames.put_open_frames.Goals as goal

pub loop-at-init : goal.loop-at-init
loop-at-init c = record {
  within = omega arith;
  framed = framed_first c.args.texts.now c.args.out.now.items c.args.out.now.items refl c.requires;
}

pub put_open_frame-requires-clause-some : goal.put_open_frame-requires-clause-some
put_open_frame-requires-clause-some c =
    let texts = c.args.texts.now in
    let at = c.loop-at.at in
    omega (arith, ap length (slice_rest texts at), length-drop at texts, c.loop-at-test.true)

pub put_open_frame-requires-clause-texts : goal.put_open_frame-requires-clause-texts
put_open_frame-requires-clause-texts c =
    let texts = c.args.texts.now in
    let at = c.loop-at.at in
    slice_texts texts at c.args.out.now.items c.loop-at.out.items c.loop-at.invariant.framed _ (slice_rest texts at)

pub loop-at-preserved : goal.loop-at-preserved
loop-at-preserved c =
    let texts = c.args.texts.now in
    let at = c.loop-at.at in
    let rest = slice_rest texts at in
    record {
      within = omega (arith, c.in_ok-at.ensures.within, ap length rest, length-drop at texts, c.loop-at-test.true);
      framed = framed_more texts at c.args.out.now.items c.loop-at.out.items c.loop-at.invariant.framed _ rest c.in_ok-at.field-0 c.put_open_frame.new.out.items
          (omega (arith, ap length rest, length-drop at texts, c.loop-at-test.true)) c.in_ok-at.ensures.behind c.in_ok-at.ensures.frame;
    }

pub returns : goal.returns
returns c = framed_last c.args.texts.now c.loop-at.at c.args.out.now.items c.loop-at.out.items c.loop-at.invariant.framed (omega (arith, c.loop-at-test.false))
