use Rattle.std.proofs.Common.{List, ℕ, ◌∷◌, length, drop, sym, subst, ◌∙◌, ap, arith, drop-drop, length-drop}
use Rattle.journal_sides.proofs.RecordTextLaws.{slice_rest}
use Rattle.pcp_base.specs.Apply.{apply_all}
use Rattle.pcp_base.specs.Fits.{AllFit}
use Rattle.pcp_base.specs.States.{State}
use Rattle.journal_sides.specs.Texts.{AreTexts, records_in}
use Rattle.shard_book.proofs.ReplayLemmas.{all_read, has_next}
use Rattle.shard_book.proofs.texts.replay_all.Goals as goal

pub replay_first-requires-clause-first : goal.replay_first-requires-clause-first
replay_first-requires-clause-first g c =
    let texts = c.args.texts.now in
    let at = c.loop-at.at in
    let h = has_next texts at (g.R.Replay.state c.args.replay.now) (g.R.Replay.state c.loop-at.replay) (records_in texts) c.loop-at.invariant.left c.loop-at-test.true in
    (h.r, h.rs, subst (λ (l : List ℕ). AreTexts l (h.r ∷ h.rs)) (sym (slice_rest texts at)) h.texts, h.fits)

pub loop-at-preserved : goal.loop-at-preserved
loop-at-preserved g c =
    let texts = c.args.texts.now in
    let at = c.loop-at.at in
    let n = c.in_ok-at.field-0 in
    let h = has_next texts at (g.R.Replay.state c.args.replay.now) (g.R.Replay.state c.loop-at.replay) (records_in texts) c.loop-at.invariant.left c.loop-at-test.true in
    let turned = c.in_ok-at.ensures.first h.r h.rs (subst (λ (l : List ℕ). AreTexts l (h.r ∷ h.rs)) (sym (slice_rest texts at)) h.texts) in
    record {
      ready = c.in_ok-at.ensures.ready;
      within = omega (arith, c.in_ok-at.ensures.within, ap length (slice_rest texts at), length-drop at texts, c.loop-at-test.true);
      left = record {
        left = h.rs;
        texts = subst (λ (l : List ℕ). AreTexts l h.rs) (ap (drop n) (slice_rest texts at) ∙ drop-drop n at texts) turned.1;
        fit = subst (λ (u : State). AllFit u h.rs) (sym turned.0) h.fit;
        leads = ap (λ (u : State). apply_all u h.rs) turned.0 ∙ h.leads;
      };
      lasting = c.in_ok-at.ensures.lasting ∙ c.loop-at.invariant.lasting;
    }

pub returns-clause-state : goal.returns-clause-state
returns-clause-state g c = all_read c.args.texts.now c.loop-at.at (g.R.Replay.state c.args.replay.now) (g.R.Replay.state c.loop-at.replay) (records_in c.args.texts.now) c.loop-at.invariant.left c.loop-at-test.false
