use Rattle.std.proofs.Common.{List, [], ℕ, ◌∷◌, ◌++◌, length, drop, sym, subst, ◌∙◌, ap, arith, append_assoc, drop-drop, length-drop}
use Rattle.std.proofs.lemmas.List.{append-nil}
use Rattle.pcp_base.specs.declared.records.Record.{Record}
use Rattle.journal_sides.specs.Texts.{AreTexts}
use Rattle.journal_sides.proofs.RecordTextLaws.{next_left, none_left, slice_rest}
use Rattle.shard_book.proofs.texts.records_of.Goals as goal

pub push_first-requires : goal.push_first-requires
push_first-requires c =
    let texts = c.args.texts.now in
    let at = c.loop-at.at in
    let is = c.loop-at.invariant.read in
    let next = next_left texts at is.left is.texts c.loop-at-test.true in
    (next.0, next.1, subst (λ (l : List ℕ). AreTexts l (next.0 ∷ next.1)) (sym (slice_rest texts at)) (subst (AreTexts (drop at texts)) next.2 is.texts))

pub loop-at-preserved : goal.loop-at-preserved
loop-at-preserved c =
    let texts = c.args.texts.now in
    let at = c.loop-at.at in
    let n = c.in_ok-at.field-0 in
    let is = c.loop-at.invariant.read in
    let next = next_left texts at is.left is.texts c.loop-at-test.true in
    let turned = c.in_ok-at.ensures.first next.0 next.1 (subst (λ (l : List ℕ). AreTexts l (next.0 ∷ next.1)) (sym (slice_rest texts at)) (subst (AreTexts (drop at texts)) next.2 is.texts)) in
    record {
      within = omega (arith, c.in_ok-at.ensures.within, ap length (slice_rest texts at), length-drop at texts, c.loop-at-test.true);
      read = record {
        left = next.1;
        texts = subst (λ (l : List ℕ). AreTexts l next.1) (ap (drop n) (slice_rest texts at) ∙ drop-drop n at texts) turned.1;
        whole = ap (λ (l : List Record). l ++ next.1) turned.0 ∙ append_assoc c.loop-at.records.items (next.0 ∷ []) next.1 ∙ ap (λ (l : List Record). c.loop-at.records.items ++ l) (sym next.2) ∙ is.whole;
      };
    }

pub returns : goal.returns
returns c =
    let is = c.loop-at.invariant.read in
    let none = none_left c.args.texts.now c.loop-at.at is.left is.texts c.loop-at-test.false in
    sym (append-nil c.loop-at.records.items) ∙ ap (λ (l : List Record). c.loop-at.records.items ++ l) (sym none) ∙ is.whole
