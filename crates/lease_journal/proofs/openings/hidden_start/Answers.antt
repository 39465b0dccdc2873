use Rattle.std.proofs.Common.{◌∷◌, [], List, ℕ, length, ap, arith, subst, sym}
use Rattle.std.specs.Prelude.{IfOk}
use Rattle.pcp_base.specs.declared.records.Record.{Record}
use Rattle.journal_sides.specs.Shut.{IsHidden}
use Rattle.journal_sides.specs.Texts.{AreTexts}
use Rattle.journal_sides.proofs.RecordTextLaws.{texts_again, texts_in}
use Rattle.lease_journal.proofs.openings.hidden_start.Goals as goal

pub hidden_of-requires-clause-some : goal.hidden_of-requires-clause-some
hidden_of-requires-clause-some c =
    let is = subst (λ (l : List ℕ). AreTexts l (c.args.start ∷ [])) (sym c.deref.ensures.value) c.in_ok-texts.ensures in
    omega (arith, ap length (texts_in c.deref.result.now (c.args.start ∷ []) is))

pub hidden_of-requires-clause-texts : goal.hidden_of-requires-clause-texts
hidden_of-requires-clause-texts c =
    let is = subst (λ (l : List ℕ). AreTexts l (c.args.start ∷ [])) (sym c.deref.ensures.value) c.in_ok-texts.ensures in
    texts_again c.deref.result.now (c.args.start ∷ []) is

pub returns : goal.returns
returns c =
    let is = subst (λ (l : List ℕ). AreTexts l (c.args.start ∷ [])) (sym c.deref.ensures.value) c.in_ok-texts.ensures in
    subst (λ (rs : List Record). IfOk c.hidden_of.result (λ text. IsHidden 0 rs text.items)) (texts_in c.deref.result.now (c.args.start ∷ []) is) c.hidden_of.ensures
