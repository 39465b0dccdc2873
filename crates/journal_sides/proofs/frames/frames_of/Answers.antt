use Rattle.std.proofs.Common.{List, ℕ, length, subst, sym, ap, arith}
use Rattle.pcp_base.specs.declared.records.Record.{Record}
use Rattle.journal_sides.specs.Shut.{AreAppended}
use Rattle.journal_sides.specs.Texts.{AreTexts, records_in}
use Rattle.journal_sides.proofs.HiddenLaws.{texts_some}
use Rattle.journal_sides.proofs.RecordTextLaws.{texts_again, texts_in}
use Rattle.journal_sides.proofs.frames.frames_of.Goals as goal

pub put_appended-requires-clause-some : goal.put_appended-requires-clause-some
put_appended-requires-clause-some c = texts_some c.deref.result.now c.args.batch.now (subst (λ (l : List ℕ). AreTexts l c.args.batch.now) (sym c.deref.ensures.value) c.in_ok-texts.ensures) c.requires.some

pub put_appended-requires-clause-texts : goal.put_appended-requires-clause-texts
put_appended-requires-clause-texts c = texts_again c.deref.result.now c.args.batch.now (subst (λ (l : List ℕ). AreTexts l c.args.batch.now) (sym c.deref.ensures.value) c.in_ok-texts.ensures)

pub returns : goal.returns
returns c =
    let is = subst (λ (l : List ℕ). AreTexts l c.args.batch.now) (sym c.deref.ensures.value) c.in_ok-texts.ensures in
    subst (λ (rs : List Record). AreAppended rs c.put_appended.new.out.items) (texts_in c.deref.result.now c.args.batch.now is) c.in_ok-put_appended.ensures
