use Rattle.std.proofs.Common.{◌≡◌, ◌∙◌, List, ℕ, length, sym, subst, ap, arith}
use Rattle.pcp_base.specs.States.{empty_state}
use Rattle.pcp_base.specs.Apply.{state_of}
use Rattle.pcp_base.specs.Fits.{AllFit}
use Rattle.pcp_base.specs.Snapshots.{snapshot}
use Rattle.journal_sides.specs.Texts.{AreTexts, records_in}
use Rattle.journal_sides.proofs.RecordTextLaws.{texts_again, texts_in}
use Rattle.journal_sides.proofs.SnapshotLaws.{all_formed}
use Rattle.lease_journal.proofs.StandingLaws.{stands_for}
use Rattle.journal_rows.proofs.acts.compact.Goals as goal

pub texts_of-requires : goal.texts_of-requires
texts_of-requires g c =
    let d = g.D.LeaseDisk in
    let j = c.args.journal.now in
    let now = c.args.replay.now in
    let a = d.seen j.pair.a in
    let b = d.seen j.pair.b in
    let laws = c.snapshots_take_over.ensures.stands now a b (stands_for j.side j.standing now a b c.requires.settled.sides) in
    let same : c.deref.result.now ≡ snapshot now = c.deref.ensures.value ∙ c.in_ok-records.ensures in
    all_formed empty_state c.deref.result.now (subst (AllFit empty_state) (sym same) laws.0)

pub compact-requires-clause-some : goal.compact-requires-clause-some
compact-requires-clause-some g c =
    let is = subst (λ (l : List ℕ). AreTexts l c.deref.result.now) (sym c.deref-2.ensures.value) c.in_ok-texts.ensures in
    let same : records_in c.deref-2.result.now ≡ snapshot c.args.replay.now = texts_in c.deref-2.result.now c.deref.result.now is ∙ c.deref.ensures.value ∙ c.in_ok-records.ensures in
    omega (arith, ap length same)

pub compact-requires-clause-texts : goal.compact-requires-clause-texts
compact-requires-clause-texts g c =
    texts_again c.deref-2.result.now c.deref.result.now (subst (λ (l : List ℕ). AreTexts l c.deref.result.now) (sym c.deref-2.ensures.value) c.in_ok-texts.ensures)

pub compact-requires-clause-fit : goal.compact-requires-clause-fit
compact-requires-clause-fit g c = λ told.
    let d = g.D.LeaseDisk in
    let j = c.args.journal.now in
    let now = c.args.replay.now in
    let a = d.seen j.pair.a in
    let b = d.seen j.pair.b in
    let laws = c.snapshots_take_over.ensures.stands now a b (stands_for j.side j.standing now a b c.requires.settled.sides) in
    let is = subst (λ (l : List ℕ). AreTexts l c.deref.result.now) (sym c.deref-2.ensures.value) c.in_ok-texts.ensures in
    let same : records_in c.deref-2.result.now ≡ snapshot now = texts_in c.deref-2.result.now c.deref.result.now is ∙ c.deref.ensures.value ∙ c.in_ok-records.ensures in
    subst (AllFit empty_state) (sym same) laws.0

pub compact-requires-clause-same : goal.compact-requires-clause-same
compact-requires-clause-same g c = λ told s holds.
    let d = g.D.LeaseDisk in
    let j = c.args.journal.now in
    let now = c.args.replay.now in
    let a = d.seen j.pair.a in
    let b = d.seen j.pair.b in
    let stands = stands_for j.side j.standing now a b c.requires.settled.sides in
    let laws = c.snapshots_take_over.ensures.stands now a b stands in
    let is = subst (λ (l : List ℕ). AreTexts l c.deref.result.now) (sym c.deref-2.ensures.value) c.in_ok-texts.ensures in
    let same : records_in c.deref-2.result.now ≡ snapshot now = texts_in c.deref-2.result.now c.deref.result.now is ∙ c.deref.ensures.value ∙ c.in_ok-records.ensures in
    ap state_of same ∙ laws.1 ∙ c.one_journal.ensures.state a b now s stands (stands_for j.side j.standing s a b holds.sides)

pub returns-clause-settled : goal.returns-clause-settled
returns-clause-settled g c = λ e. c.in-Ok.ensures.settled c.requires.told c.args.replay.now c.requires.settled
