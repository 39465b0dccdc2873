use Rattle.std.proofs.Common.{◌≡◌, Bool, true, false, Ok, sym, ap, subst, refl, ◌∙◌}
use Rattle.pcp_base.specs.Apply.{apply}
use Rattle.pcp_base.specs.Fits.{Fits}
use Rattle.shard_book.proofs.texts.replay_first.Goals as goal

surely : {A : Type 0} (b : Bool) → (b ≡ true → A) → (b ≡ false → ⊥) → A
surely true yes_ no_ = yes_ refl
surely false yes_ no_ = absurd (no_ refl)

pub returns-clause-first : goal.returns-clause-first
returns-clause-first g c r rs is =
    let is0 = c.requires.first.2 in
    let same = (c.read_first-record.ensures.first r rs is).0 in
    let same0 = (c.read_first-record.ensures.first c.requires.first.0 c.requires.first.1 is0).0 in
    let s = g.R.Replay.state c.args.replay.now in (
      surely c.in_ok-_fits._fits
          (λ e. c.admit.ensures.applied (c.in_ok-_fits.was ∙ ap Ok e) ∙ ap (apply s) same)
          (λ e. c.admit.ensures.refused (c.in_ok-_fits.was ∙ ap Ok e) (subst (Fits s) (sym same0) c.requires.first.3)),
      (c.read_first-record.ensures.first r rs is).1,
    )
