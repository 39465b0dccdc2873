use Rattle.std.proofs.Common.{sym, subst}
use Rattle.pcp_base.specs.Reached.{IsReachedFirst}
use Rattle.plain_replay.proofs.replay.PlainReplayReplay.admit_first.Goals as goal

pub returns-in_ok-apply_first-clause-fits : goal.returns-in_ok-apply_first-clause-fits
returns-in_ok-apply_first-clause-fits c = λ _. (c.new_leases_need_room.ensures.fits_first c.args.self.now c.args.kept.now c.requires.reached.sound.table).1 (c.in_ok-fits.ensures.0 c.if-fits.true)

pub returns-in_ok-apply_first-clause-ready : goal.returns-in_ok-apply_first-clause-ready
returns-in_ok-apply_first-clause-ready c =
    subst IsReachedFirst (sym c.in_ok-apply_first.ensures) (c.first_states_are_sound.ensures.kept c.args.self.now c.args.kept.now c.requires ((c.new_leases_need_room.ensures.fits_first c.args.self.now c.args.kept.now c.requires.reached.sound.table).1 (c.in_ok-fits.ensures.0 c.if-fits.true)))

pub returns-else-fits-clause-refused : goal.returns-else-fits-clause-refused
returns-else-fits-clause-refused c = λ _ fits. let suits = c.in_ok-fits.ensures.1 ((c.new_leases_need_room.ensures.fits_first c.args.self.now c.args.kept.now c.requires.reached.sound.table).0 fits) in absurd cc
