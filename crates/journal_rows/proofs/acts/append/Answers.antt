use Rattle.std.proofs.Common.{◌≡◌, Ok, true, sym, subst, rules}
use Rattle.pcp_base.specs.States.{State}
use Rattle.pcp_base.specs.Fits.{Fits}
use Rattle.lease_journal.proofs.StandingLaws.{stands_for}
use Rattle.journal_rows.proofs.acts.append.Goals as goal

pub admit-requires : goal.admit-requires
admit-requires g c =
    let d = g.D.LeaseDisk in
    let j = c.args.journal.now in
    let a = d.seen j.pair.a in
    let b = d.seen j.pair.b in
    (c.snapshots_take_over.ensures.reached c.args.replay.now a b (stands_for j.side j.standing c.args.replay.now a b c.requires.settled.sides)).0

pub append-requires-clause-fit : goal.append-requires-clause-fit
append-requires-clause-fit g c = λ told s is.
    let d = g.D.LeaseDisk in
    let j = c.args.journal.now in
    let a = d.seen j.pair.a in
    let b = d.seen j.pair.b in
    let same : s ≡ c.args.replay.now = c.one_journal.ensures.state a b s c.args.replay.now (stands_for j.side j.standing s a b is.sides) (stands_for j.side j.standing c.args.replay.now a b c.requires.settled.sides) in
    let fits : c.admit.result ≡ Ok true = search rules in
    (subst (λ (t : State). Fits t c.args.kept.now) (sym same) (c.admit.ensures.fits fits), tt)
