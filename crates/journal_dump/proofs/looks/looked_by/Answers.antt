use Rattle.std.proofs.Common.{sym, subst}
use Rattle.journal_dump.specs.Readings.{IsLookedUntil}
use Rattle.journal_dump.proofs.ReplayLemmas.{view_looks, view_reached}
use Rattle.journal_dump.proofs.looks.looked_by.Goals as goal

pub last-last-requires : goal.last-last-requires
last-last-requires g c =
    let st = g.S.LeaseStore in
    view_reached st.state st.reached st.replaying st.replaying_first st.made st.made_first c.in_ok-found.found c.view.new.replay c.in_ok-found.ensures.replaying

pub returns-clause-looked : goal.returns-clause-looked
returns-clause-looked g c = λ told.
    let d = g.D.LeaseDisk in
    let a = d.seen c.args.pair.now.a in
    let b = d.seen c.args.pair.now.b in
    subst (λ last. IsLookedUntil a b c.in_ok-found.found last) (sym c.last-last.ensures.value)
    (view_looks a b (g.S.LeaseStore.state c.view.new.replay) c.in_ok-found.found (c.in_ok-found.ensures.found told))
