use Rattle.watch_readings.proofs.ReadingLemmas.{told_as, verdict_reached}
use Rattle.watch_readings.proofs.readings.told_by.Goals as goal

pub verdict_told-requires : goal.verdict_told-requires
verdict_told-requires g c =
    let st = g.S.LeaseStore in
    verdict_reached st.state st.reached st.replaying st.replaying_first st.made st.made_first c.in_ok-verdict.verdict c.judge.new.replay c.in_ok-verdict.ensures.ready

pub returns-clause-told : goal.returns-clause-told
returns-clause-told g c =
    let d = g.D.LeaseDisk in
    let place = c.args.place.now in
    told_as d.tells (d.seen c.args.pair.now.a) (d.seen c.args.pair.now.b) place.external place.shard place.time
    (g.S.LeaseStore.state c.judge.new.replay) c.in_ok-verdict.verdict _ c.in_ok-verdict.ensures.found c.in_ok-verdict_told.ensures
