use Rattle.lease_disk.proofs.PairLemmas.{pair_goes_on}
use Rattle.journal_sides.specs.Journals.{StandsForWithOrWithout}
use Rattle.shard_book.proofs.OpenLemmas.{found_known, replay_reached}
use Rattle.shard_book.proofs.ReadingRuns.{found_runs, reading_runs}
use Rattle.shard_book.proofs.settling.read_again.Goals as goal

pub use_second-requires-clause-reached : goal.use_second-requires-clause-reached
use_second-requires-clause-reached g c =
    let st = g.S.LeaseStore in
    (replay_reached st.state st.reached st.replaying st.replaying_first st.made st.made_first c.again.new.self.standing.format c.again.new.replay c.in_ok-found.ensures.replaying).0

pub returns-clause-reached : goal.returns-clause-reached
returns-clause-reached g c =
    let st = g.S.LeaseStore in
    (replay_reached st.state st.reached st.replaying st.replaying_first st.made st.made_first c.again.new.self.standing.format c.again.new.replay c.in_ok-found.ensures.replaying).0

pub returns-clause-expected : goal.returns-clause-expected
returns-clause-expected g c = λ told s rs holds.
    let d = g.D.LeaseDisk in
    let laws = g.met.D.LeaseDisk in
    let old = c.args.journal.now.pair in
    let known = holds (d.seen old.a) (d.seen old.b) (laws.seen_now old.a told) (laws.seen_now old.b told) in
    found_known c.one_journal.ensures.state c.one_journal.ensures.alone c.args.m (d.seen old.a) (d.seen old.b) s rs (g.S.LeaseStore.state c.again.new.replay) c.in_ok-found.found known (c.in_ok-found.ensures.found told)

pub returns-in_err-found-clause-moments : goal.returns-in_err-found-clause-moments
returns-in_err-found-clause-moments g c = λ told s rs holds.
    let d = g.D.LeaseDisk in
    let laws = g.met.D.LeaseDisk in
    let old = c.args.journal.now.pair in
    let known = holds (d.seen old.a) (d.seen old.b) (laws.seen_now old.a told) (laws.seen_now old.b told) in
    reading_runs d.seen d.moment d.left_since d.may_leave c.one_journal.ensures.state c.one_journal.ensures.alone c.args.m old c.again.new.self.pair s rs holds known (c.again.ensures.moments told)

pub returns-in_err-use_second-clause-moments : goal.returns-in_err-use_second-clause-moments
returns-in_err-use_second-clause-moments g c = λ told s rs holds.
    let d = g.D.LeaseDisk in
    let laws = g.met.D.LeaseDisk in
    let old = c.args.journal.now.pair in
    let t = g.S.LeaseStore.state c.again.new.replay in
    let known = holds (d.seen old.a) (d.seen old.b) (laws.seen_now old.a told) (laws.seen_now old.b told) in
    let which = found_known c.one_journal.ensures.state c.one_journal.ensures.alone c.args.m (d.seen old.a) (d.seen old.b) s rs t c.in_ok-found.found known (c.in_ok-found.ensures.found told) in
    pair_goes_on d.moment d.left_since d.may_leave old c.again.new.self.pair c.use_second.new.journal.pair (StandsForWithOrWithout s rs)
    (reading_runs d.seen d.moment d.left_since d.may_leave c.one_journal.ensures.state c.one_journal.ensures.alone c.args.m old c.again.new.self.pair s rs holds known (c.again.ensures.moments told))
    (found_runs d.seen d.moment d.left_since d.may_leave c.again.new.self.pair c.use_second.new.journal.pair s t rs which (c.use_second.ensures.moments told))

pub returns-clause-moments : goal.returns-clause-moments
returns-clause-moments g c = λ told s rs holds.
    let d = g.D.LeaseDisk in
    let laws = g.met.D.LeaseDisk in
    let old = c.args.journal.now.pair in
    let t = g.S.LeaseStore.state c.again.new.replay in
    let known = holds (d.seen old.a) (d.seen old.b) (laws.seen_now old.a told) (laws.seen_now old.b told) in
    let which = found_known c.one_journal.ensures.state c.one_journal.ensures.alone c.args.m (d.seen old.a) (d.seen old.b) s rs t c.in_ok-found.found known (c.in_ok-found.ensures.found told) in
    pair_goes_on d.moment d.left_since d.may_leave old c.again.new.self.pair c.use_second.new.journal.pair (StandsForWithOrWithout s rs)
    (reading_runs d.seen d.moment d.left_since d.may_leave c.one_journal.ensures.state c.one_journal.ensures.alone c.args.m old c.again.new.self.pair s rs holds known (c.again.ensures.moments told))
    (found_runs d.seen d.moment d.left_since d.may_leave c.again.new.self.pair c.use_second.new.journal.pair s t rs which (c.use_second.ensures.moments told))
