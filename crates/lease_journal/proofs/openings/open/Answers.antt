use Rattle.std.proofs.Common.{inl, inr, ◌∙◌, ℕ, List}
use Rattle.std.proofs.lemmas.Result.{IfOk-weaker}
use Rattle.lease_journal.specs.Openings.{FoundMeans}
use Rattle.lease_journal.proofs.OpeningLaws.{found_again, on_ok_always, only_read, opened, same_octets, still_or_shut}
use Rattle.lease_journal.proofs.PrepareLaws.{durable_still}
use Rattle.lease_journal.proofs.openings.open.Goals as goal

pub returns-in_err-verdict-clause-moments : goal.returns-in_err-verdict-clause-moments
returns-in_err-verdict-clause-moments g c = λ told.
    let d = g.D.LeaseDisk in
    let laws = g.met.D.LeaseDisk in
    inr (only_read d.moment d.left_since d.may_leave laws.counts_now laws.only_now c.args.pair.now c.sync_both.new.pair c.judge.new.pair c.sync_both.ensures.moments c.judge.ensures.read)

pub returns-clause-found : goal.returns-clause-found
returns-clause-found g c = λ told.
    let d = g.D.LeaseDisk in
    let pair = c.args.pair.now in
    let synced = c.sync_both.new.pair in
    let judged = c.judge.new.pair in
    let first = c.in_ok-sync_both.ensures.seen told in
    let then_ = c.in_ok-verdict.ensures in
    let still = then_.seen told in
    let found = found_again (d.seen synced.a) (d.seen synced.b) (d.seen judged.a) (d.seen judged.b) (g.R.Replay.state c.judge.new.replay) c.in_ok-verdict.verdict still.a still.b (then_.found told) in
    IfOk-weaker c.start_by.result _ _ (λ o means. same_octets (λ (a b : List ℕ). FoundMeans c.args.m a b (g.R.Replay.state c.start_by.new.replay) o.found) (d.seen pair.a) (d.seen pair.b) (d.seen judged.a) (d.seen judged.b) (still.a ∙ first.a) (still.b ∙ first.b) means) (c.start_by.ensures.found told found)

pub returns-clause-still : goal.returns-clause-still
returns-clause-still g c = λ told.
    let d = g.D.LeaseDisk in
    let laws = g.met.D.LeaseDisk in
    let synced = c.sync_both.new.pair in
    let judged = c.judge.new.pair in
    let first = c.in_ok-sync_both.ensures.seen told in
    let then_ = c.in_ok-verdict.ensures in
    let still = then_.seen told in
    let found = found_again (d.seen synced.a) (d.seen synced.b) (d.seen judged.a) (d.seen judged.b) (g.R.Replay.state c.judge.new.replay) c.in_ok-verdict.verdict still.a still.b (then_.found told) in
    let durable = durable_still d.moment d.left_since d.may_leave laws.counts_now laws.only_now d.seen synced judged c.in_ok-sync_both.ensures.durable then_.read still in
    IfOk-weaker c.start_by.result _ _ (λ o is. still_or_shut d.seen c.args.pair.now judged c.start_by.new.pair o.found (record { a = still.a ∙ first.a; b = still.b ∙ first.b }) is) (c.start_by.ensures.still told durable found)

pub returns-clause-settled : goal.returns-clause-settled
returns-clause-settled g c = λ told.
    let d = g.D.LeaseDisk in
    let laws = g.met.D.LeaseDisk in
    let synced = c.sync_both.new.pair in
    let judged = c.judge.new.pair in
    let then_ = c.in_ok-verdict.ensures in
    let still = then_.seen told in
    let found = found_again (d.seen synced.a) (d.seen synced.b) (d.seen judged.a) (d.seen judged.b) (g.R.Replay.state c.judge.new.replay) c.in_ok-verdict.verdict still.a still.b (then_.found told) in
    c.start_by.ensures.settled told (durable_still d.moment d.left_since d.may_leave laws.counts_now laws.only_now d.seen synced judged c.in_ok-sync_both.ensures.durable then_.read still) found

pub returns-clause-opens : goal.returns-clause-opens
returns-clause-opens g c = λ told.
    let d = g.D.LeaseDisk in
    let laws = g.met.D.LeaseDisk in
    let pair = c.args.pair.now in
    let synced = c.sync_both.new.pair in
    let judged = c.judge.new.pair in
    let first = c.in_ok-sync_both.ensures in
    let then_ = c.in_ok-verdict.ensures in
    let still = then_.seen told in
    let found = found_again (d.seen synced.a) (d.seen synced.b) (d.seen judged.a) (d.seen judged.b) (g.R.Replay.state c.judge.new.replay) c.in_ok-verdict.verdict still.a still.b (then_.found told) in
    let durable = durable_still d.moment d.left_since d.may_leave laws.counts_now laws.only_now d.seen synced judged first.durable then_.read still in
    let is = opened d.moment d.left_since d.may_leave laws.counts_now laws.only_now d.seen c.args.m pair synced judged c.start_by.new.pair (g.R.Replay.state c.judge.new.replay) c.in_ok-verdict.verdict first.moments first.durable (first.seen told) then_.read still (then_.found told)
    (c.start_by.ensures.moments told durable found) in
    on_ok_always c.start_by.result is

pub returns-clause-moments : goal.returns-clause-moments
returns-clause-moments g c = λ told.
    let d = g.D.LeaseDisk in
    let laws = g.met.D.LeaseDisk in
    let pair = c.args.pair.now in
    let synced = c.sync_both.new.pair in
    let judged = c.judge.new.pair in
    let first = c.in_ok-sync_both.ensures in
    let then_ = c.in_ok-verdict.ensures in
    let still = then_.seen told in
    let found = found_again (d.seen synced.a) (d.seen synced.b) (d.seen judged.a) (d.seen judged.b) (g.R.Replay.state c.judge.new.replay) c.in_ok-verdict.verdict still.a still.b (then_.found told) in
    let durable = durable_still d.moment d.left_since d.may_leave laws.counts_now laws.only_now d.seen synced judged first.durable then_.read still in
    inl (opened d.moment d.left_since d.may_leave laws.counts_now laws.only_now d.seen c.args.m pair synced judged c.start_by.new.pair (g.R.Replay.state c.judge.new.replay) c.in_ok-verdict.verdict first.moments first.durable (first.seen told) then_.read still (then_.found told)
    (c.start_by.ensures.moments told durable found))
