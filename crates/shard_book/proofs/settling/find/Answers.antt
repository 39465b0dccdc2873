use Rattle.std.proofs.Common.{◌≡◌, refl, max, List, sym, subst, ◌∙◌, ap}
use Rattle.pcp_base.specs.declared.records.Record.{Record}
use Rattle.pcp_base.specs.Apply.{apply_all, state_of}
use Rattle.pcp_base.specs.Reached.{IsReached}
use Rattle.pcp_base.specs.Snapshots.{snapshot}
use Rattle.lease_disk.specs.Pairs.{PairLeavesOnly}
use Rattle.journal_sides.specs.Journals.{StandsForWithOrWithout}
use Rattle.lease_journal.specs.Views.{JournalView}
use Rattle.shard_book.specs.KeptTexts.{KeptRecords}
use Rattle.shard_book.specs.Settlings.{IsOneOf, StandsAs}
use Rattle.shard_book.proofs.JudgeLemmas.{expected_standing, map_if_ok, one_found, standing_means}
use Rattle.shard_book.proofs.StateLemmas.{reached_all, started_all}
use Rattle.shard_book.proofs.settling.find.Goals as goal

pub returns-clause-means : goal.returns-clause-means
returns-clause-means g c =
    let sure = c.args.texts.now.sure in
    let added = c.args.texts.now.added in
    let s = state_of sure in
    let t = apply_all s added in
    let found = g.S.LeaseStore.state c.read_again.new.core in
    let state = g.S.LeaseStore.state c.judge.new.core in
    let is_s : IsReached s = c.states_are_sound.ensures.made sure c.requires.fit in
    let w : c.in_ok-expected.expected.without.sure ≡ snapshot s = ap (λ (k : KeptRecords). k.sure) c.in_ok-expected.ensures.without in
    let o : c.in_ok-expected.expected.with.sure ≡ snapshot t = ap (λ (k : KeptRecords). k.sure) c.in_ok-expected.ensures.with in
    let m_is : c.later-m.result ≡ max c.args.now t.last = c.later-m.ensures.value ∙ ap (max c.args.now) c.in_ok-expected.ensures.last in
    map_if_ok c.judge.result _ _ c.judge.ensures.judged (λ outcome stands.
    standing_means c.snapshots_stand.ensures c.args.now c.later-m.result c.args.address.now c.args.fault s t found state outcome.settled outcome.settled.journal refl is_s c.requires.started (reached_all c.states_are_sound.ensures.kept s added is_s c.requires.fit_added) (started_all s added c.requires.started) c.in_ok-found.ensures.reached c.in_ok-found.ensures.started m_is
    (subst (λ (l : List Record). StandsAs c.later-m.result c.args.address.now c.args.fault (snapshot s) l found state outcome.settled outcome.settled.journal) o (subst (λ (l : List Record). StandsAs c.later-m.result c.args.address.now c.args.fault l c.in_ok-expected.expected.with.sure found state outcome.settled outcome.settled.journal) w stands)))

pub returns-clause-expected : goal.returns-clause-expected
returns-clause-expected g c = λ told holds.
    let sure = c.args.texts.now.sure in
    let added = c.args.texts.now.added in
    let s = state_of sure in
    let t = apply_all s added in
    let found = g.S.LeaseStore.state c.read_again.new.core in
    let state = g.S.LeaseStore.state c.judge.new.core in
    let w : c.in_ok-expected.expected.without.sure ≡ snapshot s = ap (λ (k : KeptRecords). k.sure) c.in_ok-expected.ensures.without in
    let o : c.in_ok-expected.expected.with.sure ≡ snapshot t = ap (λ (k : KeptRecords). k.sure) c.in_ok-expected.ensures.with in
    let one : IsOneOf c.args.fault (snapshot s) (snapshot t) (snapshot found) = one_found c.args.fault s found added c.requires.sure (c.in_ok-found.ensures.expected told s added holds) in
    let one_w : IsOneOf c.args.fault c.in_ok-expected.expected.without.sure c.in_ok-expected.expected.with.sure (snapshot found) = subst (λ (l : List Record). IsOneOf c.args.fault c.in_ok-expected.expected.without.sure l (snapshot found)) (sym o) (subst (λ (l : List Record). IsOneOf c.args.fault l (snapshot t) (snapshot found)) (sym w) one) in
    map_if_ok c.judge.result _ _ c.judge.ensures.judged (λ outcome stands.
    expected_standing c.later-m.result c.args.address.now c.args.fault c.in_ok-expected.expected.without.sure c.in_ok-expected.expected.with.sure found state outcome.settled outcome.settled.journal one_w stands)

pub returns-clause-moments : goal.returns-clause-moments
returns-clause-moments g c = λ told holds.
    let d = g.D.LeaseDisk in
    let sure = c.args.texts.now.sure in
    let added = c.args.texts.now.added in
    let s = state_of sure in
    let t = apply_all s added in
    let found = g.S.LeaseStore.state c.read_again.new.core in
    let w : c.in_ok-expected.expected.without.sure ≡ snapshot s = ap (λ (k : KeptRecords). k.sure) c.in_ok-expected.ensures.without in
    let o : c.in_ok-expected.expected.with.sure ≡ snapshot t = ap (λ (k : KeptRecords). k.sure) c.in_ok-expected.ensures.with in
    let one : IsOneOf c.args.fault (snapshot s) (snapshot t) (snapshot found) = one_found c.args.fault s found added c.requires.sure (c.in_ok-found.ensures.expected told s added holds) in
    let one_w : IsOneOf c.args.fault c.in_ok-expected.expected.without.sure c.in_ok-expected.expected.with.sure (snapshot found) = subst (λ (l : List Record). IsOneOf c.args.fault c.in_ok-expected.expected.without.sure l (snapshot found)) (sym o) (subst (λ (l : List Record). IsOneOf c.args.fault l (snapshot t) (snapshot found)) (sym w) one) in
    subst (λ (j : JournalView g.row.D.Denot). PairLeavesOnly d.moment d.left_since d.may_leave c.args.journal.now.pair j.pair (StandsForWithOrWithout s added)) (sym (c.judge.ensures.unchanged one_w)) (c.read_again.ensures.moments told s added holds)
