use Rattle.std.proofs.Common.{◌≡◌, sym, subst, ◌∙◌, arith}
use Rattle.lease_disk.proofs.PairLemmas.{pair_goes_on}
use Rattle.journal_sides.specs.Journals.{StandsForWithOrWithout}
use Rattle.shard_book.specs.Addresses.{renumbering}
use Rattle.lease_journal.specs.Views.{JournalView}
use Rattle.shard_book.proofs.JournalLemmas.{without}
use Rattle.shard_book.specs.Keepings.{IsBeside}
use Rattle.shard_book.proofs.ReadingRuns.{beside_start, second_unless}
use Rattle.shard_book.proofs.opening.finish.Goals as goal

pub returns-in_err-write_anew-clause-moments : goal.returns-in_err-write_anew-clause-moments
returns-in_err-write_anew-clause-moments g c = λ told.
    let d = g.D.LeaseDisk in
    let s = g.S.LeaseStore.state c.args.core.now in
    without d.moment d.left_since d.may_leave c.args.journal.now.pair c.write_anew.new.journal.pair s (renumbering c.args.m c.args.address.now s) (c.write_anew.ensures.moments told)

pub returns-in_err-name_address-clause-moments : goal.returns-in_err-name_address-clause-moments
returns-in_err-name_address-clause-moments g c = λ told.
    let d = g.D.LeaseDisk in
    let s = g.S.LeaseStore.state c.args.core.now in
    let rs = renumbering c.args.m c.args.address.now s in
    pair_goes_on d.moment d.left_since d.may_leave c.args.journal.now.pair c.write_anew.new.journal.pair c.name_address.new.journal.pair (StandsForWithOrWithout s rs)
    (without d.moment d.left_since d.may_leave c.args.journal.now.pair c.write_anew.new.journal.pair s rs (c.write_anew.ensures.moments told)) (c.name_address.ensures.moments told)

pub returns-in_err-texts-clause-moments : goal.returns-in_err-texts-clause-moments
returns-in_err-texts-clause-moments g c = λ told.
    let d = g.D.LeaseDisk in
    let s = g.S.LeaseStore.state c.args.core.now in
    let rs = renumbering c.args.m c.args.address.now s in
    pair_goes_on d.moment d.left_since d.may_leave c.args.journal.now.pair c.write_anew.new.journal.pair c.name_address.new.journal.pair (StandsForWithOrWithout s rs)
    (without d.moment d.left_since d.may_leave c.args.journal.now.pair c.write_anew.new.journal.pair s rs (c.write_anew.ensures.moments told)) (c.name_address.ensures.moments told)

pub returns-clause-moments : goal.returns-clause-moments
returns-clause-moments g c = λ told.
    let d = g.D.LeaseDisk in
    let s = g.S.LeaseStore.state c.args.core.now in
    let rs = renumbering c.args.m c.args.address.now s in
    pair_goes_on d.moment d.left_since d.may_leave c.args.journal.now.pair c.write_anew.new.journal.pair c.name_address.new.journal.pair (StandsForWithOrWithout s rs)
    (without d.moment d.left_since d.may_leave c.args.journal.now.pair c.write_anew.new.journal.pair s rs (c.write_anew.ensures.moments told)) (c.name_address.ensures.moments told)

pub write_anew-requires-clause-second : goal.write_anew-requires-clause-second
write_anew-requires-clause-second g c =
    let j = c.args.journal.now in
    second_unless c.args.m j.side j.standing (g.S.LeaseStore.state c.args.core.now) c.args.found c.requires.start

pub returns-clause-anew : goal.returns-clause-anew
returns-clause-anew g c = λ is next.
    let one = c.in_ok-write_anew.ensures.anew is next in
    let two = c.in_ok-name_address.ensures.appended in
    record { turned = two.side ∙ one.turned; next = two.generation ∙ one.next }

pub returns-clause-first_length : goal.returns-clause-first_length
returns-clause-first_length g c =
    let first = c.in_ok-write_anew.ensures.first_length in
    let two = c.in_ok-name_address.ensures.appended in
    record {
      alone = λ none. subst (λ (j : JournalView g.row.D.Denot). j.first_length ≡ j.standing.length) (sym (two.idle none)) first;
      most = λ told. omega (arith, first, two.first_length, two.grown told);
    }

pub returns-clause-beside : goal.returns-clause-beside
returns-clause-beside g c = λ told not.
    let d = g.D.LeaseDisk in
    let j = c.args.journal.now in
    let same = c.in_ok-write_anew.ensures.idle not in
    let is = subst (λ (k : JournalView g.row.D.Denot). IsBeside d.seen k c.name_address.new.journal) same (c.in_ok-name_address.ensures.appended.beside told) in
    beside_start d.seen c.args.m (g.S.LeaseStore.state c.args.core.now) c.args.found j c.name_address.new.journal c.requires.start not is
