use Rattle.std.proofs.Common.{◌≡◌, ◌∙◌, Err, [], length, sym, subst, ap, arith}
use Rattle.pcp_base.specs.Apply.{state_of}
use Rattle.pcp_base.specs.Fits.{AllFit}
use Rattle.pcp_base.specs.States.{empty_state}
use Rattle.journal_sides.specs.declared.errors.JournalFault.TheVariants.{Memory}
use Rattle.shard_book.proofs.JournalLemmas.{without}
use Rattle.shard_book.proofs.StateLemmas.{formed_all}
use Rattle.shard_book.proofs.committing.commit.Goals as goal

pub write-requires-clause-formed : goal.write-requires-clause-formed
write-requires-clause-formed g c = formed_all (state_of c.args.texts.now.sure) c.args.records.now c.requires.fit

pub write-requires-clause-snapshot_some : goal.write-requires-clause-snapshot_some
write-requires-clause-snapshot_some g c = λ anew. omega (arith, ap length (c.sure.ensures.records ∙ c.requires.snapshot anew))

pub write-requires-clause-snapshot_fit : goal.write-requires-clause-snapshot_fit
write-requires-clause-snapshot_fit g c = λ anew.
    let s = state_of c.args.texts.now.sure in
    subst (AllFit empty_state) (sym (c.sure.ensures.records ∙ c.requires.snapshot anew)) (c.snapshots_stand.ensures s c.requires.reached c.requires.started).0

pub write-requires-clause-known : goal.write-requires-clause-known
write-requires-clause-known g c = λ told.
    let s = state_of c.args.texts.now.sure in
    record {
      known = s;
      settled = c.requires.writable.settled told;
      fit = c.requires.fit;
      same = λ anew. ap state_of (c.sure.ensures.records ∙ c.requires.snapshot anew) ∙ (c.snapshots_stand.ensures s c.requires.reached c.requires.started).1;
    }

pub returns-in-Ok-clause-moments : goal.returns-in-Ok-clause-moments
returns-in-Ok-clause-moments g c = λ told. c.write.ensures.moments told (state_of c.args.texts.now.sure) (c.requires.writable.settled told)

pub returns-in-Ok-clause-grown : goal.returns-in-Ok-clause-grown
returns-in-Ok-clause-grown g c = λ told none. c.in-Ok.ensures.grown told (state_of c.args.texts.now.sure) (c.requires.writable.settled told) none

pub returns-in-Ok-clause-short : goal.returns-in-Ok-clause-short
returns-in-Ok-clause-short g c = λ told some. c.in-Ok.ensures.short told (state_of c.args.texts.now.sure) (c.requires.writable.settled told) some

pub returns-in-Err-Memory-clause-moments : goal.returns-in-Err-Memory-clause-moments
returns-in-Err-Memory-clause-moments g c = λ told. c.write.ensures.moments told (state_of c.args.texts.now.sure) (c.requires.writable.settled told)

pub returns-in-Err-Memory-clause-refused_moments : goal.returns-in-Err-Memory-clause-refused_moments
returns-in-Err-Memory-clause-refused_moments g c = λ told.
    let d = g.D.LeaseDisk in
    let s = state_of c.args.texts.now.sure in
    let e : c.write.result ≡ Err Memory = cc in
    without d.moment d.left_since d.may_leave c.args.journal.now.pair c.write.new.journal.pair s [] (c.write.ensures.before told s (c.requires.writable.settled told) e)

pub returns-in-Err-Disk-clause-moments : goal.returns-in-Err-Disk-clause-moments
returns-in-Err-Disk-clause-moments g c = λ told. c.write.ensures.moments told (state_of c.args.texts.now.sure) (c.requires.writable.settled told)

pub returns-in-Err-Disk-clause-refused_moments : goal.returns-in-Err-Disk-clause-refused_moments
returns-in-Err-Disk-clause-refused_moments g c = λ told. c.write.ensures.moments told (state_of c.args.texts.now.sure) (c.requires.writable.settled told)
