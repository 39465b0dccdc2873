use Rattle.std.proofs.Common.{◌∙◌}
use Rattle.std.proofs.lemmas.Result.{on_ok_weaker}
use Rattle.lease_disk.proofs.PairLemmas.{pair_goes_on, pair_weaker, quiet_then}
use Rattle.journal_sides.specs.Journals.{StandsFor}
use Rattle.lease_journal.proofs.CompactLaws.{cut_gate, retired_cut, retired_shut, retires_cut, retires_torn}
use Rattle.lease_journal.proofs.OpeningLaws.{on_ok_both}
use Rattle.lease_journal.proofs.PrepareLaws.{shut_written}
use Rattle.lease_journal.proofs.ShutLaws.{cause_on}
use Rattle.lease_journal.proofs.compacting.retire_side.Goals as goal

pub returns-in_err-write_side-clause-moments : goal.returns-in_err-write_side-clause-moments
returns-in_err-write_side-clause-moments g c = λ told standing s is gate.
    let d = g.D.LeaseDisk in
    let pair = c.args.pair.now in
    pair_weaker d.moment d.left_since d.may_leave pair c.write_side.new.pair _ (StandsFor s) (c.write_side.ensures.moments is.durable) (retires_torn c.args.side standing s (d.seen pair.a) (d.seen pair.b) is.sides gate)

pub returns-clause-moments : goal.returns-clause-moments
returns-clause-moments g c = λ told standing s is gate.
    let d = g.D.LeaseDisk in
    let pair = c.args.pair.now in
    let mid = c.write_side.new.pair in
    let new = c.cut_side.new.pair in
    let wrote = c.in_ok-write_side.ensures.written told in
    let stands = retired_shut c.args.side standing s (d.seen pair.a) (d.seen pair.b) is.sides (d.seen mid.a) (d.seen mid.b) wrote in
    let closed = (shut_written c.args.side (d.seen pair.a) (d.seen pair.b) (d.seen mid.a) (d.seen mid.b) wrote).changed in
    let one = pair_weaker d.moment d.left_since d.may_leave pair mid _ (StandsFor s) (c.in_ok-write_side.ensures.moments is.durable) (retires_torn c.args.side standing s (d.seen pair.a) (d.seen pair.b) is.sides gate) in
    let two = pair_weaker d.moment d.left_since d.may_leave mid new _ (StandsFor s) (c.cut_side.ensures.moments (c.in_ok-write_side.ensures.durable is.durable)) (retires_cut c.args.side standing s (d.seen mid.a) (d.seen mid.b) stands closed) in
    pair_goes_on d.moment d.left_since d.may_leave pair mid new (StandsFor s) one two

pub returns-clause-settled : goal.returns-clause-settled
returns-clause-settled g c = λ told standing s is.
    let d = g.D.LeaseDisk in
    let pair = c.args.pair.now in
    let mid = c.write_side.new.pair in
    let new = c.cut_side.new.pair in
    let wrote = c.in_ok-write_side.ensures.written told in
    let stands = retired_shut c.args.side standing s (d.seen pair.a) (d.seen pair.b) is.sides (d.seen mid.a) (d.seen mid.b) wrote in
    let closed = (shut_written c.args.side (d.seen pair.a) (d.seen pair.b) (d.seen mid.a) (d.seen mid.b) wrote).changed in
    on_ok_both c.cut_side.result (λ cut durable. record { sides = retired_cut c.args.side standing s (d.seen mid.a) (d.seen mid.b) stands closed (d.seen new.a) (d.seen new.b) cut; durable = durable }) (c.cut_side.ensures.cut told) (c.cut_side.ensures.durable (c.in_ok-write_side.ensures.durable is.durable))

pub returns-clause-cut : goal.returns-clause-cut
returns-clause-cut g c = λ told.
    let d = g.D.LeaseDisk in
    let pair = c.args.pair.now in
    let mid = c.write_side.new.pair in
    let new = c.cut_side.new.pair in
    on_ok_weaker c.cut_side.result (cut_gate c.args.side (d.seen pair.a) (d.seen pair.b) (d.seen mid.a) (d.seen mid.b) (d.seen new.a) (d.seen new.b) (c.in_ok-write_side.ensures.written told)) (c.cut_side.ensures.cut told)

pub returns-clause-cause : goal.returns-clause-cause
returns-clause-cause g c = cause_on g.D.LeaseDisk.faults c.args.pair.now c.write_side.new.pair c.cut_side.new.pair _ _ c.in_ok-write_side.ensures.cause c.cut_side.ensures.cause

pub returns-clause-quiet : goal.returns-clause-quiet
returns-clause-quiet g c = quiet_then g.D.LeaseDisk.faults c.args.pair.now c.write_side.new.pair c.cut_side.new.pair c.in_ok-write_side.ensures.quiet c.cut_side.result c.cut_side.ensures.quiet

pub returns-clause-beside : goal.returns-clause-beside
returns-clause-beside g c = λ told. on_ok_weaker c.cut_side.result (λ cut. cut.unchanged ∙ (c.in_ok-write_side.ensures.written told).unchanged) (c.cut_side.ensures.cut told)
