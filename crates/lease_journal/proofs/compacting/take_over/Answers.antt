use Rattle.std.proofs.Common.{◌≡◌, ℕ, List, length, sym, subst}
use Rattle.journal_sides.specs.declared.formats.Format.TheVariants.{Second}
use Rattle.journal_sides.specs.declared.walks.Standing.{Standing}
use Rattle.lease_disk.proofs.PairLemmas.{pair_goes_on, pair_weaker}
use Rattle.journal_sides.specs.declared.sides.Side.{Side}
use Rattle.journal_sides.specs.Sides.{IsOpenSide}
use Rattle.journal_sides.specs.Writes.{of_side, other, side_parity}
use Rattle.journal_sides.specs.Journals.{StandsFor}
use Rattle.lease_journal.proofs.CompactLaws.{are_over, begins_over, begun_gate, begun_over}
use Rattle.lease_journal.proofs.compacting.take_over.Goals as goal

pub returns-in_err-size-clause-moments : goal.returns-in_err-size-clause-moments
returns-in_err-size-clause-moments g c = λ told standing s generation is over.
    let d = g.D.LeaseDisk in
    let pair = c.args.pair.now in
    let mid = c.begin_side.new.pair in
    let a = d.seen pair.a in
    let b = d.seen pair.b in
    let are = are_over c.args.side standing s a b is.sides generation c.args.text.now over c.other.result c.other.ensures in
    let begin = c.begin_side.ensures in
    let one = pair_weaker d.moment d.left_since d.may_leave pair mid _ (StandsFor s) (begin.moments told generation over.batches is.durable are over.text) (begins_over c.args.side standing s a b is.sides generation c.args.text.now over c.other.result c.other.ensures) in
    one

pub returns-in_err-retire_side-clause-moments : goal.returns-in_err-retire_side-clause-moments
returns-in_err-retire_side-clause-moments g c = λ told standing s generation is over.
    let d = g.D.LeaseDisk in
    let pair = c.args.pair.now in
    let mid = c.begin_side.new.pair in
    let a = d.seen pair.a in
    let b = d.seen pair.b in
    let are = are_over c.args.side standing s a b is.sides generation c.args.text.now over c.other.result c.other.ensures in
    let begin = c.in_ok-size.ensures in
    let one = pair_weaker d.moment d.left_since d.may_leave pair mid _ (StandsFor s) (begin.moments told generation over.batches is.durable are over.text) (begins_over c.args.side standing s a b is.sides generation c.args.text.now over c.other.result c.other.ensures) in
    let begun = begin.begun told generation over.batches is.durable are over.text in
    let stands = begun_over c.args.side standing s a b is.sides generation c.args.text.now over c.other.result c.other.ensures c.in_ok-size.size (d.seen mid.a) (d.seen mid.b) begun in
    let gate = begun_gate c.args.side standing s a b is.sides generation c.args.text.now over c.other.result c.other.ensures c.in_ok-size.size (d.seen mid.a) (d.seen mid.b) begun in
    let newer : Standing = record { format = Second; generation = generation; end = length c.args.text.now; length = c.in_ok-size.size } in
    let durable = begin.durable told is.durable in
    pair_goes_on d.moment d.left_since d.may_leave pair mid c.retire_side.new.pair (StandsFor s) one (c.retire_side.ensures.moments told newer s (record { sides = stands; durable = durable }) gate)

pub returns-clause-moments : goal.returns-clause-moments
returns-clause-moments g c = λ told standing s generation is over.
    let d = g.D.LeaseDisk in
    let pair = c.args.pair.now in
    let mid = c.begin_side.new.pair in
    let a = d.seen pair.a in
    let b = d.seen pair.b in
    let are = are_over c.args.side standing s a b is.sides generation c.args.text.now over c.other.result c.other.ensures in
    let begin = c.in_ok-size.ensures in
    let one = pair_weaker d.moment d.left_since d.may_leave pair mid _ (StandsFor s) (begin.moments told generation over.batches is.durable are over.text) (begins_over c.args.side standing s a b is.sides generation c.args.text.now over c.other.result c.other.ensures) in
    let begun = begin.begun told generation over.batches is.durable are over.text in
    let stands = begun_over c.args.side standing s a b is.sides generation c.args.text.now over c.other.result c.other.ensures c.in_ok-size.size (d.seen mid.a) (d.seen mid.b) begun in
    let gate = begun_gate c.args.side standing s a b is.sides generation c.args.text.now over c.other.result c.other.ensures c.in_ok-size.size (d.seen mid.a) (d.seen mid.b) begun in
    let newer : Standing = record { format = Second; generation = generation; end = length c.args.text.now; length = c.in_ok-size.size } in
    let durable = begin.durable told is.durable in
    pair_goes_on d.moment d.left_since d.may_leave pair mid c.retire_side.new.pair (StandsFor s) one (c.retire_side.ensures.moments told newer s (record { sides = stands; durable = durable }) gate)

pub returns-clause-settled : goal.returns-clause-settled
returns-clause-settled g c = λ told standing s generation is over.
    let d = g.D.LeaseDisk in
    let pair = c.args.pair.now in
    let mid = c.begin_side.new.pair in
    let a = d.seen pair.a in
    let b = d.seen pair.b in
    let are = are_over c.args.side standing s a b is.sides generation c.args.text.now over c.other.result c.other.ensures in
    let begin = c.in_ok-size.ensures in
    let begun = begin.begun told generation over.batches is.durable are over.text in
    let stands = begun_over c.args.side standing s a b is.sides generation c.args.text.now over c.other.result c.other.ensures c.in_ok-size.size (d.seen mid.a) (d.seen mid.b) begun in
    let newer : Standing = record { format = Second; generation = generation; end = length c.args.text.now; length = c.in_ok-size.size } in
    let durable = begin.durable told is.durable in
    c.in_ok-retire_side.ensures.settled told newer s (record { sides = stands; durable = durable })

pub returns-clause-filled : goal.returns-clause-filled
returns-clause-filled g c = λ told standing s generation is over.
    let d = g.D.LeaseDisk in
    let pair = c.args.pair.now in
    let mid = c.begin_side.new.pair in
    let a = d.seen pair.a in
    let b = d.seen pair.b in
    let are = are_over c.args.side standing s a b is.sides generation c.args.text.now over c.other.result c.other.ensures in
    let begun = c.in_ok-size.ensures.begun told generation over.batches is.durable are over.text in
    let opened = subst (λ (t : Side). IsOpenSide Second (side_parity t) (of_side t (d.seen mid.a) (d.seen mid.b)) generation over.batches) c.other.ensures begun.opened in
    subst (λ (l : List ℕ). IsOpenSide Second (side_parity (other c.args.side)) l generation over.batches) (sym (c.in_ok-retire_side.ensures.beside told)) opened
