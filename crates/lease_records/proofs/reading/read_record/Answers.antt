use Rattle.std.proofs.Common.{◌≡◌, None, refl, sym, subst, arith}
use Rattle.pcp_base.specs.Records.{IsWellFormedRecord}
use Rattle.lease_records.specs.RecordReading.{record_at}
use Rattle.lease_records.proofs.RecordLaws.{read_front, front_taken, read_as, rest_is_shorter, text_read, read_whole}
use Rattle.lease_records.proofs.reading.read_record.Goals as goal

pub returns-in_default-clause-none : goal.returns-in_default-clause-none
returns-in_default-clause-none c = λ r n is.
    let nothing : record_at c.args.octets.now ≡ None = c.in_default.ensures in
    let something = read_front c.args.octets.now n r is in
    cc (nothing, something)

pub returns-then-not-is_well_formed-clause-none : goal.returns-then-not-is_well_formed-clause-none
returns-then-not-is_well_formed-clause-none c = λ r n is.
    let same = read_as c.args.octets.now c.in-Ok.rest.now n r c.in-Ok.record is c.in-Ok.ensures in
    let formed = c.if-not-is_well_formed.ensures.1 (subst IsWellFormedRecord same is.well_formed) in
    cc formed

pub overflow_sub-result : goal.overflow_sub-result
overflow_sub-result c = rest_is_shorter c.args.octets.now c.in-Ok.rest.now c.in-Ok.record (λ i. omega (arith, c.type_inv.octets i)) c.in-Ok.ensures

pub returns-clause-found : goal.returns-clause-found
returns-clause-found c = front_taken c.args.octets.now c.in-Ok.rest.now c.in-Ok.record (λ i. omega (arith, c.type_inv.octets i)) c.in-Ok.ensures (c.if-not-is_well_formed.ensures.0 refl)

pub returns-in_default-clause-again : goal.returns-in_default-clause-again
returns-in_default-clause-again c = λ r text rest is e.
    let nothing : record_at c.args.octets.now ≡ None = c.in_default.ensures in
    let something = text_read c.args.octets.now text rest r is e in
    absurd (cc (nothing, something))

pub returns-then-not-is_well_formed-clause-again : goal.returns-then-not-is_well_formed-clause-again
returns-then-not-is_well_formed-clause-again c = λ r text rest is e.
    let same = read_whole c.args.octets.now text rest c.in-Ok.rest.now r c.in-Ok.record is e c.in-Ok.ensures in
    let formed = c.if-not-is_well_formed.ensures.1 (subst IsWellFormedRecord (sym same.0) is.well_formed) in
    absurd (cc formed)

pub returns-clause-again : goal.returns-clause-again
returns-clause-again c = λ r text rest is e.
    let same = read_whole c.args.octets.now text rest c.in-Ok.rest.now r c.in-Ok.record is e c.in-Ok.ensures in
    cc (same.0, same.1)
