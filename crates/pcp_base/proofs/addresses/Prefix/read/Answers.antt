use Rattle.std.proofs.Common.{inl, inr, refl}
use Rattle.pcp_base.proofs.PrefixLemmas.{prefix_only, prefix_refused, number_refused, dotted_beyond, no_front}
use Rattle.pcp_base.proofs.addresses.Prefix.read.Goals as goal

pub returns-in_default-read_number-clause-refused : goal.returns-in_default-read_number-clause-refused
returns-in_default-read_number-clause-refused c =
    number_refused c.args.text.now c.in-Some.front.now c.in-Some.back.now c.in-Some.ensures.first c.in-Some.ensures.parts c.in_default-read_number.ensures.none

pub returns-in-Some-default-clause-only : goal.returns-in-Some-default-clause-only
returns-in-Some-default-clause-only c =
    prefix_only c.args.text.now c.in-Some.front.now c.in-Some.back.now c.in-Some-read_number.bits _ c.in-Some.ensures.first c.in-Some.ensures.parts
    c.in-Some-read_number.ensures.value.0 c.in-Some-read_number.ensures.value.1
    (inl (c.in-Some-default.ensures.text, c.if-bits-le32.true, refl))

pub returns-in-None-Some-clause-only : goal.returns-in-None-Some-clause-only
returns-in-None-Some-clause-only c =
    prefix_only c.args.text.now c.in-Some.front.now c.in-Some.back.now c.in-Some-read_number.bits _ c.in-Some.ensures.first c.in-Some.ensures.parts
    c.in-Some-read_number.ensures.value.0 c.in-Some-read_number.ensures.value.1
    (inr (c.in-None-Some.ensures'.text, c.in-Some-read_number.ensures.value.1, refl))

pub returns-in_default-2-clause-refused : goal.returns-in_default-2-clause-refused
returns-in_default-2-clause-refused c =
    prefix_refused c.args.text.now c.in-Some.front.now c.in-Some.back.now c.in-Some-read_number.bits c.in-Some.ensures.first c.in-Some.ensures.parts
    c.in-Some-read_number.ensures.value.0 c.in-Some-read_number.ensures.value.1
    (dotted_beyond c.in-Some.front.now c.in-Some-read_number.bits c.in-Some-default.address c.in-Some-default.ensures.text c.if-bits-le32.false)

pub returns-in_default-2-2-clause-refused : goal.returns-in_default-2-2-clause-refused
returns-in_default-2-2-clause-refused c =
    prefix_refused c.args.text.now c.in-Some.front.now c.in-Some.back.now c.in-Some-read_number.bits c.in-Some.ensures.first c.in-Some.ensures.parts
    c.in-Some-read_number.ensures.value.0 c.in-Some-read_number.ensures.value.1
    (no_front c.in-Some.front.now c.in-Some-read_number.bits c.in_default-2.ensures.none c.in_default-2.ensures'.none)
