use Rattle.std.proofs.Common.{inl}
use Rattle.pcp_base.proofs.AddressLemmas.{IsAddressText-unique, wide_only, wide_refused}
use Rattle.pcp_base.proofs.addresses.Address.read.Goals as goal

pub returns-in-Some-clause-only : goal.returns-in-Some-clause-only
returns-in-Some-clause-only c = λ b h.
    IsAddressText-unique c.args.text.now b c.in-Some.address h (inl c.in-Some.ensures.text)

pub returns-clause-only : goal.returns-clause-only
returns-clause-only c = wide_only c.args.text.now c.read_wide.result _ c.ok_or.result c.ok_or.ensures.value c.read_wide.ensures.text

pub returns-clause-refused : goal.returns-clause-refused
returns-clause-refused c =
    wide_refused c.args.text.now c.read_wide.result _ c.ok_or.result c.ok_or.ensures.value c.in_default.ensures.none c.read_wide.ensures.none
