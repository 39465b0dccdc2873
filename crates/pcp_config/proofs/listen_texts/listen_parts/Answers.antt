use Rattle.std.proofs.Common.{inl, inr, refl}
use Rattle.pcp_config.proofs.ListenLemmas.{bare_untold, linked_untold}
use Rattle.pcp_config.proofs.listen_texts.listen_parts.Goals as goal

pub returns-in_err-address-clause-none : goal.returns-in_err-address-clause-none
returns-in_err-address-clause-none c =
    rw c.from_residual.ensures (bare_untold c.args.text.now c.in_default.ensures.none c.in_err-address.ensures.none)

pub returns-in_default-clause-parts : goal.returns-in_default-clause-parts
returns-in_default-clause-parts c = inl (c.in_ok-address.ensures.address, refl)

pub returns-in_err-address-2-clause-none : goal.returns-in_err-address-2-clause-none
returns-in_err-address-2-clause-none c =
    rw c.from_residual-in_err-address-2.ensures
    (linked_untold c.args.text.now c.in-Some.front.now c.in-Some.link.now c.in-Some.ensures.first c.in-Some.ensures.parts c.in_err-address-2.ensures.none)

pub returns-clause-parts : goal.returns-clause-parts
returns-clause-parts c = inr (c.in-Some.front.now, c.in-Some.ensures.parts, c.in_ok-address-2.ensures.address)
