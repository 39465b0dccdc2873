use Rattle.std.proofs.Common.{inl, inr, sym, ◌∙◌}
use Rattle.pcp_config.proofs.ListenLemmas.{link_untold}
use Rattle.pcp_config.proofs.listen_texts.linked_address.Goals as goal

pub returns-in_err-address-clause-none : goal.returns-in_err-address-clause-none
returns-in_err-address-clause-none c = rw c.from_residual.ensures (λ a h. c.in_err-address.ensures.none a h.0)

pub returns-then-not-is_link_local-clause-none : goal.returns-then-not-is_link_local-clause-none
returns-then-not-is_link_local-clause-none c =
    link_untold c.args.text.now c.args.link.now c.in_ok-address.address c.in_ok-address.ensures.address (inl (sym c.is_link_local.ensures ∙ c.if-not-is_link_local.true))

pub returns-then-not-is_link_name-clause-none : goal.returns-then-not-is_link_name-clause-none
returns-then-not-is_link_name-clause-none c =
    link_untold c.args.text.now c.args.link.now c.in_ok-address.address c.in_ok-address.ensures.address (inr (sym c.is_link_name.ensures ∙ c.if-not-is_link_name.true))
