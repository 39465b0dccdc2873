use Rattle.std.proofs.Common.{inl, inr, sym, ◌∙◌}
use Rattle.pcp_config.proofs.ListenLemmas.{host_untold}
use Rattle.pcp_config.proofs.listen_texts.host_address.Goals as goal

pub returns-in_default-clause-none : goal.returns-in_default-clause-none
returns-in_default-clause-none c = λ a h. c.in_default.ensures.refused a h.0

pub returns-then-is_unspecified-clause-none : goal.returns-then-is_unspecified-clause-none
returns-then-is_unspecified-clause-none c =
    host_untold c.args.text.now c.in-Ok.address c.in-Ok.ensures.only (inl (sym c.is_unspecified.ensures ∙ c.if-is_unspecified.true))

pub returns-then-is_multicast-clause-none : goal.returns-then-is_multicast-clause-none
returns-then-is_multicast-clause-none c =
    host_untold c.args.text.now c.in-Ok.address c.in-Ok.ensures.only (inr (sym c.is_multicast.ensures ∙ c.if-is_multicast.true))
