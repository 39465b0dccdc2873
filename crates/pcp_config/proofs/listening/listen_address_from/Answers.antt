use Rattle.std.proofs.Common.{ℕ, List, ◌∙◌, subst, sym}
use Rattle.pcp_config.specs.ConfigTables.{IsListenText}
use Rattle.pcp_config.proofs.listening.listen_address_from.Goals as goal

pub returns-clause-address : goal.returns-clause-address
returns-clause-address c =
    subst (λ (link : List ℕ). IsListenText c.args.text.now (record { address = c.in-Some.address; link = link })) (sym (c.of.ensures ∙ c.in_ok-link.ensures.items))
    c.in-Some.ensures.parts

pub returns-in_default-clause-refused : goal.returns-in_default-clause-refused
returns-in_default-clause-refused c = λ _. c.in_default.ensures.none
