use Rattle.std.proofs.Common.{◌∙◌, sym}
use Rattle.proxy_core.proofs.VerdictFacts.{asked-head, refused-long}
use Rattle.proxy_cascade.specs.Cascades.{for_itself}
use Rattle.proxy_cascade.proofs.asking.answer_client.Goals as goal

pub refuse-requires : goal.refuse-requires
refuse-requires c = refused-long for_itself c.args.datagram.now.peer c.args.datagram.now.octets c.in-Refuse.refusal (sym c.in-Refuse.is ∙ c.requires.judged)

pub answer_ask-requires-clause-head : goal.answer_ask-requires-clause-head
answer_ask-requires-clause-head c = asked-head for_itself c.args.datagram.now.peer c.args.datagram.now.octets _ c.in-Asked.ask c.in-Asked.items (sym c.in-Asked.is ∙ c.requires.judged)
