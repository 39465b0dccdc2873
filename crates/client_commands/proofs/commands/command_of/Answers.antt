use Rattle.std.proofs.Common.{rules}
use Rattle.std.proofs.lemmas.Result.{IfOk-weaker}
use Rattle.client_commands.proofs.CommandLemmas.{named_announce, named_map, named_peer, not_named}
use Rattle.client_commands.proofs.commands.command_of.Goals as goal

pub returns-then-first_is : goal.returns-then-first_is
returns-then-first_is c = IfOk-weaker c.map_of.result _ _ (λ read h. named_map _ read (search rules) h) c.map_of.ensures

pub returns-then-first_is-2 : goal.returns-then-first_is-2
returns-then-first_is-2 c = IfOk-weaker c.peer_of.result _ _ (λ read h. named_peer _ read (search rules) h) c.peer_of.ensures

pub returns-then-first_is-3 : goal.returns-then-first_is-3
returns-then-first_is-3 c = IfOk-weaker c.announce_of.result _ _ (λ read h. named_announce _ read (search rules) h) c.announce_of.ensures

pub returns : goal.returns
returns c = not_named _ (search rules) (search rules) (search rules)
