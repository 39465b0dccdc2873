use Rattle.std.proofs.Common.{rules, sym, ap, arith}
use Rattle.pcp_io.specs.InMemory.{InboxInMemory}
use Rattle.pcp_io.proofs.TakeLemmas.{Takes-next}
use Rattle.pcp_io.proofs.memory_inboxes.MemoryInboxInbox.take.Goals as goal

pub returns-clause-takes : goal.returns-clause-takes
returns-clause-takes c =
    Takes-next c.self.inside.items.items c.args.self.now.left c.self.inside.at c.give-incoming.new.room c.give-incoming.result c.index.result.now
    (ap (λ (s : InboxInMemory). s.left) (sym c.self.view_is))
    (search rules)
    (search rules)
    c.give-incoming.ensures.item
    c.give-incoming.ensures.filled
    (omega (arith, c.requires, c.give-incoming.auto.room))
