use Rattle.std.proofs.Common.{map, string_bytes}
use Rattle.relay_words.proofs.AskLemmas.{cascade_by}
use Rattle.relay_words.proofs.asks.cascade_ask_of.Goals as goal

pub returns : goal.returns
returns c =
    cascade_by _ _ (λ o. map string_bytes o.items) c.in_ok-older.field-0 c.in-Some.older c.in_ok-command.command c.in_ok-more.more c.cascade_with.result c.in-Some.is
    c.in_ok-older.ensures (rw c.deref.ensures.value at c.in_ok-command.ensures) c.in_ok-more.ensures c.cascade_with.ensures
