use Rattle.client_words.proofs.AskLemmas.{ask_only}
use Rattle.client_words.proofs.asks.ask_as.Goals as goal

pub returns : goal.returns
returns c = rw c.ask_with.ensures (ask_only _ _ _ _ _ _ c.in_ok-command.ensures c.in_ok-more.ensures)
