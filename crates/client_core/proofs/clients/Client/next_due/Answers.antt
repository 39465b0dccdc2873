use Rattle.std.proofs.Common.{sym, subst}
use Rattle.client_core.specs.Dues.{TicksFrom}
use Rattle.client_core.proofs.DueLemmas.{ticks-from}
use Rattle.client_core.proofs.clients.Client.next_due.Goals as goal

pub returns-clause-ticks : goal.returns-clause-ticks
returns-clause-ticks c = subst (λ t. TicksFrom t c.args.self.now) (sym c.least_next.ensures) (ticks-from c.args.self.now)
