use Rattle.std.proofs.Common.{sym, ◌∙◌}
use Rattle.proxy_cascade.proofs.TieFacts.{vacant-local}
use Rattle.proxy_cascade.proofs.asking.answer_new.Goals as goal

pub make_tie-requires-clause-vacant : goal.make_tie-requires-clause-vacant
make_tie-requires-clause-vacant c = vacant-local c.args.ties.now c.args.ask.now.endpoint c.in-Ok.local (sym c.local_for.ensures ∙ c.in-Ok.is)
