use Rattle.std.proofs.Common.{sym, ◌∙◌}
use Rattle.port_spans.proofs.RunLemmas.{told_none, run_told, contains}
use Rattle.port_spans.proofs.steps.run_at.Goals as goal

pub returns-in_default : goal.returns-in_default
returns-in_default g c = sym (told_none c.args.slots.now c.args.runs.now c.requires c.args.place (sym c.key_at.ensures ∙ c.in_default.is))

pub index-requires : goal.index-requires
index-requires g c = contains c.args.slots.now c.args.runs.now c.requires c.args.place c.in-Some.key (sym c.key_at.ensures ∙ c.in-Some.is)

pub returns : goal.returns
returns g c = sym (run_told c.args.slots.now c.args.runs.now c.requires c.args.place c.in-Some.key _ (sym c.key_at.ensures ∙ c.in-Some.is) c.index.ensures)
