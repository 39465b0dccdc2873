use Rattle.std.proofs.Common.{ℕ, ◌+◌, ◌==◌, cond, sym, ap, ◌∙◌}
use Rattle.expiry_wheel.specs.declared.TheConstants.{NEVER}
use Rattle.leased_ports.specs.Frees.{free_at}
use Rattle.leased_ports.proofs.TimedLemmas.{value-near, value-free, value-now}
use Rattle.leased_ports.proofs.timed_ends.TimedEnds.set_value.Goals as goal

pub retell-requires-clause-near : goal.retell-requires-clause-near
retell-requires-clause-near c = value-near c.self.inside.ends c.args.first c.args.value c.set_value.new.self c.set_value.ensures.ok c.requires.near c.self.invariant.near

pub retell-requires-clause-all : goal.retell-requires-clause-all
retell-requires-clause-all c = c.self.invariant.leasts.all

pub retell-requires-clause-free : goal.retell-requires-clause-free
retell-requires-clause-free c =
    c.free_then-free.ensures ∙ ap (λ (before : ℕ). cond (before == NEVER) NEVER (c.args.value.end + 120)) c.free_at-before.ensures
    ∙ sym (value-now c.self.inside.ends c.args.first c.args.value c.set_value.new.self c.set_value.ensures.ok c.self.invariant.near)

pub invariant_of-self : goal.invariant_of-self
invariant_of-self c = record {
  apart = c.set_value.ensures.runs;
  near = value-near c.self.inside.ends c.args.first c.args.value c.set_value.new.self c.set_value.ensures.ok c.requires.near c.self.invariant.near;
  leasts = c.retell.ensures (free_at c.self.inside.ends) c.self.invariant.leasts (sym c.free_at-before.ensures) (value-free c.self.inside.ends c.args.first c.args.value c.set_value.new.self c.set_value.ensures.ok);
}
