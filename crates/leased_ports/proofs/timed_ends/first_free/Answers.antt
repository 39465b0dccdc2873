use Rattle.std.proofs.Common.{sym, ◌∙◌, arith}
use Rattle.expiry_wheel.proofs.BlockMoments.{none_is}
use Rattle.leased_ports.specs.Frees.{free_at}
use Rattle.leased_ports.proofs.TimedLemmas.{none_when, block_first, block_none}
use Rattle.leased_ports.proofs.timed_ends.first_free.Goals as goal

pub returns-in_default-clause-none : goal.returns-in_default-clause-none
returns-in_default-clause-none g c =
    let own = none_when c.first_in-found.result _ (sym c.is_some.ensures ∙ c.if-is_some.false) c.first_in-found.ensures.none in
    none_is 16384 (free_at c.args.ends.now) c.args.frees.now c.requires.timed.leasts c.args.m c.args.from own c.in_default.ensures.none

pub returns-clause-found : goal.returns-clause-found
returns-clause-found g c =
    let own = none_when c.first_in-found.result _ (sym c.is_some.ensures ∙ c.if-is_some.false) c.first_in-found.ensures.none in
    block_first c.args.ends.now c.args.frees.now c.requires.timed c.args.from c.args.m c.in-Some.later (omega (arith, c.in-Some.ensures.within, c.requires.timed.leasts.all)) c.in-Some.ensures.found own
    c.first_in.result c.first_in.ensures.found c.first_in.ensures.below

pub returns-clause-none : goal.returns-clause-none
returns-clause-none g c =
    block_none c.args.ends.now c.args.frees.now c.requires.timed c.args.from c.args.m c.in-Some.later (omega (arith, c.in-Some.ensures.within, c.requires.timed.leasts.all)) c.in-Some.ensures.found c.requires.sometime
    c.first_in.result _ c.first_in.ensures.none
