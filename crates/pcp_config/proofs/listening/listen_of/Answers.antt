use Rattle.std.proofs.Common.{Err, sym, ap, arith, length, subst}
use Rattle.pcp_base.specs.Configs.{AreApart}
use Rattle.pcp_base.specs.Tables.{EachTwo}
use Rattle.pcp_config.proofs.ListenLemmas.{listed}
use Rattle.pcp_config.proofs.ValueLemmas.{untrue}
use Rattle.pcp_config.proofs.listening.listen_of.Goals as goal

pub returns-in_err-listen-clause-refused : goal.returns-in_err-listen-clause-refused
returns-in_err-listen-clause-refused c = λ bad xs h.
    let same = (rw bad at c.from_residual.ensures).1 in
    c.in_err-listen.ensures.refused (ap Err (sym same)) xs h.told

pub returns-then-not-is_door_count-clause-refused : goal.returns-then-not-is_door_count-clause-refused
returns-then-not-is_door_count-clause-refused c = λ _ xs h.
    let long = ap length (listed _ c.in_ok-listen.listen.items xs c.in_ok-listen.ensures.listen h) in
    let fits = c.is_door_count.ensures.1 (omega (arith, long, h.some, c.len.ensures), omega (arith, long, h.few, c.len.ensures)) in
    untrue _ fits c.if-not-is_door_count.true

pub returns-then-not-are_apart-clause-refused : goal.returns-then-not-are_apart-clause-refused
returns-then-not-are_apart-clause-refused c = λ _ xs h.
    let same = listed _ c.in_ok-listen.listen.items xs c.in_ok-listen.ensures.listen h in
    untrue _ (c.are_apart.ensures.1 (rw c.deref.ensures.value (subst (EachTwo AreApart) same h.different))) c.if-not-are_apart.true
