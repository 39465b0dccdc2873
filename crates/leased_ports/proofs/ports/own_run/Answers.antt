use Rattle.std.proofs.Common.{◌≡◌, ℕ, Some, None, sym, ap, ◌∙◌, subst, arith}
use Rattle.std.specs.Bool.{OnTrue, OnFalse}
use Rattle.pcp_base.specs.declared.leases.End.{End}
use Rattle.port_spans.specs.declared.runs.Run.{Run}
use Rattle.port_spans.specs.Runs.{run_at}
use Rattle.leased_ports.proofs.AssignLemmas.{own-at}
use Rattle.leased_ports.proofs.ports.own_run.Goals as goal

pub returns-then-same_port-clause-some : goal.returns-then-same_port-clause-some
returns-then-same_port-clause-some c =
    let r = c.in-Some.run' in
    let first : r.first ≡ c.spot_of-from.result = grind (arith, c.if-run-from.false) in
    let count : r.count ≡ c.args.count = grind (arith, c.if-run-count.false) in
    record {
      there = subst (λ (k : ℕ). run_at c.args.ends.now k ≡ Some r) (sym first) (sym c.run_at.ensures.run ∙ c.in-Some.is);
      at_first = first ∙ c.spot_of-from.ensures.value;
      count = count;
      same = subst (λ b. OnTrue b (r.value ≡ record c.args.first.now { end = r.value.end })) c.if-same_port.true c.same_port.ensures.same;
    }

pub returns-in_default-clause-none : goal.returns-in_default-clause-none
returns-in_default-clause-none c r own =
    let no : None ≡ Some r = sym c.in_default.is ∙ c.run_at.ensures.run ∙ own-at c.args.ends.now c.args.first.now c.args.count r own c.spot_of-from.result c.spot_of-from.ensures.value in
    absurd cc

pub returns-then-run-from-clause-none : goal.returns-then-run-from-clause-none
returns-then-run-from-clause-none c r own =
    let both : Some c.in-Some.run' ≡ Some r = sym c.in-Some.is ∙ c.run_at.ensures.run ∙ own-at c.args.ends.now c.args.first.now c.args.count r own c.spot_of-from.result c.spot_of-from.ensures.value in
    let same : c.in-Some.run' ≡ r = cc in
    let first : c.in-Some.run'.first ≡ c.spot_of-from.result = ap (λ (q : Run End). q.first) same ∙ own.at_first ∙ sym c.spot_of-from.ensures.value in
    absurd (grind (arith, c.if-run-from.true, first))

pub returns-then-run-count-clause-none : goal.returns-then-run-count-clause-none
returns-then-run-count-clause-none c r own =
    let both : Some c.in-Some.run' ≡ Some r = sym c.in-Some.is ∙ c.run_at.ensures.run ∙ own-at c.args.ends.now c.args.first.now c.args.count r own c.spot_of-from.result c.spot_of-from.ensures.value in
    let same : c.in-Some.run' ≡ r = cc in
    let count : c.in-Some.run'.count ≡ c.args.count = ap (λ (q : Run End). q.count) same ∙ own.count in
    absurd (grind (arith, c.if-run-count.true, count))

pub returns-clause-none : goal.returns-clause-none
returns-clause-none c r own =
    let both : Some c.in-Some.run' ≡ Some r = sym c.in-Some.is ∙ c.run_at.ensures.run ∙ own-at c.args.ends.now c.args.first.now c.args.count r own c.spot_of-from.result c.spot_of-from.ensures.value in
    let same : c.in-Some.run' ≡ r = cc in
    let value = subst (λ (q : Run End). q.value ≡ record c.args.first.now { end = q.value.end }) (sym same) own.same in
    subst (λ b. OnFalse b (c.in-Some.run'.value ≡ record c.args.first.now { end = c.in-Some.run'.value.end } → ⊥)) c.if-same_port.false c.same_port.ensures.other value
