use Rattle.std.proofs.Common.{◌≡◌, ℕ, ◌==◌, Option, Some, cond, sym, ap, ◌∙◌, arith}
use Rattle.std.specs.Option.{option_map}
use Rattle.std.specs.FinMap.{get}
use Rattle.std.proofs.lemmas.Result.{on_ok_weaker}
use Rattle.pcp_base.specs.declared.leases.End.{End}
use Rattle.port_spans.specs.Runs.{run_at, with_value}
use Rattle.port_spans.proofs.CutLemmas.{cut_begins, cut_others, cut_told}
use Rattle.leased_ports.proofs.PartLemmas.{part_scheduled, part_begun, part_uses}
use Rattle.leased_ports.specs.Among.{starts_at}
use Rattle.leased_ports.proofs.AmongLemmas.{part-starts}
use Rattle.leased_ports.proofs.PhaseLemmas.{none-due-set}
use Rattle.leased_ports.proofs.steps.part.Goals as goal

pub returns-clause-scheduled : goal.returns-clause-scheduled
returns-clause-scheduled g c =
    let r = c.in-Some.run' in
    let there : run_at c.args.ends.now c.args.at ≡ Some r = sym c.run_at.ensures.run ∙ c.in-Some.is in
    let inner : r.first ≡ c.args.at → ⊥ = λ e. absurd (grind (arith, c.if-run-at.false, e)) in
    on_ok_weaker c.set.result (λ waits. part_scheduled c.args.ends.now c.args.wheel.now c.requires c.args.at r there inner c.cut.new.self c.set_value.new.self c.in_ok-cut.ensures.ok
    (λ at. c.set_value.ensures.ok at ∙ ap (λ (e : End). option_map (with_value c.args.at e) (run_at c.cut.new.self at)) c.end_along-last.ensures)
    c.set_value.ensures.runs c.set.new.wheel (λ id. waits id ∙ ap (λ (o : Option ℕ). cond (id == c.args.at) o (get c.args.wheel.now id)) c.expiry-expiry.ensures)) c.set.ensures

pub returns-clause-begun : goal.returns-clause-begun
returns-clause-begun g c =
    let r = c.in-Some.run' in
    let there : run_at c.args.ends.now c.args.at ≡ Some r = sym c.run_at.ensures.run ∙ c.in-Some.is in
    let inner : r.first ≡ c.args.at → ⊥ = λ e. absurd (grind (arith, c.if-run-at.false, e)) in
    on_ok_weaker c.set.result (λ waits. part_begun c.args.ends.now c.args.wheel.now c.requires c.args.at r there inner c.cut.new.self c.set_value.new.self c.in_ok-cut.ensures.ok
    (λ at. c.set_value.ensures.ok at ∙ ap (λ (e : End). option_map (with_value c.args.at e) (run_at c.cut.new.self at)) c.end_along-last.ensures)
    c.set_value.ensures.runs c.set.new.wheel (λ id. waits id ∙ ap (λ (o : Option ℕ). cond (id == c.args.at) o (get c.args.wheel.now id)) c.expiry-expiry.ensures)) c.set.ensures

pub returns-clause-begins : goal.returns-clause-begins
returns-clause-begins g c =
    let r = c.in-Some.run' in
    let there : run_at c.args.ends.now c.args.at ≡ Some r = sym c.run_at.ensures.run ∙ c.in-Some.is in
    let inner : r.first ≡ c.args.at → ⊥ = λ e. absurd (grind (arith, c.if-run-at.false, e)) in
    on_ok_weaker c.set.result (λ waits. cut_begins c.args.ends.now c.requires.apart c.args.at r there inner c.cut.new.self c.set_value.new.self c.in_ok-cut.ensures.ok
    (λ at. c.set_value.ensures.ok at ∙ ap (λ (e : End). option_map (with_value c.args.at e) (run_at c.cut.new.self at)) c.end_along-last.ensures)) c.set.ensures

pub returns-clause-others : goal.returns-clause-others
returns-clause-others g c =
    let r = c.in-Some.run' in
    let there : run_at c.args.ends.now c.args.at ≡ Some r = sym c.run_at.ensures.run ∙ c.in-Some.is in
    let inner : r.first ≡ c.args.at → ⊥ = λ e. absurd (grind (arith, c.if-run-at.false, e)) in
    on_ok_weaker c.set.result (λ waits. cut_others c.args.ends.now c.requires.apart c.args.at r there inner c.cut.new.self c.set_value.new.self c.in_ok-cut.ensures.ok
    (λ at. c.set_value.ensures.ok at ∙ ap (λ (e : End). option_map (with_value c.args.at e) (run_at c.cut.new.self at)) c.end_along-last.ensures)) c.set.ensures

pub returns-clause-ends : goal.returns-clause-ends
returns-clause-ends g c =
    let r = c.in-Some.run' in
    let there : run_at c.args.ends.now c.args.at ≡ Some r = sym c.run_at.ensures.run ∙ c.in-Some.is in
    let inner : r.first ≡ c.args.at → ⊥ = λ e. absurd (grind (arith, c.if-run-at.false, e)) in
    on_ok_weaker c.set.result (λ waits. cut_told c.args.ends.now c.requires.apart c.args.at r there inner c.cut.new.self c.set_value.new.self c.in_ok-cut.ensures.ok
    (λ at. c.set_value.ensures.ok at ∙ ap (λ (e : End). option_map (with_value c.args.at e) (run_at c.cut.new.self at)) c.end_along-last.ensures)) c.set.ensures

pub returns-clause-uses : goal.returns-clause-uses
returns-clause-uses g c =
    let r = c.in-Some.run' in
    let there : run_at c.args.ends.now c.args.at ≡ Some r = sym c.run_at.ensures.run ∙ c.in-Some.is in
    let inner : r.first ≡ c.args.at → ⊥ = λ e. absurd (grind (arith, c.if-run-at.false, e)) in
    on_ok_weaker c.set.result (λ waits. part_uses c.args.ends.now c.args.wheel.now c.requires c.args.at r there inner c.cut.new.self c.set_value.new.self c.in_ok-cut.ensures.ok
    (λ at. c.set_value.ensures.ok at ∙ ap (λ (e : End). option_map (with_value c.args.at e) (run_at c.cut.new.self at)) c.end_along-last.ensures)
    c.set_value.ensures.runs c.set.new.wheel (λ id. waits id ∙ ap (λ (o : Option ℕ). cond (id == c.args.at) o (get c.args.wheel.now id)) c.expiry-expiry.ensures)) c.set.ensures

pub returns-clause-late : goal.returns-clause-late
returns-clause-late g c =
    let r = c.in-Some.run' in
    on_ok_weaker c.set.result (λ waits seen none. none-due-set seen c.args.wheel.now c.set.new.wheel c.args.at c.expiry-expiry.result waits (λ expiry h. none r.first expiry (sym c.expiry-expiry.ensures ∙ h)) none) c.set.ensures

pub returns-clause-starts : goal.returns-clause-starts
returns-clause-starts g c =
    let last = c.end_along-last.result in
    on_ok_weaker c.set.result (λ waits other apart. ap (starts_at other) (c.set_value.ensures.ok other ∙ ap (option_map (with_value c.args.at last)) (c.in_ok-cut.ensures.ok other))
    ∙ part-starts c.args.at other last (run_at c.args.ends.now other) apart) c.set.ensures
