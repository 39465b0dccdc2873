use Rattle.std.proofs.Common.{◌≡◌, ℕ, ◌+◌, ◌-◌, ◌<◌, Bool, cond, Option, Some, None, sym, ap, ◌∙◌, arith}
use Rattle.std.proofs.lemmas.Bool.{lt-ltb, le-ltb}
use Rattle.pcp_base.specs.declared.leases.End.{End}
use Rattle.port_spans.specs.Runs.{run_at}
use Rattle.port_spans.proofs.RunLemmas.{in_from, in_to}
use Rattle.port_spans.specs.Along.{end_along, spot, end_told}
use Rattle.leased_ports.specs.Leased.{while_recent}
use Rattle.leased_ports.specs.Kept.{end_by, IsSet}
use Rattle.leased_ports.proofs.SpotLemmas.{run_of_low}
use Rattle.port_spans.proofs.SpotLemmas.{if-some}
use Rattle.leased_ports.proofs.recent.recent_end.Goals as goal

pub returns-in_default : goal.returns-in_default
returns-in_default c =
    let at = c.spot-at.ensures.value in
    let s = spot c.args.protocol c.args.port in
    let low : c.args.port < 65536 = omega (arith, c.ranges.port.fits) in
    let none : run_at c.args.ends.now s ≡ None = ap (run_at c.args.ends.now) (sym at) ∙ sym c.run_at.ensures.run ∙ c.in_default.is in
    sym (ap (λ (e : Option End). while_recent c.args.m e) (ap (end_told s) (run_of_low c.args.ends.now c.args.protocol c.args.port low ∙ none)))

pub overflow_add-run : goal.overflow_add-run
overflow_add-run c =
    let r = c.in-Some.run' in
    let set = if-some IsSet (run_at c.args.ends.now c.spot-at.result) r (sym c.run_at.ensures.run ∙ c.in-Some.is) (c.requires c.spot-at.result) in
    omega (arith, set.near)

pub returns-then-run-m : goal.returns-then-run-m
returns-then-run-m c =
    let r = c.in-Some.run' in
    let at = c.spot-at.ensures.value in
    let s = spot c.args.protocol c.args.port in
    let low : c.args.port < 65536 = omega (arith, c.ranges.port.fits) in
    let there : run_at c.args.ends.now s ≡ Some r = ap (run_at c.args.ends.now) (sym at) ∙ sym c.run_at.ensures.run ∙ c.in-Some.is in
    let told : end_by c.args.ends.now c.args.protocol c.args.port ≡ Some (end_along (s - r.first) r.value) = ap (end_told s) (run_of_low c.args.ends.now c.args.protocol c.args.port low ∙ there) in
    sym (ap (while_recent c.args.m) told ∙ ap (λ (b : Bool). cond b (Some (end_along (s - r.first) r.value)) None) (le-ltb c.args.m (r.value.end + 120) c.if-run-m.true))

pub end_along-requires-clause-external : goal.end_along-requires-clause-external
end_along-requires-clause-external c =
    let r = c.in-Some.run' in
    let set = if-some IsSet (run_at c.args.ends.now c.spot-at.result) r (sym c.run_at.ensures.run ∙ c.in-Some.is) (c.requires c.spot-at.result) in
    let has = c.in-Some.ensures.whole.has in
    omega (arith, set.within, in_from r.first r.count c.spot-at.result has, in_to r.first r.count c.spot-at.result has)

pub end_along-requires-clause-internal : goal.end_along-requires-clause-internal
end_along-requires-clause-internal c =
    let r = c.in-Some.run' in
    let set = if-some IsSet (run_at c.args.ends.now c.spot-at.result) r (sym c.run_at.ensures.run ∙ c.in-Some.is) (c.requires c.spot-at.result) in
    let has = c.in-Some.ensures.whole.has in
    omega (arith, set.internal, in_from r.first r.count c.spot-at.result has, in_to r.first r.count c.spot-at.result has)

pub returns : goal.returns
returns c =
    let r = c.in-Some.run' in
    let at = c.spot-at.ensures.value in
    let s = spot c.args.protocol c.args.port in
    let low : c.args.port < 65536 = omega (arith, c.ranges.port.fits) in
    let there : run_at c.args.ends.now s ≡ Some r = ap (run_at c.args.ends.now) (sym at) ∙ sym c.run_at.ensures.run ∙ c.in-Some.is in
    let told : end_by c.args.ends.now c.args.protocol c.args.port ≡ Some (end_along (s - r.first) r.value) = ap (end_told s) (run_of_low c.args.ends.now c.args.protocol c.args.port low ∙ there) in
    let late : c.args.m < r.value.end + 120 = grind (arith, c.if-run-m.false) in
    ap Some (c.end_along.ensures ∙ ap (λ (k : ℕ). end_along (k - r.first) r.value) at)
    ∙ sym (ap (while_recent c.args.m) told ∙ ap (λ (b : Bool). cond b (Some (end_along (s - r.first) r.value)) None) (lt-ltb c.args.m (r.value.end + 120) late))
