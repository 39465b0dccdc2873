use Rattle.std.proofs.Common.{◌≡◌, ◌<◌, None, ap, ◌∙◌, subst, inl, inr, arith}
use Rattle.std.specs.Bool.{OnFalse}
use Rattle.expiry_wheel.proofs.Maps.{same_or_not}
use Rattle.port_spans.specs.Runs.{run_at}
use Rattle.port_spans.proofs.RunLemmas.{in_from, in_to}
use Rattle.index_rows.proofs.spans.are_free.Goals as goal

pub loop-place-init : goal.loop-place-init
loop-place-init c at from before = absurd (omega (arith, from, before))

pub loop-place-preserved : goal.loop-place-preserved
loop-place-preserved c at from before =
    let spans = c.args.spans.now in
    let place = c.loop-place.place in
    let none : run_at spans place ≡ None = subst (λ b. OnFalse b (run_at spans place ≡ None)) c.if-has_value.false c.has_value.ensures in
    elim (same_or_not at place) [
      | inl same ↦ ap (run_at spans) same ∙ none
      | inr other ↦ c.loop-place.invariant at from (let less : at < place = grind (arith, before, other) in less)
    ]

pub returns : goal.returns
returns c at has =
    let r = c.args.run.now in
    let to = in_to r.first r.count at has in
    c.loop-place.invariant at (in_from r.first r.count at has) (omega (arith, to))
