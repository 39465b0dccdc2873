use Rattle.std.proofs.Common.{◌≡◌, ◌≢◌, ◌<◌, ℕ, Some, List, slice_get, sym, ap, ◌∙◌, subst}
use Rattle.std.specs.FinMap as map
use Rattle.std.proofs.lemmas.Option.{slice_get_within, get_or_from_slice_get}
use Rattle.expiry_wheel.specs.declared.pair.Pair.{Pair}
use Rattle.expiry_wheel.proofs.Pairs.{present_at, absent_for}
use Rattle.expiry_wheel.proofs.plain.PlainWheel.expiry.Goals as goal

pub returns-in_default : goal.returns-in_default
returns-in_default c =
    let none = subst (λ (d : List Pair). (i : ℕ) (p : Pair) → slice_get d i ≡ Some p → p.id ≢ c.args.id) c.deref.ensures.value c.in_default.ensures.none in
    sym (ap (λ m. map.get m c.args.id) (sym c.self.view_is) ∙ absent_for c.self.inside.pairs.items c.args.id none)

pub index-requires : goal.index-requires
index-requires c = subst (λ n. c.in-Some.i < n) c.deref.ensures.len (slice_get_within c.deref.result.now c.in-Some.i _ c.in-Some.ensures.found.1)

pub returns : goal.returns
returns c =
    let at = subst (λ (d : List Pair). slice_get d c.in-Some.i ≡ Some (record { expiry = c.in-Some.ensures.found.0; id = c.args.id })) c.deref.ensures.value c.in-Some.ensures.found.1 in
    let read : c.index.result.now ≡ record { expiry = c.in-Some.ensures.found.0; id = c.args.id } = c.index.ensures ∙ get_or_from_slice_get c.self.inside.pairs.items c.in-Some.i _ _ at in
    ap (λ (p : Pair). Some p.expiry) read ∙ sym (ap (λ m. map.get m c.args.id) (sym c.self.view_is) ∙ present_at c.self.inside.pairs.items c.in-Some.i _ c.args.id c.self.invariant at)
