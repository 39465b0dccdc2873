use Rattle.std.proofs.Common.{◌≡◌, ℕ, List, sym, ap, ◌∙◌, arith}
use Rattle.std.proofs.lemmas.List.{get_or_past}
use Rattle.std.specs.FinMap as map
use Rattle.expiry_wheel.specs.declared.TheConstants.{NEVER}
use Rattle.expiry_wheel.specs.Moments.{told, kept_at}
use Rattle.expiry_wheel.proofs.Moments.{get-expiries_by, never_told}
use Rattle.expiry_wheel.proofs.wheel.Wheel.find.Goals as goal

pub returns-then-id-ge-IDS-clause-found : goal.returns-then-id-ge-IDS-clause-found
returns-then-id-ge-IDS-clause-found c =
    let moments = c.self.inside.moments.items in
    let past : kept_at moments c.args.id ≡ NEVER = get_or_past moments c.args.id NEVER (omega (arith, c.self.invariant.ids, c.if-id-ge-IDS.true)) in
    sym (ap (λ m. map.get m c.args.id) (sym c.self.view_is) ∙ get-expiries_by moments c.args.id ∙ ap told past ∙ never_told)

pub returns-clause-found : goal.returns-clause-found
returns-clause-found c =
    let moments = c.self.inside.moments.items in
    let is : c.moment_of.result ≡ kept_at moments c.args.id = c.moment_of.ensures ∙ ap (λ (xs : List ℕ). kept_at xs c.args.id) c.deref.ensures.value in
    c.told.ensures ∙ ap told is ∙ sym (ap (λ m. map.get m c.args.id) (sym c.self.view_is) ∙ get-expiries_by moments c.args.id)
