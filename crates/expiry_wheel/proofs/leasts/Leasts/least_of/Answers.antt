use Rattle.std.proofs.Common.{◌≡◌, ◌+◌, ◌/◌, ◌<◌, List, ℕ, length, sym, ap, ◌∙◌, arith}
use Rattle.expiry_wheel.specs.Moments.{kept_at}
use Rattle.expiry_wheel.specs.Blocks.{row}
use Rattle.expiry_wheel.proofs.LeastLists.{leasts_all, least_node}
use Rattle.expiry_wheel.proofs.leasts.Leasts.least_of.Goals as goal

pub least_of-requires : goal.least_of-requires
least_of-requires c =
    let n = c.self.inside.levels in
    let all = ap length (sym c.self.view_is) ∙ leasts_all n c.self.inside.nodes.items c.self.invariant in
    omega (arith, all, c.requires, c.self.invariant.places, ap length c.deref.ensures.value)

pub returns : goal.returns
returns c =
    let n = c.self.inside.levels in
    let nodes = c.self.inside.nodes.items in
    let half : length nodes / 2 + c.args.block ≡ row n + c.args.block = omega (arith, c.self.invariant.places) in
    c.least_of.ensures ∙ ap (λ (xs : List ℕ). kept_at xs (length xs / 2 + c.args.block)) c.deref.ensures.value
    ∙ ap (kept_at nodes) half ∙ sym (ap (λ (xs : List ℕ). kept_at xs c.args.block) (sym c.self.view_is) ∙ least_node n nodes c.self.invariant c.args.block)
