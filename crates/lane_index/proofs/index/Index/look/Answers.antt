use Rattle.std.proofs.Common.{◌≡◌, ℕ, ◌<◌, sym, ap, ◌∙◌, List, slice_index, subst}
use Rattle.lane_index.specs.declared.cells.Cell.{Cell}
use Rattle.lane_index.specs.declared.links.TheConstants.{PORT_SLOTS}
use Rattle.lane_index.specs.Ports.{slot_at}
use Rattle.lane_index.specs.Slots.{takes, stands_in}
use Rattle.lane_index.specs.Openings.{IsClosedTo, NoneOpens}
use Rattle.lane_index.proofs.LinkLemmas.{last-within}
use Rattle.lane_index.proofs.WalkLemmas.{none-opens, none-weaker}
use Rattle.lane_index.proofs.index.Index.look.Goals as goal

pub open_at-requires : goal.open_at-requires
open_at-requires c =
    let slot = slot_at c.args.sender.now.protocol c.args.sender.now.port in
    let inside : slot < PORT_SLOTS = rw (← c.slot_of.ensures.slot) c.slot_of.ensures.inside in
    rw (c.as_slice-cells.ensures.value, c.last_map-last.ensures, c.slot_of.ensures.slot) (last-within (takes slot) c.self.inside.cells.items _ (c.self.invariant.0.links.taken slot inside))

pub open_from-requires : goal.open_from-requires
open_from-requires c = rw (c.as_slice-cells.ensures.value, c.peers.ensures) c.self.invariant.0.links.standing

pub returns-clause-none : goal.returns-clause-none
returns-clause-none c =
    let s = c.args.sender.now in
    let slot = slot_at s.protocol s.port in
    let cells = c.self.inside.cells.items in
    let inside : slot < PORT_SLOTS = rw (← c.slot_of.ensures.slot) c.slot_of.ensures.inside in
    let told : slice_index c.self.inside.links.maps slot ≡ c.last_map-last.result = sym (c.last_map-last.ensures ∙ ap (λ (n : ℕ). slice_index c.self.inside.links.maps n) c.slot_of.ensures.slot) in
    let shut : IsClosedTo c.args.m s (slice_index c.self.inside.links.maps slot) cells = subst (λ (n : ℕ). IsClosedTo c.args.m s n cells) (sym told) (subst (λ (xs : List Cell). IsClosedTo c.args.m s c.last_map-last.result xs) c.as_slice-cells.ensures.value c.in_default.ensures.none) in
    none-weaker c.open_from.result c.open_from.ensures.none (λ none. rw (← c.self.view_is) (
    none-opens c.args.m s cells _ c.self.invariant.0.links.taken inside shut (subst (λ (xs : List Cell). NoneOpens c.args.m s (stands_in slot) xs) c.as_slice-cells.ensures.value none)))
