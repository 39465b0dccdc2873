use Rattle.std.proofs.Common.{ℕ, ◌<◌, length, slice_index_or, ap, ◌∙◌, arith}
use Rattle.std.proofs.lemmas.List.{get_or_default}
use Rattle.external_pool.specs.HeldCounts.{free_slot}
use Rattle.external_pool.proofs.host_counts.slot_at.Goals as goal

pub returns : goal.returns
returns c =
    let slots = c.args.slots.now in
    let within : c.slot.result < length slots = omega (arith, c.slot.ensures.below, c.requires) in
    c.index-slots-slot.is ∙ get_or_default slots c.slot.result c.index-slots-slot.result free_slot within ∙ ap (λ (i : ℕ). slice_index_or slots i free_slot) c.slot.ensures.slot
