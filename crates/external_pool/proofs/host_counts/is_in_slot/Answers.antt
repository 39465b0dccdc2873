use Rattle.std.proofs.Common.{◌≡◌, ◌==◌, Bool, false, cond, ap, sym, ◌∙◌}
use Rattle.std.proofs.lemmas.Bool.{ne_eqb}
use Rattle.std.specs.Str.{bytes_eq}
use Rattle.external_pool.specs.declared.host_counts.HostSlot.{HostSlot}
use Rattle.external_pool.specs.HeldCounts.{slot_at, in_others}
use Rattle.external_pool.proofs.host_counts.is_in_slot.Goals as goal

pub returns : goal.returns
returns c =
    let host = c.args.host.now in
    let slot = slot_at c.args.slots.now host in
    let used : (slot.count == 0) ≡ false = ne_eqb slot.count 0 (λ none. c.if-slot-eq0.false (ap (λ (s : HostSlot). s.count) c.slot_at-slot.ensures ∙ none)) in
    c.is.ensures ∙ ap (λ (s : HostSlot). bytes_eq s.host host) c.slot_at-slot.ensures
    ∙ ap (λ (b : Bool). cond b (in_others c.args.others.now.entries host == 0) (bytes_eq slot.host host)) (sym used)
