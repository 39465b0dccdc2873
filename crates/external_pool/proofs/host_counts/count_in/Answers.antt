use Rattle.std.proofs.Common.{◌≡◌, Bool, true, cond, ap, sym, ◌∙◌}
use Rattle.std.specs.Str.{bytes_eq}
use Rattle.external_pool.specs.declared.host_counts.HostSlot.{HostSlot}
use Rattle.external_pool.specs.HeldCounts.{slot_at}
use Rattle.external_pool.proofs.host_counts.count_in.Goals as goal

pub returns-then-is : goal.returns-then-is
returns-then-is c =
    let host = c.args.host.now in
    let slot = slot_at c.args.slots.now host in
    let mine : bytes_eq slot.host host ≡ true = ap (λ (s : HostSlot). bytes_eq s.host host) (sym c.slot_at-slot.ensures) ∙ sym c.is.ensures ∙ c.if-is.true in
    ap (λ (s : HostSlot). s.count) c.slot_at-slot.ensures ∙ ap (λ (b : Bool). cond b slot.count 0) (sym mine)
