use Rattle.std.proofs.Common.{◌≡◌, ℕ, ◌+◌, ◌-◌, ◌≤◌, true, cond, List, ap, sym, subst, ◌∙◌, arith}
use Rattle.std.specs.Str.{bytes_eq}
use Rattle.external_pool.specs.declared.host_counts.HostSlot.{HostSlot}
use Rattle.external_pool.specs.HeldCounts.{HeldCounts, held_by, in_slot, in_others, is_in_slot, AreKept}
use Rattle.external_pool.proofs.SlotLemmas.{none_beside, written_kept, lowered_here}
use Rattle.external_pool.proofs.host_counts.HostCounts.lower.Goals as goal

pub invariant_of-self-2 : goal.invariant_of-self-2
invariant_of-self-2 c =
    let slots = c.self.inside.slots.items in let others = c.self.inside.others.entries in let host = c.args.who.now.0 in
    let stands : is_in_slot slots others host ≡ true =
    sym (c.is_in_slot.ensures ∙ ap (λ (xs : List HostSlot). is_in_slot xs others host) c.deref.ensures.value) ∙ c.if-not-is_in_slot.false in
    let count : c.count_in-count.result ≡ in_slot slots host = c.count_in-count.ensures ∙ ap (λ (xs : List HostSlot). in_slot xs host) c.deref-2.ensures.value in
    let fits : c.count_in-count.result - c.args.n ≤ c.self.inside.most = omega (arith, count, c.self.invariant.bound c.args.who.now) in
    subst (λ (xs : List HostSlot). AreKept xs others c.self.inside.most) (sym c.recount.ensures)
    (written_kept slots others host c.self.invariant.places stands (c.count_in-count.result - c.args.n) c.self.inside.most c.self.invariant.bound fits)

pub returns : goal.returns
returns c other =
    let slots = c.self.inside.slots.items in let others = c.self.inside.others.entries in let host = c.args.who.now.0 in
    let stands : is_in_slot slots others host ≡ true =
    sym (c.is_in_slot.ensures ∙ ap (λ (xs : List HostSlot). is_in_slot xs others host) c.deref.ensures.value) ∙ c.if-not-is_in_slot.false in
    let count : c.count_in-count.result ≡ in_slot slots host = c.count_in-count.ensures ∙ ap (λ (xs : List HostSlot). in_slot xs host) c.deref-2.ensures.value in
    let held : c.args.n ≤ in_slot slots host + in_others others host = subst (λ (h : HeldCounts). c.args.n ≤ held_by h c.args.who.now) (sym c.self.view_is) c.requires in
    let enough : c.args.n ≤ in_slot slots host = omega (arith, held, none_beside slots others host c.self.invariant.places stands) in
    ap (λ (xs : List HostSlot). in_slot xs other.0 + in_others others other.0) c.recount.ensures
    ∙ lowered_here slots others host c.self.invariant.places stands (c.count_in-count.result - c.args.n) c.args.n enough (ap (λ (t : ℕ). t - c.args.n) count) other.0
    ∙ ap (λ (h : HeldCounts). held_by h other - cond (bytes_eq host other.0) c.args.n 0) c.self.view_is
