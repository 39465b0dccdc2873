use Rattle.std.proofs.Common.{◌≡◌, ℕ, ◌+◌, ◌≤◌, true, cond, List, ap, sym, subst, ◌∙◌, arith}
use Rattle.std.specs.Str.{bytes_eq}
use Rattle.external_pool.specs.declared.host_counts.HostSlot.{HostSlot}
use Rattle.external_pool.specs.HeldCounts.{HeldCounts, held_by, in_slot, in_others, is_in_slot, AreKept}
use Rattle.external_pool.proofs.SlotLemmas.{written_kept, raised_here}
use Rattle.external_pool.proofs.host_counts.HostCounts.raise.Goals as goal

pub invariant_of-self-2 : goal.invariant_of-self-2
invariant_of-self-2 c =
    let slots = c.self.inside.slots.items in let others = c.self.inside.others.entries in let host = c.args.who.now.0 in
    let stands : is_in_slot slots others host ≡ true =
    sym (c.is_in_slot.ensures ∙ ap (λ (xs : List HostSlot). is_in_slot xs others host) c.deref.ensures.value) ∙ c.if-not-is_in_slot.false in
    let most = c.max-self-inside-2.result in
    let grows : c.self.inside.most ≤ most = omega (arith, c.max-self-inside-2.ensures) in
    let fits : c.count_in.result + c.args.n ≤ most = omega (arith, c.max-self-inside-2.ensures) in
    subst (λ (xs : List HostSlot). AreKept xs others most) (sym c.recount.ensures)
    (written_kept slots others host c.self.invariant.places stands (c.count_in.result + c.args.n) most (λ who. omega (arith, grows, c.self.invariant.bound who)) fits)

pub returns-clause-ok : goal.returns-clause-ok
returns-clause-ok c other =
    let slots = c.self.inside.slots.items in let others = c.self.inside.others.entries in let host = c.args.who.now.0 in
    let stands : is_in_slot slots others host ≡ true =
    sym (c.is_in_slot.ensures ∙ ap (λ (xs : List HostSlot). is_in_slot xs others host) c.deref.ensures.value) ∙ c.if-not-is_in_slot.false in
    let count : c.count_in.result ≡ in_slot slots host = c.count_in.ensures ∙ ap (λ (xs : List HostSlot). in_slot xs host) c.deref-2.ensures.value in
    ap (λ (xs : List HostSlot). in_slot xs other.0 + in_others others other.0) c.recount.ensures
    ∙ raised_here slots others host c.self.invariant.places stands (c.count_in.result + c.args.n) c.args.n (ap (λ (t : ℕ). t + c.args.n) count) other.0
    ∙ ap (λ (h : HeldCounts). held_by h other + cond (bytes_eq host other.0) c.args.n 0) c.self.view_is
