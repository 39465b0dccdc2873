use Rattle.std.proofs.Common.{sym, ap, ◌∙◌}
use Rattle.std.specs.BTreeMap.{get}
use Rattle.ordered_index.specs.Orders.{place_cmp}
use Rattle.cascade_ties.specs.Ties.{Ties}
use Rattle.cascade_ties.proofs.CountLemmas.{counted_out, may_uncount}
use Rattle.cascade_ties.proofs.StepLemmas.{found_at, may_free, none_taken, number_there, taken_seen, taken_table}
use Rattle.cascade_ties.proofs.steps.take_tie.Goals as goal

pub returns-in_default-clause-ties : goal.returns-in_default-clause-ties
returns-in_default-clause-ties c =
    none_taken c.args.kept.now c.args.pool.now c.args.rests.now c.requires.kept c.args.client.now
    (ap (get place_cmp c.args.kept.now.keys) (sym c.place_of.ensures) ∙ sym (c.in_default.ensures ∙ c.get.ensures.value))

pub index-requires : goal.index-requires
index-requires c =
    number_there c.args.kept.now c.args.pool.now c.args.rests.now c.requires.kept c.args.client.now c.in-Some.number
    (ap (get place_cmp c.args.kept.now.keys) (sym c.place_of.ensures) ∙ sym (c.in-Some.ensures ∙ c.get.ensures.value))

pub leave-requires-clause-may : goal.leave-requires-clause-may
leave-requires-clause-may c =
    may_free c.args.kept.now c.args.pool.now c.args.rests.now c.requires.kept c.args.client.now c.in-Some.number c.index.result.now
    (ap (get place_cmp c.args.kept.now.keys) (sym c.place_of.ensures) ∙ sym (c.in-Some.ensures ∙ c.get.ensures.value)) c.index.ensures

pub returns-clause-kept : goal.returns-clause-kept
returns-clause-kept c =
    taken_table c.args.kept.now c.args.pool.now c.args.rests.now c.requires.kept c.args.client.now c.in-Some.number c.index.result.now
    (ap (get place_cmp c.args.kept.now.keys) (sym c.place_of.ensures) ∙ sym (c.in-Some.ensures ∙ c.get.ensures.value)) c.index.ensures
    c.forget.new.kept c.leave.new.pool c.forget.ensures c.leave.ensures

pub returns-clause-ties : goal.returns-clause-ties
returns-clause-ties c =
    taken_seen c.args.kept.now c.args.pool.now c.args.rests.now c.requires.kept c.args.client.now c.in-Some.number c.index.result.now
    (ap (get place_cmp c.args.kept.now.keys) (sym c.place_of.ensures) ∙ sym (c.in-Some.ensures ∙ c.get.ensures.value)) c.index.ensures
    c.forget.new.kept c.leave.new.pool c.forget.ensures c.leave.ensures

pub leave-requires-clause-whole : goal.leave-requires-clause-whole
leave-requires-clause-whole c = c.requires.kept.pool.whole

pub lower-requires : goal.lower-requires
lower-requires c =
    let number = ap (get place_cmp c.args.kept.now.keys) (sym c.place_of.ensures) ∙ sym (c.in-Some.ensures ∙ c.get.ensures.value) in
    may_uncount c.args.counts.now _ c.requires.counted c.requires.kept.ties.differ c.args.client.now c.index.result.now
    (found_at c.args.kept.now c.args.pool.now c.args.rests.now c.requires.kept c.args.client.now c.in-Some.number c.index.result.now number c.index.ensures)

pub returns-clause-counted : goal.returns-clause-counted
returns-clause-counted c =
    let number = ap (get place_cmp c.args.kept.now.keys) (sym c.place_of.ensures) ∙ sym (c.in-Some.ensures ∙ c.get.ensures.value) in
    counted_out c.args.counts.now _ c.requires.counted c.requires.kept.ties.differ c.args.client.now c.index.result.now
    (found_at c.args.kept.now c.args.pool.now c.args.rests.now c.requires.kept c.args.client.now c.in-Some.number c.index.result.now number c.index.ensures)
    c.lower.new.self _ c.lower.ensures
    (ap (λ (z : Ties). z.each) (taken_seen c.args.kept.now c.args.pool.now c.args.rests.now c.requires.kept c.args.client.now c.in-Some.number c.index.result.now number c.index.ensures
    c.forget.new.kept c.leave.new.pool c.forget.ensures c.leave.ensures))
