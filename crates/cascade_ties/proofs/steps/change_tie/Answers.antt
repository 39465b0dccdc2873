use Rattle.std.proofs.Common.{sym, ap, ◌∙◌}
use Rattle.std.specs.Ordering.{nat_cmp}
use Rattle.std.specs.BTreeMap.{get}
use Rattle.ordered_index.specs.Orders.{place_cmp}
use Rattle.ordered_index.proofs.Entries.{some_of}
use Rattle.cascade_ties.proofs.StepLemmas.{change_seen, change_table, none_clash, number_there, port_stands}
use Rattle.cascade_ties.proofs.steps.change_tie.Goals as goal

pub returns-in_default-clause-ties : goal.returns-in_default-clause-ties
returns-in_default-clause-ties c = absurd (none_clash c.args.kept.now c.args.pool.now c.args.rests.now c.requires.kept c.args.tied c.requires.may
    (ap (get place_cmp c.args.kept.now.keys) (sym c.client_of.ensures) ∙ sym (c.in_default.ensures ∙ c.get.ensures.value)))

pub replace-requires-clause-there : goal.replace-requires-clause-there
replace-requires-clause-there c =
    number_there c.args.kept.now c.args.pool.now c.args.rests.now c.requires.kept c.args.tied.tie.client c.in-Some.number
    (ap (get place_cmp c.args.kept.now.keys) (sym c.client_of.ensures) ∙ sym (c.in-Some.ensures ∙ c.get.ensures.value))

pub replace-requires-clause-port : goal.replace-requires-clause-port
replace-requires-clause-port c =
    let number = ap (get place_cmp c.args.kept.now.keys) (sym c.client_of.ensures) ∙ sym (c.in-Some.ensures ∙ c.get.ensures.value) in
    let held = some_of (get nat_cmp c.args.kept.now.leases c.in-Some.number) (number_there c.args.kept.now c.args.pool.now c.args.rests.now c.requires.kept c.args.tied.tie.client c.in-Some.number number) in
    port_stands c.args.kept.now c.args.pool.now c.args.rests.now c.requires.kept c.args.tied c.requires.may c.in-Some.number held.0 number held.1

pub returns-clause-kept : goal.returns-clause-kept
returns-clause-kept c =
    let number = ap (get place_cmp c.args.kept.now.keys) (sym c.client_of.ensures) ∙ sym (c.in-Some.ensures ∙ c.get.ensures.value) in
    let held = some_of (get nat_cmp c.args.kept.now.leases c.in-Some.number) (number_there c.args.kept.now c.args.pool.now c.args.rests.now c.requires.kept c.args.tied.tie.client c.in-Some.number number) in
    change_table c.args.kept.now c.args.pool.now c.args.rests.now c.requires.kept c.args.tied c.requires.may c.in-Some.number held.0 number held.1
    c.replace.new.kept c.replace.result c.replace.ensures.ok c.replace.ensures.err

pub returns-clause-ties : goal.returns-clause-ties
returns-clause-ties c =
    let number = ap (get place_cmp c.args.kept.now.keys) (sym c.client_of.ensures) ∙ sym (c.in-Some.ensures ∙ c.get.ensures.value) in
    let held = some_of (get nat_cmp c.args.kept.now.leases c.in-Some.number) (number_there c.args.kept.now c.args.pool.now c.args.rests.now c.requires.kept c.args.tied.tie.client c.in-Some.number number) in
    change_seen c.args.kept.now c.args.pool.now c.args.rests.now c.requires.kept c.args.tied c.requires.may c.in-Some.number held.0 number held.1
    c.replace.new.kept c.replace.result c.replace.ensures.ok c.replace.ensures.err
