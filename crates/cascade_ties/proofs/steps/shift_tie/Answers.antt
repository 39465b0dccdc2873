use Rattle.std.proofs.Common.{sym, ap, ◌∙◌, subst}
use Rattle.std.specs.Ordering.{nat_cmp}
use Rattle.std.specs.BTreeMap.{get}
use Rattle.external_pool.specs.declared.uses.Use.TheVariants.{Free}
use Rattle.external_pool.specs.Calls.{MayRelease}
use Rattle.external_pool.specs.Holdings.{Holdings, IsWhole, with_use}
use Rattle.ordered_index.specs.Orders.{place_cmp}
use Rattle.ordered_index.proofs.Entries.{some_of}
use Rattle.cascade_ties.specs.Kept.{left_use, rest_in}
use Rattle.cascade_ties.proofs.MoveLemmas.{from_stands, held_whole, kept_table, may_be_held_too, may_free_again, may_leave, moved_seen, moved_table, none_gone}
use Rattle.cascade_ties.proofs.StepLemmas.{number_there}
use Rattle.cascade_ties.proofs.steps.shift_tie.Goals as goal

pub returns-in_default-clause-ties : goal.returns-in_default-clause-ties
returns-in_default-clause-ties c = absurd (none_gone c.args.kept.now c.args.pool.now c.args.rests.now c.requires.kept c.args.from c.args.tied c.requires.may
    (ap (get place_cmp c.args.kept.now.keys) (sym c.client_of.ensures) ∙ sym (c.in_default.ensures ∙ c.get.ensures.value)))

pub hold-requires : goal.hold-requires
hold-requires c = may_be_held_too c.args.kept.now c.args.pool.now c.args.rests.now c.requires.kept c.args.from c.args.tied c.requires.may

pub move_from-requires-clause-there : goal.move_from-requires-clause-there
move_from-requires-clause-there c =
    number_there c.args.kept.now c.args.pool.now c.args.rests.now c.requires.kept c.args.tied.tie.client c.in-Some.number
    (ap (get place_cmp c.args.kept.now.keys) (sym c.client_of.ensures) ∙ sym (c.in-Some.ensures ∙ c.get.ensures.value))

pub move_from-requires-clause-port : goal.move_from-requires-clause-port
move_from-requires-clause-port c =
    let number = ap (get place_cmp c.args.kept.now.keys) (sym c.client_of.ensures) ∙ sym (c.in-Some.ensures ∙ c.get.ensures.value) in
    let held = some_of (get nat_cmp c.args.kept.now.leases c.in-Some.number) (number_there c.args.kept.now c.args.pool.now c.args.rests.now c.requires.kept c.args.tied.tie.client c.in-Some.number number) in
    from_stands c.args.kept.now c.args.pool.now c.args.rests.now c.requires.kept c.args.from c.args.tied c.requires.may c.in-Some.number held.0 number held.1

pub release-requires : goal.release-requires
release-requires c =
    subst (λ (p : Holdings). MayRelease p c.args.tied.tie.client.address c.args.tied.tie.client.protocol c.args.tied.tie.local 1) (sym c.in_ok-hold.ensures.ok)
    (may_free_again c.args.kept.now c.args.pool.now c.args.rests.now c.requires.kept c.args.from c.args.tied c.requires.may)

pub leave-requires-clause-may : goal.leave-requires-clause-may
leave-requires-clause-may c =
    subst (λ (p : Holdings). MayRelease p c.args.tied.tie.client.address c.args.tied.tie.client.protocol c.args.from 1) (sym c.in_ok-hold.ensures.ok)
    (may_leave c.args.kept.now c.args.pool.now c.args.rests.now c.requires.kept c.args.from c.args.tied c.requires.may)

pub leave-requires-clause-whole : goal.leave-requires-clause-whole
leave-requires-clause-whole c = subst IsWhole (sym c.in_ok-hold.ensures.ok) (held_whole c.args.kept.now c.args.pool.now c.args.rests.now c.requires.kept c.args.from c.args.tied c.requires.may)

pub returns-in-Err-clause-kept : goal.returns-in-Err-clause-kept
returns-in-Err-clause-kept c =
    kept_table c.args.kept.now c.args.pool.now c.args.rests.now c.requires.kept c.args.from c.args.tied c.requires.may c.move_from.new.kept c.in-Err.ensures.err
    c.release.new.self (c.release.ensures ∙ ap (with_use c.args.tied.tie.client.protocol c.args.tied.tie.local 1 Free) c.in_ok-hold.ensures.ok)

pub returns-clause-kept : goal.returns-clause-kept
returns-clause-kept c =
    let number = ap (get place_cmp c.args.kept.now.keys) (sym c.client_of.ensures) ∙ sym (c.in-Some.ensures ∙ c.get.ensures.value) in
    let held = some_of (get nat_cmp c.args.kept.now.leases c.in-Some.number) (number_there c.args.kept.now c.args.pool.now c.args.rests.now c.requires.kept c.args.tied.tie.client c.in-Some.number number) in
    moved_table c.args.kept.now c.args.pool.now c.args.rests.now c.requires.kept c.args.from c.args.tied c.requires.may c.in-Some.number held.0 number held.1 c.move_from.new.kept c.in_default-move_from.ensures.ok
    c.leave.new.pool (c.leave.ensures ∙ ap (left_use c.args.tied.tie.client.protocol c.args.from (rest_in c.args.rests.now c.args.tied.tie.client.protocol c.args.from)) c.in_ok-hold.ensures.ok)

pub returns-clause-ties : goal.returns-clause-ties
returns-clause-ties c =
    let number = ap (get place_cmp c.args.kept.now.keys) (sym c.client_of.ensures) ∙ sym (c.in-Some.ensures ∙ c.get.ensures.value) in
    let held = some_of (get nat_cmp c.args.kept.now.leases c.in-Some.number) (number_there c.args.kept.now c.args.pool.now c.args.rests.now c.requires.kept c.args.tied.tie.client c.in-Some.number number) in record {
      ok = moved_seen c.args.kept.now c.args.pool.now c.args.rests.now c.requires.kept c.args.from c.args.tied c.requires.may c.in-Some.number held.0 number held.1 c.move_from.new.kept c.in_default-move_from.ensures.ok
          c.leave.new.pool (c.leave.ensures ∙ ap (left_use c.args.tied.tie.client.protocol c.args.from (rest_in c.args.rests.now c.args.tied.tie.client.protocol c.args.from)) c.in_ok-hold.ensures.ok);
      err = tt;
    }
