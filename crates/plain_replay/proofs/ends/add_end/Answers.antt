use Rattle.std.proofs.Common.{◌∙◌, ap, sym, not, Bool}
use Rattle.std.specs.List.{position}
use Rattle.pcp_base.specs.declared.leases.End.{End}
use Rattle.pcp_base.specs.Ends.{is_before}
use Rattle.plain_replay.proofs.EndPlaces.{end_behind, end_before, end_instead, end_held}
use Rattle.plain_replay.proofs.ends.add_end.Goals as goal

pub returns-in_default : goal.returns-in_default
returns-in_default c =
    let test : End → Bool = λ x. not (is_before x c.args.rest) in
    c.in_ok-push.ensures.items ∙ end_behind c.args.rest c.args.ends.now.items (c.in_default.ensures ∙ ap (position test) c.deref.ensures.value)

pub returns-in_ok-insert : goal.returns-in_ok-insert
returns-in_ok-insert c =
    let test : End → Bool = λ x. not (is_before x c.args.rest) in
    c.in_ok-insert.ensures.items ∙ end_before c.args.rest c.args.ends.now.items c.in-Some.place c.index.result.now
    (c.in-Some.ensures ∙ ap (position test) c.deref.ensures.value) c.index.ensures (sym c.stands_before.ensures ∙ c.if-stands_before.true)

pub returns-then-held-rest : goal.returns-then-held-rest
returns-then-held-rest c =
    let test : End → Bool = λ x. not (is_before x c.args.rest) in
    end_instead c.args.rest c.args.ends.now.items c.in-Some.place c.index.result.now
    (c.in-Some.ensures ∙ ap (position test) c.deref.ensures.value) c.index.ensures (sym c.stands_before.ensures ∙ c.if-stands_before.false) c.if-held-rest.true

pub returns-else-held-rest : goal.returns-else-held-rest
returns-else-held-rest c =
    let test : End → Bool = λ x. not (is_before x c.args.rest) in
    end_held c.args.rest c.args.ends.now.items c.in-Some.place c.index.result.now
    (c.in-Some.ensures ∙ ap (position test) c.deref.ensures.value) c.index.ensures (sym c.stands_before.ensures ∙ c.if-stands_before.false) c.if-held-rest.false
