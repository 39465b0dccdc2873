use Rattle.std.proofs.Common.{◌≡◌, ◌∙◌, ap, sym, not, filter, Bool, true}
use Rattle.std.proofs.lemmas.Bool.{not_from_false}
use Rattle.pcp_base.specs.declared.leases.End.{End}
use Rattle.pcp_base.specs.Ends.{with_ends, is_owned_by}
use Rattle.plain_replay.proofs.Listing.{last_added}
use Rattle.plain_replay.proofs.ends.add_left.Goals as goal

pub loop-rest-preserved-in-Continue-1 : goal.loop-rest-preserved-in-Continue-1
loop-rest-preserved-in-Continue-1 c =
    let p : End → Bool = λ e. not (is_owned_by c.args.owners.now e) in
    let free : p c.in-Some.rest ≡ true = not_from_false (is_owned_by c.args.owners.now c.in-Some.rest) (sym c.is_end_owned.ensures ∙ c.if-not-is_end_owned.true) in
    ap (with_ends (filter p c.pop.new.self.items)) c.in_ok-add_end.ensures
    ∙ sym (last_added p c.pop.new.self.items c.in-Some.rest c.loop-rest.ends.items free)
    ∙ ap (λ es. with_ends (filter p es) c.loop-rest.ends.items) (sym c.in-Some.ensures.items)
    ∙ c.loop-rest.invariant
