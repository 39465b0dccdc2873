use Rattle.std.proofs.Common.{◌++◌, ◌∷◌, [], List, sym, ap, ◌∙◌, append-nil}
use Rattle.pcp_base.specs.declared.leases.End.{End}
use Rattle.leased_ports.proofs.ListedLemmas.{listed-nil}
use Rattle.leased_ports.proofs.CopyLemmas.{run_ends, one_more}
use Rattle.leased_ports.proofs.listing.push_ends.Goals as goal

pub loop-i-init : goal.loop-i-init
loop-i-init c =
    let r = c.args.run.now in
    sym (append-nil c.args.all.now.items) ∙ ap (λ (xs : List End). c.args.all.now.items ++ xs) (sym (listed-nil (run_ends r) r.first))

pub loop-i-preserved : goal.loop-i-preserved
loop-i-preserved c =
    c.in_ok-push.ensures.items ∙ ap (λ (xs : List End). xs ++ c.end_along.result ∷ []) c.loop-i.invariant
    ∙ one_more c.args.run.now c.args.all.now.items c.loop-i.i c.end_along.result c.end_along.ensures
