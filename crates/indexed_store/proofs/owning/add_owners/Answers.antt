use Rattle.std.proofs.Common.{◌++◌, ◌∷◌, [], List, map, arith, sym, ap, ◌∙◌, append_assoc, append-nil}
use Rattle.std.specs.List.{range_with_len}
use Rattle.std.proofs.lemmas.List.FromFn.{map-range_with_len_more}
use Rattle.pcp_base.specs.declared.leases.Owner.{Owner}
use Rattle.pcp_base.specs.Owners.{map_owner}
use Rattle.indexed_store.proofs.owning.add_owners.Goals as goal

pub loop-i-init : goal.loop-i-init
loop-i-init c = sym (append-nil c.args.owners.now.items)

pub loop-i-preserved : goal.loop-i-preserved
loop-i-preserved c =
    let f = map_owner c.args.lease.now in
    c.in_ok-push.ensures.items ∙ ap (λ (xs : List Owner). xs ++ c.owner_at.result ∷ []) c.loop-i.invariant
    ∙ append_assoc c.args.owners.now.items (map f (range_with_len 0 c.loop-i.i)) (c.owner_at.result ∷ [])
    ∙ ap (λ (xs : List Owner). c.args.owners.now.items ++ xs) (ap (λ (x : Owner). map f (range_with_len 0 c.loop-i.i) ++ x ∷ []) c.owner_at.ensures ∙ sym (map-range_with_len_more f 0 c.loop-i.i c.loop-i.i (omega arith)))
