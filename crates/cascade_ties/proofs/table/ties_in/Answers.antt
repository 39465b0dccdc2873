use Rattle.std.proofs.Common.{rules, ◌≡◌, [], ◌∷◌, ◌++◌, List, map, sym, ap, ◌∙◌, append_assoc, append-nil}
use Rattle.cascade_ties.specs.declared.ties.Tie.{Tie}
use Rattle.cascade_ties.specs.declared.ties.Tied.{Tied}
use Rattle.cascade_ties.proofs.table.ties_in.Goals as goal

pub loop-tied-init : goal.loop-tied-init
loop-tied-init c = ap (λ (xs : List Tie). xs ++ map (λ (t : Tied). t.tie) c.into_iter-tied-iterator.result) c.new-list.ensures.items

pub loop-tied-preserved : goal.loop-tied-preserved
loop-tied-preserved c =
    let push : c.push.new.self.items ≡ c.loop-tied.list.items ++ c.in-Some.tied.now.tie ∷ [] = search rules in
    ap (λ (xs : List Tie). xs ++ map (λ (t : Tied). t.tie) c.next.new.self) push
    ∙ append_assoc c.loop-tied.list.items (c.in-Some.tied.now.tie ∷ []) (map (λ (t : Tied). t.tie) c.next.new.self)
    ∙ ap (λ (ts : List Tied). c.loop-tied.list.items ++ map (λ (t : Tied). t.tie) ts) (sym c.in-Some.ensures.steps) ∙ c.loop-tied.invariant

pub returns : goal.returns
returns c =
    sym (append-nil c.loop-tied.list.items) ∙ ap (λ (ts : List Tied). c.loop-tied.list.items ++ map (λ (t : Tied). t.tie) ts) (sym c.in-None.ensures.steps.0)
    ∙ c.loop-tied.invariant ∙ ap (map (λ (t : Tied). t.tie)) (c.into_iter-tied-iterator.ensures.into_iter_gives ∙ c.in_ok-tied-items.ensures.rest)
