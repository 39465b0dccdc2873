use Rattle.std.specs.List.{cons_option, filter_map}
use Rattle.std.proofs.Common.{◌≡◌, ◌∙◌, ◌+◌, ◌++◌, List, [], ◌∷◌, take, ap, sym, append_assoc}
use Rattle.std.proofs.Common.{arith}
use Rattle.std.proofs.lemmas.List.{take_more}
use Rattle.std.proofs.lemmas.List.Elements.{filter_map-append}
use Rattle.pcp_base.specs.declared.records.Record.{Record}
use Rattle.shard_book.specs.declared.batches.Answered.{Answered}
use Rattle.turned_shards.proofs.waiting.await_kept.Goals as goal

pub loop-answered-preserved : goal.loop-answered-preserved
loop-answered-preserved c =
    let i = c.loop-answered.answered-index in
    let xs = c.args.answers.now in
    let x = c.answered-item.result in
    let h = c.loop-answered.invariant in
    let more : filter_map (λ (a : Answered). a.kept) (take (i + 1) xs)
    ≡ filter_map (λ (a : Answered). a.kept) (take i xs) ++ cons_option x.kept [] =
    ap (λ (l : List Answered). filter_map (λ (a : Answered). a.kept) l)
    (take_more xs i x c.loop-answered-test.true
    ∙ ap (λ (y : Answered). take i xs ++ y ∷ []) (sym c.answered-item.is))
    ∙ filter_map-append (λ (a : Answered). a.kept) (take i xs) (x ∷ []) in
    record {
      items = c.await_some.ensures.items
          ∙ ap (λ (l : List Record). l ++ cons_option x.kept []) h.items
          ∙ append_assoc c.args.waiting.now.items
          (filter_map (λ (a : Answered). a.kept) (take i xs)) (cons_option x.kept [])
          ∙ ap (λ (l : List Record). c.args.waiting.now.items ++ l) (sym more);
      capacity = (let p = c.await_some.ensures.capacity in let q = h.capacity in
          omega (arith, p, q));
      len = (let p = c.await_some.ensures.len in let q = h.len in omega (arith, p, q));
    }
