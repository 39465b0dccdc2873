use Rattle.std.specs.List.{slice_get}
use Rattle.std.proofs.Common.{◌≡◌, ◌∙◌, Some, refl, ap, sym, subst, rules}
use Rattle.std.proofs.lemmas.Option.{get_or_from_slice_get}
use Rattle.pcp_base.specs.declared.datagrams.Entry.{Entry}
use Rattle.turned_shards.specs.declared.marks.Mark.{Mark}
use Rattle.turn_lock.specs.Passes.{PassKnowledge}
use Rattle.shared_house.specs.HouseCalls.{IsPassOf}
use Rattle.shared_house.proofs.houses.House.split.Goals as goal

pub returns-in_default-clause-pass : goal.returns-in_default-clause-pass
returns-in_default-clause-pass g c =
    let old = c.args.pass.now in
    let same : c.split.new.pass ≡ old.history = search rules in
    subst (λ (h : PassKnowledge Entry (Mark g.row.D.Denot)). IsPassOf c.args.self.now (record old { history = h }))
    (sym same) c.requires.pass

pub meet-requires-clause-turn : goal.meet-requires-clause-turn
meet-requires-clause-turn g c =
    let p = c.requires.pass in
    let house = c.args.self.now in
    let shard = c.args.pass.now.shard in
    let turn = c.index-turn.result.now in
    let turns = c.self.inside.turns.items in
    let here : turns ≡ house.turns = ap (λ h. h.turns) c.self.view_is in
    let there : slice_get turns shard ≡ Some p.turn = ap (λ l. slice_get l shard) here ∙ p.there in
    let is : turn ≡ p.turn = c.index-turn.ensures
    ∙ get_or_from_slice_get turns shard p.turn turn there in
    let named : c.args.pass.now.history.turn ≡ turn.id = p.same ∙ ap (λ n. n.id) (sym is) in
    let parts = c.in-Ok.ensures.ok in
    (ap (λ k. k.turn) parts.kept_is ∙ named, ap (λ k. k.turn) parts.new_is ∙ named)

pub returns-in-Ok-split-clause-pass : goal.returns-in-Ok-split-clause-pass
returns-in-Ok-split-clause-pass g c =
    let p = c.requires.pass in
    let h = c.in-Ok.ensures.ok in
    let e = c.in-Ok-split.ensures.ok in
    record {
      turn = p.turn;
      there = p.there;
      same = ap (λ k. k.turn) h.kept_is ∙ p.same;
      home = ap (λ k. k.out) h.kept_is ∙ p.home;
      word = ap (λ k. k.word) e.kept_is ∙ p.word;
    }

pub returns-in-Ok-split-clause-new : goal.returns-in-Ok-split-clause-new
returns-in-Ok-split-clause-new g c =
    let p = c.requires.pass in
    let h = c.in-Ok.ensures.ok in
    let e = c.in-Ok-split.ensures.ok in
    record {
      is = record {
        turn = p.turn;
        there = p.there;
        same = ap (λ k. k.turn) h.new_is ∙ p.same;
        home = ap (λ k. k.out) h.new_is;
        word = ap (λ k. k.word) e.new_is ∙ p.word;
      };
      shard = refl;
      kept_shard = refl;
      history = h;
      epoch = e;
    }

pub returns-in-Err-clause-pass : goal.returns-in-Err-clause-pass
returns-in-Err-clause-pass g c =
    let p = c.requires.pass in
    let h = c.in-Ok.ensures.ok in
    record {
      turn = p.turn;
      there = p.there;
      same = c.meet.ensures.pass.0 ∙ ap (λ k. k.turn) h.kept_is ∙ p.same;
      home = c.meet.ensures.pass.1;
      word = ap (λ k. k.word) c.in-Err.ensures.unchanged ∙ p.word;
    }
