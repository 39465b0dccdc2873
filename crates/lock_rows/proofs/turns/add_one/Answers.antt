use Rattle.std.proofs.Common.{◌≡◌, ℕ, List, [], ◌∷◌, ◌++◌, length, drop, Bool, MatchBool, refl, ap, ap₂, sym, ◌∙◌, subst}
use Rattle.lock_rows.proofs.Growing.{all_noted, drop_front}
use Rattle.lock_rows.proofs.turns.add_one.Goals as goal
use Rattle.lock_rows.proofs.turns.add_one.Goals.{then-added, else-added}

pub give-requires-clause-value : goal.give-requires-clause-value
give-requires-clause-value g c =
    let took = c.take-held.ensures in
    let lent = c.value.ensures.value in
    let before : List ℕ = c.value.result.now.list.items in
    let after : List ℕ = c.add-added.new.self.list.items in
    let seen : List ℕ = c.take-held.new.pass.seen in
    let same : before ≡ seen = ap (λ n. n.list.items) lent ∙ took.value in
    let Grows : Bool → Type 0 = λ b. MatchBool b (after ≡ before ++ c.args.x ∷ []) (after ≡ before) in
    elim c.if-added.branch [
      | then-added w ↦
          let grown : after ≡ before ++ c.args.x ∷ [] = subst Grows w.if-added.true c.add-added.ensures.list in
          let n : c.add-added.new.self.noted ≡ length before = c.add-added.ensures.noted ∙ all_noted _ before c.value.result.now.order (ap (λ n. drop n.noted n.list.items) lent ∙ took.added) in
          let new : drop c.add-added.new.self.noted after ≡ c.args.x ∷ [] = ap₂ drop n grown ∙ drop_front before (c.args.x ∷ []) in
          let kept : w.note.new.held.list.items ≡ after = w.note.ensures.stands c.args.turn.now.key after c.take-held.new.pass.marks refl in
          let saw : w.note.new.pass.seen ≡ seen ++ drop c.add-added.new.self.noted after = ap (λ p. p.seen) w.note.ensures.pass in
          ap (λ h. h.list.items) w.held-is ∙ (kept ∙ (grown ∙ (ap (λ l. l ++ c.args.x ∷ []) same ∙ (sym (saw ∙ ap (λ l. seen ++ l) new) ∙ sym (ap (λ p. p.seen) w.pass-is)))))
      | else-added w ↦
          let stays : after ≡ before = subst Grows w.if-added.false c.add-added.ensures.list in
          ap (λ h. h.list.items) w.held-is ∙ (stays ∙ (same ∙ sym (ap (λ p. p.seen) w.pass-is)))
    ]
