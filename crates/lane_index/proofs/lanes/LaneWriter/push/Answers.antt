use Rattle.std.proofs.Common.{rules, ◌≡◌, ◌≤◌, true, [], ◌∷◌, ◌++◌, ap, sym, ◌∙◌, subst, drop, length}
use mathlib.Core.List.{IsPrefix}
use Rattle.pcp_base.specs.Apply.{apply, apply_all}
use Rattle.pcp_base.specs.States.{State}
use Rattle.pcp_base.specs.Sound.{Sound}
use Rattle.pcp_base.specs.declared.records.Record.{Record}
use Rattle.lane_index.specs.Applying.{has_slots}
use Rattle.lane_index.specs.declared.history.HistoryEntry.TheVariants.{Added}
use Rattle.lane_index.specs.Histories.{IndexHistory, HasBeginning}
use Rattle.lane_index.specs.Keeping.{IsBehind}
use Rattle.lane_index.specs.declared.operations.Operation.{Operation}
use Rattle.lane_index.proofs.PublishLemmas.{sound-placed}
use Rattle.lane_index.proofs.OperationLemmas.{is_placed_of}
use Rattle.lane_index.proofs.WriterLemmas.{empty_of, if_some, some_map, some_gives, begins-behind, behind-waits, behind-own, state-of-view, view-more}
use Rattle.lane_index.proofs.lanes.LaneWriter.push.Goals as goal

pub invariant_of-operation : goal.invariant_of-operation
invariant_of-operation c =
    let r = c.args.kept.now in
    record { placed = subst (λ (k : Record). has_slots k.change ≡ true) (sym c.in_ok-pushed.ensures) (is_placed_of r.change (sound-placed (apply_all c.args.self.now.opening (c.args.self.now.published ++ c.args.self.now.pending)) r c.requires.sound)) }

pub invariant_of-operation-in-Some : goal.invariant_of-operation-in-Some
invariant_of-operation-in-Some c =
    let r = c.args.kept.now in
    record { placed = subst (λ (k : Record). has_slots k.change ≡ true) (sym c.in_ok-pushed.ensures) (is_placed_of r.change (sound-placed (apply_all c.args.self.now.opening (c.args.self.now.published ++ c.args.self.now.pending)) r c.requires.sound)) }

pub invariant_of-self-then-not-is_empty : goal.invariant_of-self-then-not-is_empty
invariant_of-self-then-not-is_empty c =
    let h : IndexHistory = c.self.inside.history in let r = c.args.kept.now in
    let fresh : c.extend.new.self ≡ record h { log = h.log ++ Added r ∷ [] } = search rules in
    let facts = some_gives _ (IsPrefix c.self.inside.shown.log h.log × HasBeginning h.log) c.self.inside.writer (λ w b. begins-behind h c.self.inside.shown.log w.desk.shown.value _ b) c.self.invariant.0 c.self.invariant.1 in
    let st = state-of-view h c.self.inside.shown.log c.args.self.now c.self.view_is facts.0 in
    let le = subst (λ (s : State). s.last ≤ r.moment) st c.requires.later in
    let sound = subst (λ (s : State). Sound (apply s r).table) st c.requires.sound in
    rw (c.push_reserved.ensures.items, c.in_ok-reserve.ensures.items) (
      c.self.invariant.0,
      some_map _ _ c.self.inside.writer (λ w b. behind-waits h r c.extend.new.self c.self.inside.shown.log w.desk.shown.value (drop w.behind w.log.items) c.self.inside.waiting.items _ b fresh
          c.in_ok-pushed.ensures (c.seen.ensures.0 ∙ ap (λ (f : IndexHistory). f.index) fresh) (c.seen.ensures.1 ∙ ap (λ (f : IndexHistory). f.log) fresh) (c.len-2.ensures ∙ ap (λ (f : IndexHistory). length f.log) fresh) le sound)
          c.self.invariant.1,
    )

pub invariant_of-self-in_default : goal.invariant_of-self-in_default
invariant_of-self-in_default c =
    let h : IndexHistory = c.self.inside.history in let r = c.args.kept.now in let w = c.in-Some.writer in
    let fresh : c.extend.new.self ≡ record h { log = h.log ++ Added r ∷ [] } = search rules in
    let behind = if_some _ c.self.inside.writer w c.in-Some.is c.self.invariant.1 in
    let facts = begins-behind h c.self.inside.shown.log w.desk.shown.value _ behind in
    let st = state-of-view h c.self.inside.shown.log c.args.self.now c.self.view_is facts.0 in
    let le = subst (λ (s : State). s.last ≤ r.moment) st c.requires.later in
    let sound = subst (λ (s : State). Sound (apply s r).table) st c.requires.sound in
    let still : c.reserve.new.self.items ≡ [] = empty_of c.reserve.new.self.items (search rules) in
    let none : c.self.inside.waiting.items ≡ [] = sym c.in_ok-reserve.ensures.items ∙ still in
    let own = drop w.behind w.log.items in
    rw (c.in_default.ensures.pending, c.append.ensures.desk, still) (
      search rules,
      behind-own h r c.extend.new.self c.self.inside.shown.log w.desk.shown.value own c.self.inside.waiting.items _ behind none fresh
          c.in_ok-pushed.ensures (c.seen.ensures.0 ∙ ap (λ (f : IndexHistory). f.index) fresh) (c.seen.ensures.1 ∙ ap (λ (f : IndexHistory). f.log) fresh) (c.len-2.ensures ∙ ap (λ (f : IndexHistory). length f.log) fresh) le sound,
    )

pub invariant_of-self-in-Err : goal.invariant_of-self-in-Err
invariant_of-self-in-Err c =
    let h : IndexHistory = c.self.inside.history in let r = c.args.kept.now in let w = c.in-Some.writer in
    let fresh : c.extend.new.self ≡ record h { log = h.log ++ Added r ∷ [] } = search rules in
    let behind = if_some _ c.self.inside.writer w c.in-Some.is c.self.invariant.1 in
    let facts = begins-behind h c.self.inside.shown.log w.desk.shown.value _ behind in
    let st = state-of-view h c.self.inside.shown.log c.args.self.now c.self.view_is facts.0 in
    let le = subst (λ (s : State). s.last ≤ r.moment) st c.requires.later in
    let sound = subst (λ (s : State). Sound (apply s r).table) st c.requires.sound in
    let still : c.reserve.new.self.items ≡ [] = empty_of c.reserve.new.self.items (search rules) in
    let none : c.self.inside.waiting.items ≡ [] = sym c.in_ok-reserve.ensures.items ∙ still in
    let own = drop w.behind w.log.items in
    let op : Operation = c.in-Err.operation in let same = c.in-Err.ensures.pending.0 in
    let alone : IsBehind h c.self.inside.shown.log w.desk.shown.value (own ++ []) = subst (λ ws. IsBehind h c.self.inside.shown.log w.desk.shown.value (own ++ ws)) none behind in
    rw (c.in-Err.ensures.pending.1, c.append.ensures.desk, c.push_reserved-in-Err.ensures.items, still) (
      search rules,
      behind-waits h r c.extend.new.self c.self.inside.shown.log w.desk.shown.value own [] op alone fresh
          (ap (λ o. o.pushed.kept) same ∙ c.in_ok-pushed.ensures) (ap (λ o. o.seen.book) same ∙ (c.seen.ensures.0 ∙ ap (λ (f : IndexHistory). f.index) fresh)) (ap (λ o. o.seen.log) same ∙ (c.seen.ensures.1 ∙ ap (λ (f : IndexHistory). f.log) fresh)) (ap (λ o. o.count) same ∙ (c.len-2.ensures ∙ ap (λ (f : IndexHistory). length f.log) fresh)) le sound,
    )

pub returns-then-not-is_empty-clause-pushed : goal.returns-then-not-is_empty-clause-pushed
returns-then-not-is_empty-clause-pushed c =
    let h : IndexHistory = c.self.inside.history in let r = c.args.kept.now in
    let fresh : c.extend.new.self ≡ record h { log = h.log ++ Added r ∷ [] } = search rules in
    let facts = some_gives _ (IsPrefix c.self.inside.shown.log h.log × HasBeginning h.log) c.self.inside.writer (λ w b. begins-behind h c.self.inside.shown.log w.desk.shown.value _ b) c.self.invariant.0 c.self.invariant.1 in
    rw fresh (view-more h r c.self.inside.shown.log c.args.self.now c.self.view_is facts.0 facts.1)

pub returns-in-Err-clause-pushed : goal.returns-in-Err-clause-pushed
returns-in-Err-clause-pushed c =
    let h : IndexHistory = c.self.inside.history in let r = c.args.kept.now in
    let fresh : c.extend.new.self ≡ record h { log = h.log ++ Added r ∷ [] } = search rules in
    let facts = some_gives _ (IsPrefix c.self.inside.shown.log h.log × HasBeginning h.log) c.self.inside.writer (λ w b. begins-behind h c.self.inside.shown.log w.desk.shown.value _ b) c.self.invariant.0 c.self.invariant.1 in
    rw fresh (view-more h r c.self.inside.shown.log c.args.self.now c.self.view_is facts.0 facts.1)

pub returns-in_default-clause-pushed : goal.returns-in_default-clause-pushed
returns-in_default-clause-pushed c =
    let h : IndexHistory = c.self.inside.history in let r = c.args.kept.now in
    let fresh : c.extend.new.self ≡ record h { log = h.log ++ Added r ∷ [] } = search rules in
    let facts = some_gives _ (IsPrefix c.self.inside.shown.log h.log × HasBeginning h.log) c.self.inside.writer (λ w b. begins-behind h c.self.inside.shown.log w.desk.shown.value _ b) c.self.invariant.0 c.self.invariant.1 in
    rw fresh (view-more h r c.self.inside.shown.log c.args.self.now c.self.view_is facts.0 facts.1)
