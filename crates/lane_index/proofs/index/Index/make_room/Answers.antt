use Rattle.std.proofs.Common.{rules, ◌≡◌, ◌==◌, List, filter, length, sym, ap, ◌∙◌, subst, arith}
use Rattle.std.proofs.lemmas.Bool.{cond-true, eq-eqb}
use Rattle.std.proofs.lemmas.Fn.{filter_same}
use Rattle.pcp_base.proofs.Members.{All-filter}
use Rattle.pcp_base.proofs.TableLemmas.{length-fewer}
use Rattle.lane_index.specs.declared.links.TheConstants.{CELLS}
use Rattle.lane_index.specs.declared.cells.Cell.{Cell}
use Rattle.lane_index.specs.Slots.{is_live, HasSlots}
use Rattle.lane_index.specs.Links.{AreLinks}
use Rattle.lane_index.proofs.index.Index.make_room.Goals as goal

pub link_all-requires-clause-placed : goal.link_all-requires-clause-placed
link_all-requires-clause-placed c =
    let kept : c.retain.new.self.items ≡ filter (is_live c.args.m) c.self.inside.cells.items = filter_same _ _ _ (λ x b f' k. search rules) _ _ c.retain.ensures.filtered in
    rw (c.as_slice.ensures.value, kept) (All-filter HasSlots (is_live c.args.m) c.self.inside.cells.items c.self.invariant.0.placed)

pub invariant_of-self : goal.invariant_of-self
invariant_of-self c =
    let kept : c.retain.new.self.items ≡ filter (is_live c.args.m) c.self.inside.cells.items = filter_same _ _ _ (λ x b f' k. search rules) _ _ c.retain.ensures.filtered in (
      record {
        links = subst (λ (xs : List Cell). AreLinks xs c.link_all.new.links) c.as_slice.ensures.value c.link_all.ensures;
        placed = rw kept (All-filter HasSlots (is_live c.args.m) c.self.inside.cells.items c.self.invariant.0.placed);
        few = (let fewer = length-fewer (is_live c.args.m) c.self.inside.cells.items in omega (arith, ap length kept, fewer, c.self.invariant.0.few));
      },
      rw c.retain.ensures.capacity c.self.invariant.1,
    )

pub returns-then-len-eq-CELLS : goal.returns-then-len-eq-CELLS
returns-then-len-eq-CELLS c =
    let cells = c.self.inside.cells.items in
    let kept : c.retain.new.self.items ≡ filter (is_live c.args.m) cells = filter_same _ _ _ (λ x b f' k. search rules) _ _ c.retain.ensures.filtered in
    let long : length cells ≡ CELLS = search rules in
    rw (← c.self.view_is) (kept ∙ sym (cond-true (length cells == CELLS) (filter (is_live c.args.m) cells) cells (eq-eqb (length cells) CELLS long)))
