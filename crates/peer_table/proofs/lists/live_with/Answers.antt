use Rattle.std.proofs.Common.{Some, None, cond, sym, ap, ◌∙◌}
use Rattle.ordered_index.specs.Aged.{passing}
use Rattle.peer_table.specs.PeerLists.{is_live_peer}
use Rattle.peer_table.specs.Kept.{live_with}
use Rattle.peer_table.proofs.lists.live_with.Goals as goal

pub returns-in_default : goal.returns-in_default
unfolding live_with
returns-in_default c = ap (passing (is_live_peer c.args.m)) c.in_default.ensures

pub returns-then-is_live : goal.returns-then-is_live
unfolding live_with
returns-then-is_live c =
    ap (λ b. cond b (Some c.in-Some.lease) None) (sym c.if-is_live.true ∙ c.is_live.ensures) ∙ ap (passing (is_live_peer c.args.m)) c.in-Some.ensures

pub returns-else-is_live : goal.returns-else-is_live
unfolding live_with
returns-else-is_live c =
    ap (λ b. cond b (Some c.in-Some.lease) None) (sym c.if-is_live.false ∙ c.is_live.ensures) ∙ ap (passing (is_live_peer c.args.m)) c.in-Some.ensures
