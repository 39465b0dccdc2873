use Rattle.std.proofs.Common.{◌≡◌, ◌∙◌, ap, sym, subst}
use Rattle.std.specs.Prelude.{◌↔◌, IsTrue}
use Rattle.std.proofs.lemmas.Result.{IfOk-weaker}
use Rattle.pcp_base.specs.Tables.{Table, live}
use Rattle.pcp_base.specs.States.{State}
use Rattle.pcp_base.specs.Fits.{IsAllowed}
use Rattle.pcp_base.specs.Rooms.{HasRoom}
use Rattle.pcp_base.specs.Rooms.{SuitsTable}
use Rattle.plain_replay.proofs.replay.PlainReplay.suits_table.Goals as goal

pub returns : goal.returns
returns c =
    let same : c.in_ok-live.live ≡ live c.args.self.now.table c.args.kept.now.moment =
    c.in_ok-live.ensures ∙ ap (λ (s : State). live s.table c.args.kept.now.moment) c.self.view_is in
    let allowed : IsAllowed (live c.args.self.now.table c.args.kept.now.moment) c.args.kept.now.change =
    subst (λ (t : Table). IsAllowed t c.args.kept.now.change) same (c.is_allowed.ensures.0 c.if-not-is_allowed.false) in
    IfOk-weaker c.has_room.result (λ b. IsTrue b ↔ HasRoom c.in_ok-live.live c.args.kept.now.change) (λ b. IsTrue b ↔ SuitsTable c.args.self.now c.args.kept.now)
    (λ b h. (
      λ t. record {
        next = c.is_next.ensures.0 c.if-not-is_next.false;
        allowed = allowed;
        room = subst (λ (t : Table). HasRoom t c.args.kept.now.change) same (h.0 t);
      },
      λ s. h.1 (subst (λ (t : Table). HasRoom t c.args.kept.now.change) (sym same) s.room),
    )) c.has_room.ensures
