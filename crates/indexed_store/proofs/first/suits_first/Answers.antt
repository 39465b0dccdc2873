use Rattle.std.proofs.Common.{rules, ◌≡◌, true, IsTrue, ◌↔◌}
use Rattle.std.proofs.lemmas.Result.{IfOk-weaker}
use Rattle.pcp_base.specs.Tables.{live}
use Rattle.pcp_base.specs.Fits.{IsAllowed}
use Rattle.pcp_base.specs.Rooms.{HasRoom, SuitsFirst}
use Rattle.indexed_store.proofs.first.suits_first.Goals as goal

pub returns : goal.returns
returns c =
    let s = c.args.state.now.state in let r = c.args.kept.now in let t = live s.table r.moment in
    let first : c.is_of_first.result ≡ true = search rules in
    let next : c.is_next.result ≡ true = search rules in
    IfOk-weaker c.suits_table.result (λ b. IsTrue b ↔ (IsAllowed t r.change × HasRoom t r.change)) (λ b. IsTrue b ↔ SuitsFirst s r)
    (λ b h. (
      λ told. let p = h.0 told in record { of_first = c.is_of_first.ensures.0 first; table = record { next = c.is_next.ensures.0 next; allowed = p.0; room = p.1 } },
      λ x. h.1 (x.table.allowed, x.table.room),
    )) c.suits_table.ensures
