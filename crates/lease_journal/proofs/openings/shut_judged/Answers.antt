use Rattle.std.proofs.Common.{inr}
use Rattle.std.proofs.lemmas.Result.{on_ok_weaker}
use Rattle.lease_disk.proofs.PairLemmas.{pair_weaker}
use Rattle.lease_journal.specs.Beginnings.{MayShut}
use Rattle.journal_sides.specs.Writes.{ChangesSide, of_side, side_parity}
use Rattle.lease_journal.proofs.PrepareLaws.{judged_gate, open_anew, prepared_torn}
use Rattle.lease_journal.proofs.openings.shut_judged.Goals as goal

pub returns : goal.returns
returns g c =
    let d = g.D.LeaseDisk in
    let pair = c.args.pair.now in
    let new = c.write_side.new.pair in
    record {
      moments = λ told durable judged.
          let gate = judged_gate (side_parity c.args.side) (of_side c.args.side (d.seen pair.a) (d.seen pair.b)) c.args.judged judged c.in_default.not-Closed in
          pair_weaker d.moment d.left_since d.may_leave pair new _ (ChangesSide c.args.side MayShut (d.seen pair.a) (d.seen pair.b)) (c.write_side.ensures.moments durable) (λ x y ch. prepared_torn c.args.side (d.seen pair.a) (d.seen pair.b) x y (inr gate) ch);
      shut = λ told judged.
          let gate = judged_gate (side_parity c.args.side) (of_side c.args.side (d.seen pair.a) (d.seen pair.b)) c.args.judged judged c.in_default.not-Closed in
          on_ok_weaker c.write_side.result (open_anew c.args.side (d.seen pair.a) (d.seen pair.b) (d.seen new.a) (d.seen new.b) gate) (c.write_side.ensures.written told);
      durable = λ told. c.write_side.ensures.durable;
      cause = c.write_side.ensures.cause;
      quiet = c.write_side.ensures.quiet;
    }
