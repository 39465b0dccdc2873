use Rattle.std.proofs.Common.{◌∙◌, ◌++◌, refl, ap, sym, subst}
use mathlib.Core.List.{IsPrefix}
use Rattle.lease_disk.specs.Pairs.{HoldsNow}
use Rattle.journal_sides.specs.Journals.{StandsForWithOrWithout}
use Rattle.lease_histories.specs.Legal.{records_of, state_after}
use Rattle.turned_shards.specs.declared.shards.Shard.{Shard}
use Rattle.turned_shards.specs.Shards.{served_by}
use Rattle.turned_shards.proofs.TurnEnds.{images-of, knows-first}
use Rattle.turned_shards.proofs.turning.end_one.Goals as goal

pub meet-requires : goal.meet-requires
meet-requires g c =
    c.requires.lane ∙ sym c.take-held.ensures.value.indexed.index
    ∙ ap (λ k. k.writer.index) (sym c.keep-shard.ensures)

pub returns-clause-ended : goal.returns-clause-ended
returns-clause-ended g c =
    let d = g.D.LeaseDisk in
    let took = c.take-held.ensures in
    let s = c.take-held.result in
    let o = c.args.turn.key in
    let log = c.take-held.new.pass.seen in
    let more = took.pass.seen in
    let pair = c.close.ensures ∙ ap (λ k. k.book.journal.pair) c.keep-shard.ensures in
    record {
      others = more.0;
      more = took.pass.marks.0;
      shard = refl;
      epoch = refl;
      knows = sym more.1;
      marks = sym took.pass.marks.1;
      mine = took.pass.mine;
      settled = took.pass.settled;
      kept = s;
      stands = took.value;
      pair_is = pair;
      legal = took.value.leads.legal;
      promises = c.legal_histories_keep_promises.ensures (served_by o) o.book.state log took.value.opening took.value.leads.legal;
      images = λ told. subst
          (HoldsNow d.may_leave
          (StandsForWithOrWithout (state_after o.book.state log) (records_of s.doubt))) (sym pair)
          (images-of d.tells d.seen d.moment d.left_since d.may_leave d.faults o s log c.take-held.new.pass.marks took.value told);
    }

pub returns-clause-lane : goal.returns-clause-lane
returns-clause-lane g c =
    let d = g.D.LeaseDisk in
    knows-first d.tells d.seen d.moment d.left_since d.may_leave d.faults c.args.turn.key
    c.take-held.result c.take-held.new.pass.seen c.take-held.new.pass.marks c.args.lane.now c.take-held.ensures.value
    c.requires.lane
    (c.meet.ensures.opening ∙ ap (λ k. k.writer.opening) c.keep-shard.ensures)
    (subst (λ (k : Shard g.row.D.Denot). IsPrefix c.args.lane.now.known
    (k.writer.published ++ k.writer.pending)) c.keep-shard.ensures c.meet.ensures.known)
