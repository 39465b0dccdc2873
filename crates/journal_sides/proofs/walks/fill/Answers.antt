use Rattle.std.proofs.Common.{◌≡◌, ℕ, ◌+◌, ◌-◌, List, ◌++◌, length, take, drop, ◌∙◌, ap, arith, length-take, length-drop}
use Rattle.std.proofs.lemmas.List.{take-append-le}
use borrow.Rule.Slice.PartMut.{put_mid, post_of, same_len_mid}
use Rattle.journal_sides.proofs.FillLemmas.{read_more, filled_more}
use Rattle.journal_sides.proofs.walks.fill.Goals as goal

pub loop-filled-preserved : goal.loop-filled-preserved
loop-filled-preserved g c =
    let d = g.D.LeaseDisk in
    let laws = g.met.D.LeaseDisk in
    let so_far = c.loop-filled.invariant in
    let piece = c.loop-filled.piece in
    let at = c.loop-filled.filled in
    let k = length piece - at in
    let ys = c.read_at.new.piece in
    let n = c.in_ok-count.count in
    let long : length ys ≡ k = omega (arith, c.read_at.auto.piece, length-take k (drop at piece), length-drop at piece) in
    let same : length (put_mid at k piece ys) ≡ length piece = same_len_mid at k piece ys (omega (arith, long, length-take k (drop at piece), length-drop at piece)) in
    record {
      within = omega (arith, same, c.in_ok-count.ensures.bound, long, so_far.within);
      sized = same ∙ so_far.sized;
      octets = λ told. filled_more (d.seen c.args.disk.now) piece (ys ++ post_of at k piece) c.args.place at n so_far.within (so_far.octets told)
          (take-append-le n ys (post_of at k piece) c.in_ok-count.ensures.bound ∙ (c.in_ok-count.ensures.reads told).front ∙ ap (λ (l : List ℕ). take n (drop (c.args.place + at) l)) (so_far.seen_still told));
      seen_still = λ told. c.in_ok-count.ensures.unchanged told ∙ so_far.seen_still told;
      read = read_more d.may_leave d.moment d.left_since laws.counts_now laws.only_now c.args.disk.now c.loop-filled.disk c.read_at.new.self so_far.read c.read_at.ensures.still c.read_at.ensures.time c.read_at.ensures.crash c.read_at.ensures.images;
      quiet = c.in_ok-count.ensures.quiet ∙ so_far.quiet;
    }
