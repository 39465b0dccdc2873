use Rattle.std.proofs.Common.{rules, ◌≡◌, ◌∙◌, refl, ap, Ok, lit≤, arith}
use Rattle.script_player.specs.Reading.{Reading}
use Rattle.script_player.specs.Ways.{course_of}
use Rattle.script_player.specs.declared.readers.Ending.TheVariants.{Feed}
use Rattle.script_player.specs.declared.readers.Limits.{Limits}
use Rattle.script_player.specs.Played.{Streams}
use Rattle.script_player.proofs.PlayLemmas.{begins, goes_on_at, has_run_at}
use Rattle.script_player.proofs.player.play.Goals as goal

pub loop-number-init : goal.loop-number-init
loop-number-init g c = record {
  underway = begins
      (course_of g.A.LineAnswerer.effects g.A.LineAnswerer.house g.A.LineAnswerer.way c.args.answerer.now c.args.answerer.now)
      (record { left = g.S.Source.left c.args.input.now; held = g.W.Sink.held c.args.out.now }) c.new-reader.result
      refl (g.met.A.LineAnswerer.stays c.args.answerer.now c.requires.rests) c.new-reader.ensures;
  rests = c.requires.rests;
  limits = ap (λ (r : Reading). r.limits) c.new-reader.ensures;
  number = omega arith;
  used = rw c.new-reader.ensures (lit≤ tt);
  reads = omega arith;
  writes = omega arith;
  disks = λ shard disk. omega arith;
}

pub loop-number-preserved : goal.loop-number-preserved
loop-number-preserved g c =
    let went = c.in-Ok-Feed.ensures in
    let inv = c.loop-number.invariant in
    let feed = ap Ok c.in-Ok-Feed.field-0-is in
    let grew = went.used feed in
    let before : Streams = record { left = g.S.Source.left c.args.input.now; held = g.W.Sink.held c.args.out.now } in
    record {
      underway = goes_on_at
          (course_of g.A.LineAnswerer.effects g.A.LineAnswerer.house g.A.LineAnswerer.way c.args.answerer.now c.turn.new.answerer) before c.loop-number.number c.turn.new.reader
          (record { left = g.S.Source.left c.turn.new.input; held = g.W.Sink.held c.turn.new.out }) c.in-Ok-Feed.field-0 c.in-Ok-Feed.field-0-is
          (went.turned c.args.answerer.now before c.loop-number.number inv.underway);
      rests = went.rests feed;
      limits = went.limits ∙ inv.limits;
      number = omega (arith, inv.number, grew.0);
      used = omega (arith, grew.1, ap (λ (l : Limits). l.most) inv.limits);
      reads = omega (arith, inv.reads, went.reads);
      writes = omega (arith, inv.writes, went.writes);
      disks = λ shard disk. omega (arith, inv.disks shard disk, went.disks shard disk);
    }

pub returns-in-Ok : goal.returns-in-Ok
returns-in-Ok g c =
    let other : ¬ (c.in-Ok.field-0 ≡ Feed) = search rules in
    let inv = c.loop-number.invariant in
    let went = c.in-Ok.ensures in
    let before : Streams = record { left = g.S.Source.left c.args.input.now; held = g.W.Sink.held c.args.out.now } in
    record {
      played = has_run_at
          (course_of g.A.LineAnswerer.effects g.A.LineAnswerer.house g.A.LineAnswerer.way c.args.answerer.now c.turn.new.answerer) before c.loop-number.number c.turn.new.reader
          (record { left = g.S.Source.left c.turn.new.input; held = g.W.Sink.held c.turn.new.out }) c.in-Ok.field-0 other
          (went.turned c.args.answerer.now before c.loop-number.number inv.underway);
      read_fault = λ bad. absurd cc;
      write_fault = λ bad. absurd cc;
      disk_fault = λ shard bad. absurd cc;
      reads = omega (arith, inv.reads, went.reads);
      writes = omega (arith, inv.writes, went.writes);
      disks = λ shard disk. omega (arith, inv.disks shard disk, went.disks shard disk);
    }
