use Rattle.std.proofs.Common.{List, ℕ, sym, subst, rules}
use Rattle.std.proofs.lemmas.Result.{on_ok_weaker}
use Rattle.lease_disk.proofs.PairLemmas.{pair_goes_on, pair_weaker, quiet_then}
use Rattle.journal_sides.specs.Judging.{IsSideJudged}
use Rattle.journal_sides.specs.Sides.{IsBadSide, IsClosedSide}
use Rattle.lease_journal.specs.Openings.{IsShutAnew}
use Rattle.lease_journal.proofs.PrepareLaws.{anew_closed}
use Rattle.lease_journal.proofs.ShutLaws.{IsShutting, bad_beside, bad_or_closed, cause_on, either_side, first_a, first_b, then_a, then_b}
use Rattle.lease_journal.proofs.openings.shut_all.Goals as goal

pub returns-in_err-shut_judged-in-Good-clause-moments : goal.returns-in_err-shut_judged-in-Good-clause-moments
returns-in_err-shut_judged-in-Good-clause-moments g c = λ told durable broken.
    let d = g.D.LeaseDisk in
    let pair = c.args.pair.now in
    let bad = bad_beside (d.seen pair.a) (d.seen pair.b) c.args.a c.args.b c.in-Good.field-0 broken c.in-Good.is in
    pair_weaker d.moment d.left_since d.may_leave pair c.shut_judged.new.pair _ IsShutting (c.shut_judged.ensures.moments told durable broken.side_b) (first_b (d.seen pair.a) (d.seen pair.b) bad)

pub returns-in_ok-shut_judged-in-Good-clause-moments : goal.returns-in_ok-shut_judged-in-Good-clause-moments
returns-in_ok-shut_judged-in-Good-clause-moments g c = λ told durable broken.
    let d = g.D.LeaseDisk in
    let pair = c.args.pair.now in
    let mid = c.shut_judged.new.pair in
    let new = c.shut_judged-in-Good.new.pair in
    let bad = bad_beside (d.seen pair.a) (d.seen pair.b) c.args.a c.args.b c.in-Good.field-0 broken c.in-Good.is in
    let one = pair_weaker d.moment d.left_since d.may_leave pair mid _ IsShutting (c.in_ok-shut_judged-in-Good.ensures.moments told durable broken.side_b) (first_b (d.seen pair.a) (d.seen pair.b) bad) in
    let shut = c.in_ok-shut_judged-in-Good.ensures.shut told broken.side_b in
    let judged = subst (λ (l : List ℕ). IsSideJudged 0 l c.args.a) (sym shut.unchanged) broken.side_a in
    let closed = anew_closed (d.seen pair.b) (d.seen mid.b) shut.changed in
    let two = pair_weaker d.moment d.left_since d.may_leave mid new _ IsShutting (c.shut_judged-in-Good.ensures.moments told (c.in_ok-shut_judged-in-Good.ensures.durable told durable) judged) (then_a (d.seen mid.a) (d.seen mid.b) (subst (IsBadSide 0) (sym shut.unchanged) bad) closed) in
    pair_goes_on d.moment d.left_since d.may_leave pair mid new IsShutting one two

pub returns-in_err-shut_judged-in_default : goal.returns-in_err-shut_judged-in_default
returns-in_err-shut_judged-in_default g c =
    let d = g.D.LeaseDisk in
    let pair = c.args.pair.now in
    record {
      moments = λ told durable broken.
          let either = bad_or_closed (d.seen pair.a) (d.seen pair.b) c.args.a c.args.b broken (λ standing is. search rules) in
          pair_weaker d.moment d.left_since d.may_leave pair c.shut_judged-in_default.new.pair _ IsShutting (c.shut_judged-in_default.ensures.moments told durable broken.side_a) (first_a (d.seen pair.a) (d.seen pair.b) either);
      blank = λ told durable broken. search rules;
      shut = λ told broken. search rules;
      durable = λ told durable. search rules;
      cause = search rules;
      quiet = search rules;
    }

pub returns-in_ok-shut_judged-in_default : goal.returns-in_ok-shut_judged-in_default
returns-in_ok-shut_judged-in_default g c =
    let d = g.D.LeaseDisk in
    let pair = c.args.pair.now in
    let mid = c.shut_judged-in_default.new.pair in
    let new = c.shut_judged-in_default-2.new.pair in
    let before = c.in_ok-shut_judged-in_default.ensures in
    let last = c.shut_judged-in_default-2.ensures in
    record {
      moments = λ told durable broken.
          let either = bad_or_closed (d.seen pair.a) (d.seen pair.b) c.args.a c.args.b broken (λ standing is. search rules) in
          let one = pair_weaker d.moment d.left_since d.may_leave pair mid _ IsShutting (before.moments told durable broken.side_a) (first_a (d.seen pair.a) (d.seen pair.b) either) in
          let shut = before.shut told broken.side_a in
          let judged = subst (λ (l : List ℕ). IsSideJudged 1 l c.args.b) (sym shut.unchanged) broken.side_b in
          let closed = anew_closed (d.seen pair.a) (d.seen mid.a) shut.changed in
          let two = pair_weaker d.moment d.left_since d.may_leave mid new _ IsShutting (last.moments told (before.durable told durable) judged) (then_b (d.seen mid.a) (d.seen mid.b) closed (either_side (d.seen pair.a) (d.seen pair.b) (d.seen mid.b) shut.unchanged either)) in
          pair_goes_on d.moment d.left_since d.may_leave pair mid new IsShutting one two;
      blank = λ told durable broken.
          let shut = before.shut told broken.side_a in
          let judged = subst (λ (l : List ℕ). IsSideJudged 1 l c.args.b) (sym shut.unchanged) broken.side_b in
          let closed = anew_closed (d.seen pair.a) (d.seen mid.a) shut.changed in
          on_ok_weaker c.shut_judged-in_default-2.result (λ now. (subst IsClosedSide (sym now.unchanged) closed, anew_closed (d.seen mid.b) (d.seen new.b) now.changed)) (last.shut told judged);
      shut = λ told broken.
          let shut = before.shut told broken.side_a in
          let judged = subst (λ (l : List ℕ). IsSideJudged 1 l c.args.b) (sym shut.unchanged) broken.side_b in
          on_ok_weaker c.shut_judged-in_default-2.result (λ now. subst (λ (l : List ℕ). IsShutAnew l (d.seen new.b)) shut.unchanged now.changed) (last.shut told judged);
      durable = λ told durable. last.durable told (before.durable told durable);
      cause = cause_on d.faults pair mid new _ _ before.cause last.cause;
      quiet = quiet_then d.faults pair mid new before.quiet c.shut_judged-in_default-2.result last.quiet;
    }

pub returns-in_ok-shut_judged-in-Good-clause-blank : goal.returns-in_ok-shut_judged-in-Good-clause-blank
returns-in_ok-shut_judged-in-Good-clause-blank g c = λ told durable broken.
    let d = g.D.LeaseDisk in
    let pair = c.args.pair.now in
    let mid = c.shut_judged.new.pair in
    let new = c.shut_judged-in-Good.new.pair in
    let shut = c.in_ok-shut_judged-in-Good.ensures.shut told broken.side_b in
    let judged = subst (λ (l : List ℕ). IsSideJudged 0 l c.args.a) (sym shut.unchanged) broken.side_a in
    let closed = anew_closed (d.seen pair.b) (d.seen mid.b) shut.changed in
    on_ok_weaker c.shut_judged-in-Good.result (λ now. (anew_closed (d.seen mid.a) (d.seen new.a) now.changed, subst IsClosedSide (sym now.unchanged) closed)) (c.shut_judged-in-Good.ensures.shut told judged)

pub returns-in_ok-shut_judged-in-Good-clause-shut : goal.returns-in_ok-shut_judged-in-Good-clause-shut
returns-in_ok-shut_judged-in-Good-clause-shut g c = λ told broken.
    let d = g.D.LeaseDisk in
    let pair = c.args.pair.now in
    let shut = c.in_ok-shut_judged-in-Good.ensures.shut told broken.side_b in
    let judged = subst (λ (l : List ℕ). IsSideJudged 0 l c.args.a) (sym shut.unchanged) broken.side_a in
    on_ok_weaker c.shut_judged-in-Good.result (λ now. subst (λ (l : List ℕ). IsShutAnew (d.seen pair.b) l) (sym now.unchanged) shut.changed) (c.shut_judged-in-Good.ensures.shut told judged)

pub returns-in_ok-shut_judged-in-Good-clause-quiet : goal.returns-in_ok-shut_judged-in-Good-clause-quiet
returns-in_ok-shut_judged-in-Good-clause-quiet g c =
    quiet_then g.D.LeaseDisk.faults c.args.pair.now c.shut_judged.new.pair c.shut_judged-in-Good.new.pair c.in_ok-shut_judged-in-Good.ensures.quiet c.shut_judged-in-Good.result c.shut_judged-in-Good.ensures.quiet
