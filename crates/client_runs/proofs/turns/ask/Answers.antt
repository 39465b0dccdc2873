use Rattle.std.proofs.Common.{◌≡◌, [], None, Some, Result, Err, refl, inl, inr, arith, rules}
use Rattle.pcp_options.specs.declared.responses.Response.{Response}
use Rattle.client_runs.specs.declared.tries.Tries.{Tries}
use Rattle.client_runs.specs.declared.tries.Unanswered.{Unanswered}
use Rattle.client_runs.specs.Links.{Links}
use Rattle.client_runs.specs.Ticks.{HasDrawn}
use Rattle.client_runs.proofs.OverLemmas.{begins, never_began, over_turns, turned_none, turned_some}
use Rattle.client_runs.proofs.turns.ask.Goals as goal

abbrev none_drawn : (limit : _) (tries : Tries) → tries ≡ record { limit = limit; given = 0; word = None } → HasDrawn limit [] 0 tries
none_drawn limit tries is = rw is (record { limit_is = refl; given_is = refl; most = omega arith; kept = refl })

pub returns-in_err-tick : goal.returns-in_err-tick
returns-in_err-tick g c =
    let old : Links = record {
      left = g.I.Inbox.left c.args.from.now;
      faults = g.I.Inbox.faults c.args.from.now;
      times = g.T.Clock.times c.args.clock.now;
      drawing = record { words = g.E.Entropy.words c.args.entropy.now; faults = g.E.Entropy.faults c.args.entropy.now };
      sending = record { sent = g.O.Outbox.sent c.args.up.now; faults = g.O.Outbox.faults c.args.up.now };
    } in
    let now : Links = record old {
      drawing = record { words = g.E.Entropy.words c.tick.new.entropy; faults = g.E.Entropy.faults c.tick.new.entropy };
      sending = record { sent = g.O.Outbox.sent c.tick.new.up; faults = g.O.Outbox.faults c.tick.new.up };
    } in
    let why = c.in_err-tick.field-0.0 in
    let same : ◌≡◌ {A = Result Response Unanswered} c.from_residual.result (Err why) = search rules in
    rw same (inl (never_began g.A.Asker.asking c.args.target.now c.args.asker.now c.args.start_ms old now c.tick.new.asker c.tick.new.tries why c.requires.tries refl refl refl
    (c.in_err-tick.ensures c.args.target.now.tries [] [] (none_drawn c.args.target.now.tries _ refl))))

pub loop-count-init : goal.loop-count-init
loop-count-init g c =
    let old : Links = record {
      left = g.I.Inbox.left c.args.from.now;
      faults = g.I.Inbox.faults c.args.from.now;
      times = g.T.Clock.times c.args.clock.now;
      drawing = record { words = g.E.Entropy.words c.args.entropy.now; faults = g.E.Entropy.faults c.args.entropy.now };
      sending = record { sent = g.O.Outbox.sent c.args.up.now; faults = g.O.Outbox.faults c.args.up.now };
    } in
    let now : Links = record old {
      drawing = record { words = g.E.Entropy.words c.tick.new.entropy; faults = g.E.Entropy.faults c.tick.new.entropy };
      sending = record { sent = g.O.Outbox.sent c.tick.new.up; faults = g.O.Outbox.faults c.tick.new.up };
    } in
    record {
      most = omega arith;
      underway = begins g.A.Asker.asking c.args.target.now c.args.asker.now c.args.start_ms old now c.tick.new.asker c.tick.new.tries refl refl refl
          (c.in_ok-tick.ensures c.args.target.now.tries [] [] (none_drawn c.args.target.now.tries _ refl));
    }

pub returns-in_err-found : goal.returns-in_err-found
returns-in_err-found g c =
    let why = c.in_err-found.field-0.0 in
    let below = c.loop-count-test.true in
    let same : ◌≡◌ {A = Result Response Unanswered} c.from_residual-in_err-found.result (Err why) = search rules in
    rw same (inr (c.in_err-found.ensures c.args.asker.now c.args.start_ms _ c.loop-count.count c.loop-count.invariant.underway below))

pub returns-in-Some : goal.returns-in-Some
returns-in-Some g c =
    let below = c.loop-count-test.true in
    let some : c.in_ok-found.found ≡ Some c.in-Some.response = search rules in
    inr (turned_some g.A.Asker.asking c.args.target.now c.args.asker.now c.args.start_ms _ c.loop-count.count _ _ _ _ _ some (c.in_ok-found.ensures c.args.asker.now c.args.start_ms _ c.loop-count.count c.loop-count.invariant.underway below))

pub loop-count-preserved : goal.loop-count-preserved
loop-count-preserved g c =
    let below = c.loop-count-test.true in
    let none : c.in_ok-found.found ≡ None = search rules in
    record {
      most = omega (arith, below);
      underway = turned_none g.A.Asker.asking c.args.target.now c.args.asker.now c.args.start_ms _ c.loop-count.count _ _ _ _ none (c.in_ok-found.ensures c.args.asker.now c.args.start_ms _ c.loop-count.count c.loop-count.invariant.underway below);
    }

pub returns : goal.returns
returns g c =
    let inv = c.loop-count.invariant in
    inr (over_turns g.A.Asker.asking c.args.target.now c.args.asker.now c.args.start_ms _ _ c.loop-count.count _ _ inv.underway (omega (arith, inv.most, c.loop-count-test.false)))
