use Rattle.std.proofs.Common.{◌≡◌, ℕ, ◌<◌, Some, sym, subst, arith}
use Rattle.std.specs.FinMap.{get}
use Rattle.external_pool.specs.Holdings.{Holdings, uses_of}
use Rattle.pcp_base.specs.declared.leases.Protocol.{Protocol}
use Rattle.pcp_base.specs.declared.leases.Protocol.TheVariants.{Tcp, Udp}
use Rattle.port_spans.specs.Along.{spot}
use Rattle.leased_ports.specs.Kept.{IsOn}
use Rattle.leased_ports.specs.Searching.{search_end}
use Rattle.leased_ports.proofs.SearchLemmas.{choice-within, search-longest, searched-first, searched-more, searched-all, searched-near}
use Rattle.leased_ports.proofs.picks.seek.Goals as goal

pub loop-id-init : goal.loop-id-init
loop-id-init g c = record {
  on = λ low most h. h;
  in_step = c.requires.in_step;
  begun = c.requires.begun;
  late = λ seen before none. none;
  longest = c.longest-choice.ensures.longest;
  searched = searched-first c.args.m c.args.protocol c.args.high c.args.room c.longest-choice.result c.args.wheel.now c.args.steps.now c.longest-choice.new.steps c.longest-choice.ensures.steps;
}

pub see_to-requires-clause-due : goal.see_to-requires-clause-due
see_to-requires-clause-due g c = let first = c.in-Some.ensures.due in record { expiry = first.expiry; expires = first.expires; due = first.due }

pub loop-id-preserved : goal.loop-id-preserved
loop-id-preserved g c =
    let was = c.loop-id.invariant in
    let on = c.requires.on in
    let end : search_end c.args.high c.args.room c.loop-id.choice ≡ c.search_end.result = sym c.search_end.ensures.end in
    let more = searched-more c.args.high c.args.m c.args.ends.now c.loop-id.pool c.see_to.new.pool c.loop-id.wheel c.see_to.new.wheel
    was.in_step c.see_to.ensures.in_step (λ low most h. c.see_to.ensures.on low c.args.high most h) (on.0, on.1, was.on on.0 on.1 on.2)
    (omega (arith, c.ranges.high)) c.args.protocol c.args.parity c.args.room c.in-Some.id c.see_to.ensures.others c.see_to.ensures.seen c.in-Some.ensures.due
    c.loop-id.choice c.longest-choice-in-Some.result was.longest c.longest-choice-in-Some.ensures.longest (subst (λ (n : ℕ). c.in-Some.id < spot c.args.protocol n) (sym end) c.in-Some.ensures.before) in
    record {
      on = λ low most h. c.see_to.ensures.on low c.args.high most (was.on low most h);
      in_step = c.see_to.ensures.in_step;
      begun = c.see_to.ensures.begun;
      late = λ seen before none. c.see_to.ensures.late seen before (was.late seen before none);
      longest = c.longest-choice-in-Some.ensures.longest;
      searched = more c.args.wheel.now c.args.steps.now c.loop-id.steps c.longest-choice-in-Some.new.steps
          (let looked = c.first_due.ensures.steps in let seen = c.see_to.ensures.steps in let found = c.longest-choice-in-Some.ensures.steps in omega (arith, looked, seen, found)) was.searched;
    }

pub returns-clause-longest : goal.returns-clause-longest
returns-clause-longest g c low most on =
    let was = c.loop-id.invariant in
    search-longest low c.args.high most c.args.m c.args.ends.now c.loop-id.pool c.loop-id.wheel was.in_step (was.on low most on) was.begun c.args.protocol c.args.parity c.args.room c.loop-id.choice was.longest
    (subst (λ (n : ℕ). (port expiry : ℕ) → port < n → get c.loop-id.wheel (spot c.args.protocol port) ≡ Some expiry → c.args.m < expiry) c.search_end.ensures.end c.in_default.ensures.none)

pub returns-clause-within : goal.returns-clause-within
returns-clause-within g c =
    let was = c.loop-id.invariant in
    let on = c.requires.on in
    choice-within (uses_of c.loop-id.pool c.args.protocol) c.args.parity c.args.room c.loop-id.choice was.longest
    (let high = high_of c.args.protocol c.loop-id.pool on.0 c.args.high on.1 (was.on on.0 on.1 on.2) in omega (arith, high, c.ranges.high))
  where
    high_of : (p : Protocol) (h : Holdings) (low high most : ℕ) → IsOn h low high most → (uses_of h p).high ≡ high
    high_of Tcp h low high most is = is.tcp_high
    high_of Udp h low high most is = is.udp_high

pub returns-clause-steps : goal.returns-clause-steps
returns-clause-steps g c =
    searched-all c.args.m c.args.protocol c.args.high c.args.room c.loop-id.choice c.args.wheel.now c.loop-id.wheel c.args.steps.now c.loop-id.steps c.first_due.new.steps c.loop-id.invariant.searched c.first_due.ensures.steps

pub returns-clause-near : goal.returns-clause-near
returns-clause-near g c =
    searched-near c.args.m c.args.protocol c.args.high c.args.room c.loop-id.choice c.args.wheel.now c.loop-id.wheel c.args.steps.now c.loop-id.steps c.first_due.new.steps c.loop-id.invariant.searched c.first_due.ensures.steps
