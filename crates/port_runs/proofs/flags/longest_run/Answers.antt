use Rattle.std.proofs.Common.{◌≡◌, ℕ, ◌+◌, ◌-◌, true, false, sym, subst, ◌∙◌, arith}
use Rattle.port_runs.proofs.Longest.{IsRunFrom, IsLongestFrom, run_on, run_ends, longest_met, longest_stays, longest_of_all}
use Rattle.port_runs.proofs.flags.longest_run.Goals as goal
use Rattle.port_runs.proofs.flags.longest_run.Goals.{then-flags-start, else-flags-start, else-has_parity-via-then-has_parity+else-run-longest, else-has_parity-via-else-has_parity}

pub loop-start-preserved-then-run-longest : goal.loop-start-preserved-then-run-longest
loop-start-preserved-then-run-longest c =
    let l = c.loop-start in
    let flags = c.args.flags.now in
    let start = l.start - 1 in
    let same : start + 1 ≡ l.start = omega (arith, c.loop-start-test.true) in
    let before : IsRunFrom flags (start + 1) l.run = subst (λ (i : ℕ). IsRunFrom flags i l.run) (sym same) l.invariant.run in
    let longest : IsLongestFrom flags c.args.parity (start + 1) l.longest = subst (λ (i : ℕ). IsLongestFrom flags c.args.parity i l.longest) (sym same) l.invariant.longest in
    let run : IsRunFrom flags start c.if-flags-start.run = elim c.if-flags-start.branch [
      | then-flags-start w ↦ rw w.run-is (run_on flags c.args.parity start l.run w.if-flags-start.true before)
      | else-flags-start w ↦ rw w.run-is (run_ends flags c.args.parity start l.run (omega (arith, before.within)) w.if-flags-start.false)
    ] in
    record {
      run = run;
      longest = longest_met flags c.args.parity start c.if-flags-start.run l.longest (c.has_parity.ensures.0 c.if-has_parity.true) c.if-run-longest.true run longest;
    }

pub loop-start-preserved : goal.loop-start-preserved
loop-start-preserved c =
    let l = c.loop-start in
    let flags = c.args.flags.now in
    let start = l.start - 1 in
    let same : start + 1 ≡ l.start = omega (arith, c.loop-start-test.true) in
    let before : IsRunFrom flags (start + 1) l.run = subst (λ (i : ℕ). IsRunFrom flags i l.run) (sym same) l.invariant.run in
    let longest : IsLongestFrom flags c.args.parity (start + 1) l.longest = subst (λ (i : ℕ). IsLongestFrom flags c.args.parity i l.longest) (sym same) l.invariant.longest in
    let run : IsRunFrom flags start c.if-flags-start.run = elim c.if-flags-start.branch [
      | then-flags-start w ↦ rw w.run-is (run_on flags c.args.parity start l.run w.if-flags-start.true before)
      | else-flags-start w ↦ rw w.run-is (run_ends flags c.args.parity start l.run (omega (arith, before.within)) w.if-flags-start.false)
    ] in
    record {
      run = run;
      longest = longest_stays flags c.args.parity start c.if-flags-start.run l.longest (λ has. elim c.else-has_parity.branch [
        | else-has_parity-via-then-has_parity+else-run-longest w ↦ w.if-run-longest.false
        | else-has_parity-via-else-has_parity w ↦ (let bad : false ≡ true = sym w.if-has_parity.false ∙ c.has_parity.ensures.1 has in (cc))
      ]) run longest;
    }

pub returns : goal.returns
returns c =
    let l = c.loop-start in
    let none : l.start ≡ 0 = omega (arith, c.loop-start-test.false) in
    longest_of_all c.args.flags.now c.args.parity l.longest (subst (λ (i : ℕ). IsLongestFrom c.args.flags.now c.args.parity i l.longest) none l.invariant.longest)
