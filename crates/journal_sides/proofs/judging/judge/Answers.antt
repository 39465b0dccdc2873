use Rattle.std.proofs.Common.{List, ◌∙◌, subst, arith, rules}
use Rattle.journal_sides.specs.declared.walks.Judged.{Judged}
use Rattle.journal_sides.specs.Judging.{IsSideJudged}
use Rattle.journal_sides.proofs.FillLemmas.{read_both}
use Rattle.journal_sides.proofs.VerdictLemmas.{no_other}
use Rattle.journal_sides.proofs.judging.judge.Goals as goal

pub returns-in-Good-Good-2 : goal.returns-in-Good-Good-2
returns-in-Good-Good-2 g c =
    let d = g.D.LeaseDisk in
    let laws = g.met.D.LeaseDisk in
    let third = c.in_ok-other-in-Good-Good-2 in
    record {
      found = λ told.
          let first = subst (λ (j : Judged). IsSideJudged 0 (d.seen c.args.pair.now.a) j) c.in-Good-Good-2.is-0 (c.in_ok-a.ensures.judged told) in
          let then_ = subst (λ (l : List _). IsSideJudged 0 l third.other) (c.in_ok-a.ensures.seen told) (third.ensures.judged told) in
          absurd (no_other 0 (d.seen c.args.pair.now.a) _ first.0 third.other first.1 then_ (λ y is. search rules));
      reach = tt;
      next = tt;
      begun = tt;
      ready = tt;
      read = record {
        a = read_both d.may_leave d.moment d.left_since laws.counts_now laws.only_now c.args.pair.now.a c.judge_side.new.disk c.judge_side-in-Good-Good-2.new.disk c.in_ok-a.ensures.read third.ensures.read;
        b = c.in_ok-b.ensures.read;
      };
      seen = λ told. record { a = third.ensures.seen told ∙ c.in_ok-a.ensures.seen told; b = c.in_ok-b.ensures.seen told };
      cause = record { later_a = omega (arith, c.in_ok-a.ensures.later, third.ensures.later); later_b = c.in_ok-b.ensures.later; risen = λ e. absurd (cc e) };
      quiet = record {
        done = record {
          still_a = third.ensures.quiet.done ∙ c.in_ok-a.ensures.quiet.done;
          still_b = c.in_ok-b.ensures.quiet.done;
        };
        starved = λ e. absurd (cc e);
      };
      lasting = search rules;
    }
