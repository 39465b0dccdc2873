use Rattle.std.proofs.Common.{◌≡◌, refl, rules, subst}
use mathlib.Core.List.{IsPrefix}
use Rattle.turn_lock.specs.Marks.{noted_entries, noted_marks}
use Rattle.turn_lock.proofs.Marked.{none_with, prefix_mapped}
use Rattle.turn_lock.proofs.turn.Turn.take.Goals as goal

pub returns-in-Some-come-clause-pass : goal.returns-in-Some-come-clause-pass
returns-in-Some-come-clause-pass g c =
    let came = c.in-Some-come.ensures.came in
    let v = c.pass.inside.seat.me.0 in
    let w = c.come.new.seat.me.0 in
    let same : c.loop.pass-inside.seat.me.0.seen ≡ v.seen = search rules in
    let begins : IsPrefix v.seen w.seen = subst (λ l. IsPrefix l w.seen) same came.begins in
    let entries : noted_entries v.seen ≡ c.args.pass.now.seen = search rules in
    let marks : noted_marks v.seen ≡ c.args.pass.now.marks = search rules in
    record {
      turn = search rules;
      room = search rules;
      seen = subst (λ l. IsPrefix l (noted_entries w.seen)) entries
          (prefix_mapped (λ n. n.entry) v.seen w.seen begins);
      marks = subst (λ l. IsPrefix l (noted_marks w.seen)) marks
          (prefix_mapped (λ n. n.mark) v.seen w.seen begins);
      mine = search rules;
      settled = search rules;
    }

pub returns-in-Some-come-clause-added : goal.returns-in-Some-come-clause-added
returns-in-Some-come-clause-added g c =
    none_with (g.V.Kept.mark c.in-Some-come.value) (g.V.Kept.added c.in-Some-come.value)
    c.in-Some-come.ensures.came.clean
