use Rattle.std.proofs.Common.{◌==◌, sym, ap, ◌∙◌}
use Rattle.mapping_table.proofs.Sieving.{none_lacked, hint-alone, hint-hits}
use Rattle.mapping_table.proofs.bare_table.number_at.Goals as goal

pub returns-then-count-eq0 : goal.returns-then-count-eq0
returns-then-count-eq0 c =
    sym (none_lacked c.args.kept.now c.args.sieve.now c.requires.sieved c.requires.kept c.args.place.now
    (ap (λ n. n == 0) (sym c.count-count.ensures ∙ c.if-count-eq0.true)))

pub returns-then-eq : goal.returns-then-eq
returns-then-eq c =
    hint-hits c.args.kept.now c.args.sieve.now c.requires.sieved c.requires.kept c.args.place.now c.in-Some.entry.1 c.in-Some.entry.0 c.in-Some.ensures
    (sym c.eq.ensures ∙ c.if-eq.true)

pub returns-then-falls_with : goal.returns-then-falls_with
returns-then-falls_with c =
    hint-alone c.args.kept.now c.args.sieve.now c.requires.sieved c.requires.kept c.args.place.now c.in-Some.entry.1 c.in-Some.entry.0 c.in-Some.ensures
    (sym c.eq.ensures ∙ c.if-eq.false) (sym c.count-count.ensures ∙ c.if-count-eq1.true) (sym c.falls_with.ensures ∙ c.if-falls_with.true)
