use Rattle.std.proofs.Common.{rules, sym, ap, ◌∙◌, subst}
use Rattle.lane_index.specs.Replicas.{IsReplica}
use Rattle.lane_index.proofs.WriterLemmas.{same-copy, behind-first}
use Rattle.lane_index.proofs.filling.lane.Goals as goal

pub tied-requires-clause-alike : goal.tied-requires-clause-alike
tied-requires-clause-alike g c =
    let a = c.in_ok-shown.ensures in let b = c.in_ok-spare.ensures in
    same-copy c.in_ok-shown.shown c.in_ok-spare.spare (a.alike ∙ sym b.alike) (a.rest.2 ∙ sym b.rest.2) (a.rest.0 ∙ sym b.rest.0) (a.rest.1 ∙ sym b.rest.1)

pub invariant_of-writer : goal.invariant_of-writer
invariant_of-writer g c =
    let a = c.in_ok-shown.ensures in (
      search rules,
      behind-first c.in-Some.history c.seen.result.log c.in_ok-writer.writer.desk.shown.value c.in_ok-shown.shown _ c.new.result.items c.in_ok-writer.ensures.shown c.in_ok-writer.ensures.whole c.new.ensures.items
          (subst (λ b. IsReplica b c.in_ok-shown.shown) c.seen-seen.ensures.0 a.copy) (ap (λ s. s.log) a.rest.0 ∙ c.seen-seen.ensures.1) c.seen.ensures.1,
    )
