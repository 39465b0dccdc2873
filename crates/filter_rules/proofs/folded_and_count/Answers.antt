use Rattle.std.proofs.Common.{[], sym}
use Rattle.pcp_base.specs.declared.leases.Filter.{Filter}
use Rattle.filter_rules.proofs.FoldLemmas.{emptied, there, added, said}
use Rattle.filter_rules.proofs.folded_and_count.Goals as goal
use Rattle.filter_rules.proofs.folded_and_count.Goals.{then-filter-eq0, else-filter-eq0+then-not-is_in_either, else-filter-eq0+else-not-is_in_either}

-- any filter
abbrev blank : Filter
blank = record { prefix = 0; port = 0; remote = record { 0 = [] } }

pub loop-i-preserved : goal.loop-i-preserved
loop-i-preserved c =
    let old = c.args.old.now in
    let new = c.args.new.now in
    let i = c.loop-i.i in
    let l = c.loop-i in
    elim c.if-filter-eq0.branch [
      | then-filter-eq0 w ↦
          rw (w.base-is, w.from-is, w.folded-is, w.count-is, w.none-base.ensures, w.none-folded.ensures)
          (emptied old new i blank c.loop-i-test.true w.if-filter-eq0.true)
      | else-filter-eq0+then-not-is_in_either w ↦
          rw (w.base-is, w.from-is, w.folded-is, w.count-is)
          (added old new i l.base l.from l.folded w.push-has_room.new.self l.count l.invariant blank c.loop-i-test.true w.if-filter-eq0.false
          (sym (rw (w.if-not-is_in_either.true, w.items.ensures.value) at w.is_in_either.ensures))
          (λ short. said w.push-has_room.result _ w.push-has_room.ensures.added (w.push-has_room.ensures.room.1 short)))
      | else-filter-eq0+else-not-is_in_either w ↦
          rw (w.base-is, w.from-is, w.folded-is, w.count-is)
          (there old new i l.base l.from l.folded l.count l.invariant blank c.loop-i-test.true w.if-filter-eq0.false
          (sym (rw (w.if-not-is_in_either.false, w.items.ensures.value) at w.is_in_either.ensures)))
    ]
