use Rattle.std.proofs.Common.{refl, ap, ◌∙◌}
use Rattle.std.specs.Cmp.{nat_cmp_total}
use Rattle.std.specs.Map.{remove_entry}
use Rattle.std.specs.Ordering.{nat_cmp}
use Rattle.std.specs.BTreeMap.{is_at}
use Rattle.ordered_index.proofs.EntryLaws.{removed-inserted}
use Rattle.ordered_index.proofs.numbered.Numbered.append.Goals as goal

pub returns-in-Err-clause-err : goal.returns-in-Err-clause-err
returns-in-Err-clause-err g c = record {
  next = refl;
  leases = c.remove.ensures.removed.entries ∙ ap (remove_entry (is_at (nat_cmp c.in_ok-number.number))) c.in_ok-number.ensures.inserts.entries
      ∙ removed-inserted nat_cmp_total c.in_ok-number.number c.args.lease c.args.self.now.leases.entries c.in_ok-number.ensures.free;
  keys = c.in-Err.ensures.first_stays;
  ports = c.in-Err.ensures.second_stays;
}
