use Rattle.std.proofs.Common.{rules, ◌≡◌, ℕ, ◌+◌, refl, subst, ap, ◌∙◌, arith}
use Rattle.std.specs.Cmp.{nat_cmp_total}
use Rattle.std.specs.Map.{remove_entry}
use Rattle.std.specs.Ordering.{nat_cmp}
use Rattle.std.specs.BTreeMap.{is_at}
use Rattle.ordered_index.specs.MapSteps.{Inserts}
use Rattle.ordered_index.specs.Orders.{port_at, port_cmp}
use Rattle.ordered_index.specs.Steps.{Appends, Stays}
use Rattle.ordered_index.specs.declared.numbered.Numbered.{Numbered}
use Rattle.ordered_index.specs.declared.slots.TheConstants.{MOST_SLOTS}
use Rattle.ordered_index.proofs.EntryLaws.{removed-inserted}
use Rattle.ordered_index.proofs.SlotCalls.{on-err}
use Rattle.ordered_index.proofs.owned.Owned.append.Goals as goal

pub returns-in_default-clause-err : goal.returns-in_default-clause-err
returns-in_default-clause-err g c = record { next = refl; leases = refl; keys = refl; ports = refl }

pub returns-in_err-number-clause-err : goal.returns-in_err-number-clause-err
returns-in_err-number-clause-err g c =
    let new : Numbered g.row.L.Denot g.row.K.Denot (ℕ × ℕ) = record { next = c.self.inside.next; leases = c.append.new.self; keys = c.self.inside.keys; ports = c.self.inside.ports } in
    on-err c.from_residual.result
    (subst (λ (v : Numbered g.row.L.Denot g.row.K.Denot (ℕ × ℕ)). Stays v new) c.self.view_is (record { next = refl; leases = c.in_err-number.ensures.err; keys = refl; ports = refl }))

pub returns-in-Err-clause-err : goal.returns-in-Err-clause-err
returns-in-Err-clause-err g c =
    let new : Numbered g.row.L.Denot g.row.K.Denot (ℕ × ℕ) = record { next = c.self.inside.next; leases = c.remove.new.self; keys = c.insert_into.new.map; ports = c.self.inside.ports } in
    subst (λ (v : Numbered g.row.L.Denot g.row.K.Denot (ℕ × ℕ)). Stays v new) c.self.view_is (record {
      next = refl;
      leases = c.remove.ensures.removed.entries ∙ (ap (remove_entry (is_at (nat_cmp c.in_ok-number.number))) c.in_ok-number.ensures.inserts.entries
          ∙ removed-inserted nat_cmp_total c.in_ok-number.number c.args.lease c.self.inside.leases.entries c.in_ok-number.ensures.free);
      keys = c.in-Err.ensures.err;
      ports = refl;
    })

pub returns-clause-ok : goal.returns-clause-ok
returns-clause-ok g c =
    let new : Numbered g.row.L.Denot g.row.K.Denot (ℕ × ℕ) = record { next = c.in-Some.after; leases = c.append.new.self; keys = c.insert_into.new.map; ports = c.insert.new.self } in
    let after : c.in-Some.after ≡ c.self.inside.next + MOST_SLOTS = search rules in
    let keys : Inserts g.K.Ord.cmp c.self.inside.keys c.insert_into.new.map c.args.key c.in_ok-number.number = search rules in
    let below = c.in_ok-number.ensures.below in
    subst (λ (v : Numbered g.row.L.Denot g.row.K.Denot (ℕ × ℕ)). Appends g.K.Ord.cmp port_cmp v new c.args.lease c.args.key (port_at c.args.port.0 c.args.port.1) c.in_ok-number.number) c.self.view_is (record {
      from = c.in_ok-number.ensures.from;
      below = omega (arith, after, below);
      next = after;
      leases = c.in_ok-number.ensures.inserts;
      keys = keys;
      ports = c.insert.ensures;
    })
