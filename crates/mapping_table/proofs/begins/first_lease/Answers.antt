use Rattle.std.proofs.Common.{◌≡◌, ℕ, true, false, None, sym, ap, ◌∙◌, subst, arith}
use Rattle.std.specs.BTreeMap.{BTreeMap, get}
use Rattle.std.specs.Option.{option_copied}
use Rattle.ordered_index.specs.Orders.{Place, place_cmp, IsFirst, IsFirstKey}
use Rattle.mapping_table.proofs.Nexts.{none-from, none-inside, first-inside}
use Rattle.mapping_table.proofs.begins.first_lease.Goals.{then-not-is_beside-via-then-not-is_beside, then-not-is_beside-via-else-not-is_beside+then-end-from}
use Rattle.mapping_table.proofs.begins.first_lease.Goals as goal

pub returns-in_default-clause-first : goal.returns-in_default-clause-first
returns-in_default-clause-first g c =
    none-from c.args.kept.now c.requires c.args.endpoint.now c.args.from c.args.end
    (subst (λ (p : Place). IsFirst place_cmp c.args.kept.now.keys p None) c.place_of-start.ensures
    (subst (λ (m : BTreeMap Place ℕ). IsFirst place_cmp m c.place_of-start.result None) c.keys.ensures c.in_default.ensures.first))

pub returns-then-not-is_beside-clause-first : goal.returns-then-not-is_beside-clause-first
returns-then-not-is_beside-clause-first g c =
    none-inside c.args.kept.now c.requires c.args.endpoint.now c.args.from c.args.end c.in-Some.entry.0
    (subst (λ (p : Place). IsFirstKey place_cmp c.args.kept.now.keys p c.in-Some.entry.0) c.place_of-start.ensures
    (subst (λ (m : BTreeMap Place ℕ). IsFirstKey place_cmp m c.place_of-start.result c.in-Some.entry.0) c.keys.ensures c.in-Some.ensures.first))
    (λ same below. elim c.then-not-is_beside.branch [
      | then-not-is_beside-via-then-not-is_beside w ↦ absurd (let no : true ≡ false = sym (c.is_beside.ensures.1 same) ∙ w.if-not-is_beside.true in cc)
      | then-not-is_beside-via-else-not-is_beside+then-end-from w ↦ (let late = w.if-end-from.true in let value = w.from.ensures in let port = w.port_in.ensures in absurd (omega (arith, late, value, port, below)))
    ])

pub returns-clause-first : goal.returns-clause-first
returns-clause-first g c =
    let before = c.if-end-from.false in let value = c.from.ensures in let port = c.port_in.ensures in
    first-inside c.args.kept.now c.requires c.args.endpoint.now c.args.from c.args.end c.in-Some.entry.0
    (subst (λ (p : Place). IsFirstKey place_cmp c.args.kept.now.keys p c.in-Some.entry.0) c.place_of-start.ensures
    (subst (λ (m : BTreeMap Place ℕ). IsFirstKey place_cmp m c.place_of-start.result c.in-Some.entry.0) c.keys.ensures c.in-Some.ensures.first))
    (c.is_beside.ensures.0 c.if-not-is_beside.false) (omega (arith, before, value, port)) c.in-Some.entry.1
    (ap (λ (m : BTreeMap Place ℕ). get place_cmp m c.in-Some.entry.0) (sym c.keys.ensures) ∙ c.in-Some.ensures.number) (option_copied c.lease_at.result) c.lease_at.ensures.lease
