use Rattle.std.proofs.Common.{◌≡◌, ◌≢◌, ◌≤◌, length, sym, ◌∙◌, inl, inr, arith}
use Rattle.std.proofs.lemmas.Bool.{eqb-false, eqb-true}
use Rattle.pcp_script.proofs.FieldLemmas.{IsHexField-refused, IsHexField-read, decoded-octets}
use Rattle.pcp_script.proofs.fields.read_octets.Goals as goal
use Rattle.pcp_script.proofs.fields.read_octets.Goals.{then-is_empty-via-then-is_empty, then-is_empty-via-else-is_empty+then-text-gt-MOST_DIGITS}

pub returns-then-is_empty-clause-refused : goal.returns-then-is_empty-clause-refused
returns-then-is_empty-clause-refused c = λ _ octets h.
    elim c.then-is_empty.branch [
      | then-is_empty-via-then-is_empty w ↦
          let none : length c.args.text.now ≡ 0 = eqb-true _ 0 (sym c.is_empty.ensures ∙ w.if-is_empty.true) in
          IsHexField-refused c.args.text.now octets (inl none) h
      | then-is_empty-via-else-is_empty+then-text-gt-MOST_DIGITS w ↦
          IsHexField-refused c.args.text.now octets (inr (omega arith)) h
    ]

pub returns-in-Ok-clause-field : goal.returns-in-Ok-clause-field
returns-in-Ok-clause-field c =
    let some : length c.args.text.now ≢ 0 = eqb-false _ 0 (sym c.if-is_empty.ensures) in
    let few : length c.args.text.now ≤ 4096 = omega arith in
    rw c.of-in-Ok.ensures (IsHexField-read c.args.text.now c.in-Ok.octets.items c.in-Ok.ensures.ok some few)

pub returns-in-Ok-clause-octets : goal.returns-in-Ok-clause-octets
returns-in-Ok-clause-octets c = rw c.of-in-Ok.ensures (decoded-octets c.args.text.now c.in-Ok.octets.items c.in-Ok.ensures.ok)
