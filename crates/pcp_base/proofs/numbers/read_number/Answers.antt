use Rattle.std.proofs.Common.{sym, ◌∙◌, refl, arith}
use Rattle.std.proofs.lemmas.Fmt.{decimal_injective}
use Rattle.pcp_base.proofs.Decimals.{IsPlain-decimal, decimal_parsed, decimal_refused, IsUtf8-decimal}
use Rattle.pcp_base.proofs.numbers.read_number.Goals as goal

pub returns-then-not-begins_plainly-clause-none : goal.returns-then-not-begins_plainly-clause-none
returns-then-not-begins_plainly-clause-none c = λ n low same.
    cc (c.if-not-begins_plainly.ensures.1 (rw same (IsPlain-decimal n (omega arith))))

pub returns-in_default-clause-none : goal.returns-in_default-clause-none
returns-in_default-clause-none c = λ n low same.
    c.in_default.ensures.cases.0 (IsUtf8-decimal c.args.text.now n (omega arith) same)

pub returns-in-Ok-parse-clause-value : goal.returns-in-Ok-parse-clause-value
returns-in-Ok-parse-clause-value c =
    let parsed = rw c.in-Ok.ensures.cases.0 at c.in-Ok-parse.ensures.value.0 in
    (decimal_parsed c.args.text.now c.in-Ok-parse.number (c.if-not-begins_plainly.ensures.0 refl) parsed, c.if-number-most.true)

pub returns-in_default-parse-clause-none : goal.returns-in_default-parse-clause-none
returns-in_default-parse-clause-none c = λ n low same.
    let parsed = rw c.in-Ok.ensures.cases.0 at c.in-Ok-parse.ensures.value.0 in
    let read = decimal_parsed c.args.text.now c.in-Ok-parse.number (c.if-not-begins_plainly.ensures.0 refl) parsed in
    let equal = decimal_injective n c.in-Ok-parse.number (omega arith) (omega (arith, parsed.0.1, parsed.1)) (sym same ∙ read) in
    omega arith

pub returns-in_default-parse-2-clause-none : goal.returns-in_default-parse-2-clause-none
returns-in_default-parse-2-clause-none c = λ n low same.
    decimal_refused c.args.text.now n c.in_default-parse.field-0 (omega arith)
    (rw c.in-Ok.ensures.cases.0 at c.in_default-parse.ensures.value.0) same
