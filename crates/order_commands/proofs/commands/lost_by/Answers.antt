use Rattle.std.proofs.Common.{◌≢◌, sym, ap, ◌∙◌, arith, [], codes, length, string_bytes}
use Rattle.std.proofs.lemmas.Bool.{eqb-false}
use Rattle.std.proofs.lemmas.Slice.Eq.{bytes_eq-Decides}
use Rattle.order_commands.proofs.WordLemmas.{lose-found, lose-missed, lose-once, same_true, three-texts}
use Rattle.order_commands.proofs.commands.lost_by.Goals as goal

pub returns-clause-value : goal.returns-clause-value
returns-clause-value c =
    let texts = three-texts string_bytes c.args.words.now c.lose-item.result c.journals-item.result c.address-item.result (omega arith) c.lose-item.is c.journals-item.is c.address-item.is in
    let lose = same_true (bytes_eq-Decides c.as_str.result.now (codes "lose")) c.if-ne.ensures in
    let journals : string_bytes c.journals-item.result ≢ [] = λ e. eqb-false _ 0 (sym c.is_empty.ensures ∙ c.if-is_empty.false) (c.journals-item.result.bytes.ok.0 ∙ ap length e) in
    let found = rw c.as_bytes.ensures.value at c.read_address.ensures.value in
    lose-found _ _ _ c.read_address.result found (rw (sym c.as_str.ensures.value ∙ lose) at texts) journals

pub returns-clause-only : goal.returns-clause-only
returns-clause-only c =
    let texts = three-texts string_bytes c.args.words.now c.lose-item.result c.journals-item.result c.address-item.result (omega arith) c.lose-item.is c.journals-item.is c.address-item.is in
    let once = rw c.as_bytes.ensures.value at c.read_address.ensures.only in
    lose-once _ _ _ _ c.read_address.result once texts

pub returns-clause-none : goal.returns-clause-none
returns-clause-none c =
    let texts = three-texts string_bytes c.args.words.now c.lose-item.result c.journals-item.result c.address-item.result (omega arith) c.lose-item.is c.journals-item.is c.address-item.is in
    let missed = rw c.as_bytes.ensures.value at c.read_address.ensures.none in
    lose-missed _ _ _ _ c.read_address.result missed texts
