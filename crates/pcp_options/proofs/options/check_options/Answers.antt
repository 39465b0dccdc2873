use Rattle.std.proofs.Common.{◌≡◌, ◌∷◌, None, option_map, ap, sym, ◌∙◌, rules, arith}
use Rattle.pcp_base.specs.Cases.{first_case}
use Rattle.pcp_base.specs.Refusals.{unparsed}
use Rattle.pcp_options.specs.Options.{found_in, items_of}
use Rattle.pcp_options.specs.Raw.{found_of}
use Rattle.pcp_options.specs.Steps.{option_steps}
use Rattle.pcp_options.specs.Asking.{seen_of}
use Rattle.std.specs.Prelude.{◌++◌}
use Rattle.std.specs.Option.{option_to_list}
use Rattle.pcp_options.proofs.CheckLemmas.{checked-more, checked-refused, checked-slot}
use Rattle.pcp_options.proofs.options.check_options.Goals as goal

pub returns-in-Some-fault_of-clause-refused : goal.returns-in-Some-fault_of-clause-refused
returns-in-Some-fault_of-clause-refused c =
    let frame = c.args.frame.now in
    let h = c.loop-option.invariant in
    let o = found_of c.in-Some.option in
    let found : found_in c.loop-option.rest.now ≡ o ∷ found_in c.in-Some.behind.now =
    first_of (search (rules, c.in-Some.ensures.found), grind (arith, c.in-Some.ensures.found, c.in-Some.option-is, c.in-Some.behind-is)) in
    checked-refused frame c.args.text.now c.loop-option.rest.now c.in-Some.behind.now c.loop-option.seen c.loop-option.items o (unparsed c.in-Some-fault_of.code) h found
    (ap (λ again. first_case (option_steps frame.lifetime frame.body again o)) (sym (c.has.ensures h.before h.seen_is))
    ∙ sym c.fault_of.ensures ∙ ap (option_map unparsed) c.in-Some-fault_of.is)

pub note-requires : goal.note-requires
note-requires c =
    let frame = c.args.frame.now in
    let h = c.loop-option.invariant in
    let o = found_of c.in-Some.option in
    let none : c.fault_of.result ≡ None = search (rules, c.in_default-fault_of.is) in
    checked-slot frame c.args.text.now c.loop-option.rest.now c.in-Some.behind.now c.loop-option.seen c.loop-option.items c.read_item-item.result o h c.requires.few c.in-Some.ensures.shorter
    (ap (λ again. first_case (option_steps frame.lifetime frame.body again o)) (sym (c.has.ensures h.before h.seen_is))
    ∙ sym c.fault_of.ensures ∙ ap (option_map unparsed) none)
    c.read_item-item.ensures

pub loop-option-preserved : goal.loop-option-preserved
loop-option-preserved c =
    let frame = c.args.frame.now in
    let h = c.loop-option.invariant in
    let o = found_of c.in-Some.option in
    let found : found_in c.loop-option.rest.now ≡ o ∷ found_in c.in-Some.behind.now =
    first_of (search (rules, c.in-Some.ensures.found), grind (arith, c.in-Some.ensures.found, c.in-Some.option-is, c.in-Some.behind-is)) in
    let none : c.fault_of.result ≡ None = search (rules, c.in_default-fault_of.is) in
    checked-more frame c.args.text.now c.loop-option.rest.now c.in-Some.behind.now c.loop-option.seen c.with-seen.result c.loop-option.items c.note.new.self o h found c.in-Some.ensures.shorter
    (ap (λ again. first_case (option_steps frame.lifetime frame.body again o)) (sym (c.has.ensures h.before h.seen_is))
    ∙ sym c.fault_of.ensures ∙ ap (option_map unparsed) none)
    (c.with-seen.ensures (items_of h.before) h.seen_is ∙ ap (λ i. seen_of (items_of h.before ++ option_to_list i)) c.read_item-item.ensures)
    (c.note.ensures ∙ ap (λ i. c.loop-option.items ++ option_to_list i) c.read_item-item.ensures)
