-- A success that is written is read again.
use Rattle.std.specs.List.{AllByRecursion}
use Rattle.std.proofs.Common.{◌≡◌, true, List, [], ◌∷◌, map, Some, refl, ap, sym, ◌∙◌}
use Rattle.pcp_options.specs.declared.options.Item.{Item}
use Rattle.pcp_options.specs.declared.options.Item.TheVariants.{ThirdParty, PreferFailure, Filter, PortSet}
use Rattle.pcp_options.specs.Options.{found_in, found_whole, items_of, option_of, options_text}
use Rattle.pcp_options.specs.ReadResponses.{are_single}
use Rattle.pcp_options.specs.Replies.{opcode_of_body, success_text}
use Rattle.pcp_options.specs.Responses.{FitsItem}
use Rattle.pcp_options.specs.ReadingLaws.{WrittenSuccessesAreRead, success_read}
use Rattle.pcp_options.specs.ResponseGrammar.{HasItsLength}
use Rattle.pcp_options.proofs.GrammarLemmas.{successes-read}
use Rattle.pcp_options.proofs.OptionLaws.{items-read, options-found}
use Rattle.pcp_options.proofs.ResponseLaws.{all-short, options-spelled, success-is}

-- an item is written in the length of its code
item-length : (item : Item) → FitsItem item → HasItsLength (option_of item)
item-length (ThirdParty a) h = rw h refl
item-length PreferFailure h = refl
item-length (Filter f) h = let e = h.0 in rw e refl
item-length (PortSet s) h = refl

item-lengths : (items : List Item) → AllByRecursion FitsItem items → AllByRecursion HasItsLength (map option_of items)
item-lengths [] h = tt
item-lengths (item ∷ items) (first, more) = (item-length item first, item-lengths items more)

pub written-read : WrittenSuccessesAreRead
written-read lifetime epoch body items some later fits all mapped single most =
    let os = map option_of items in
    let there : found_in (options_text os) ≡ map found_whole os = options-found (options_text os) os (options-spelled os (all-short items all)) in
    let said : items_of (map found_whole os) ≡ items = ap items_of (sym there) ∙ items-read items all in
    let once : are_single (items_of (map found_whole os)) ≡ true = ap are_single said ∙ single in
    successes-read (success_text lifetime epoch body items) (opcode_of_body body) lifetime epoch body os
    (success-is lifetime epoch body items some later fits all most) mapped (item-lengths items all) once
    ∙ ap (λ is. Some (success_read (opcode_of_body body) lifetime epoch body is)) said
