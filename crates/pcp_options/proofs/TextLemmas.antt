-- The texts of options.
use Rattle.std.specs.Int.{to_be_bytes, w16}
use Rattle.std.proofs.Common.{◌≡◌, ℕ, List, [], ◌∷◌, ◌++◌, length, map, Option, Some, None, refl, ap, ◌∙◌, arith}
use Rattle.std.proofs.lemmas.List.{append-nil}
use Rattle.std.specs.Prelude.{flat_map}
use Rattle.std.specs.List.{cons_option}
use Rattle.pcp_base.specs.declared.addresses.Address.{Address}
use Rattle.pcp_base.specs.declared.leases.Filter as Filters
use Rattle.pcp_base.specs.declared.asks.PortSet as Sets
use Rattle.pcp_options.specs.declared.options.Item.{Item}
use Rattle.pcp_options.specs.declared.options.Item.TheVariants.{ThirdParty, Filter}
use Rattle.pcp_options.specs.Options.{option_text, options_text, option_of}
use Rattle.pcp_options.specs.Replies.{told_item, told_items, told_option, told_text}

-- an option of 16 octets, and one of 20: no padding
pub text-16 : (code : ℕ) (content : List ℕ) → length content ≡ 16 → option_text (record { code = code; content = content }) ≡ code ∷ 0 ∷ 0 ∷ 16 ∷ content
text-16 code content h = rw h (append-nil (code ∷ 0 ∷ 0 ∷ 16 ∷ content))

pub text-20 : (code : ℕ) (content : List ℕ) → length content ≡ 20 → option_text (record { code = code; content = content }) ≡ code ∷ 0 ∷ 0 ∷ 20 ∷ content
text-20 code content h = rw h (append-nil (code ∷ 0 ∷ 0 ∷ 20 ∷ content))

pub third-text : (a : Address) → length a.0 ≡ 16 → option_text (option_of (ThirdParty a)) ≡ 1 ∷ 0 ∷ 0 ∷ 16 ∷ a.0
third-text a h = text-16 1 a.0 h

pub filter-text : (f : Filters.Filter) → length f.remote.0 ≡ 16 → option_text (option_of (Filter f)) ≡ 3 ∷ 0 ∷ 0 ∷ 20 ∷ 0 ∷ f.prefix ∷ to_be_bytes w16 f.port ++ f.remote.0
filter-text f h = text-20 3 (0 ∷ f.prefix ∷ to_be_bytes w16 f.port ++ f.remote.0) (omega (arith, h))

-- the options of a success, one after the other
pub told-step : (told : Option Item) (rest : List Item) → options_text (map option_of (cons_option told rest)) ≡ told_option told ++ options_text (map option_of rest)
told-step None rest = refl
told-step (Some item) rest = refl

pub told-texts : (set : Option Sets.PortSet) (items : List Item) → options_text (map option_of (told_items set items)) ≡ flat_map (told_text set) items
told-texts set [] = refl
told-texts set (item ∷ items) = told-step (told_item set item) (told_items set items) ∙ ap (λ rest. told_text set item ++ rest) (told-texts set items)

-- options that are written, one after the other
pub each-text : (items : List Item) → options_text (map option_of items) ≡ flat_map (λ item. option_text (option_of item)) items
each-text [] = refl
each-text (item ∷ items) = ap (λ rest. option_text (option_of item) ++ rest) (each-text items)
