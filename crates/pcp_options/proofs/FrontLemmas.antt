-- The options in front of the first that isn't whole.
use Rattle.std.specs.List.{cons_option}
use Rattle.std.specs.Option.{option_to_list}
use Rattle.std.proofs.Common.{◌≡◌, Bool, true, false, cond, ◌&&◌, List, [], ◌∷◌, ◌++◌, Option, Some, None, refl, ap, sym, ◌∙◌}
use Rattle.std.proofs.lemmas.List.{append-nil, append_assoc}
use Rattle.pcp_options.specs.declared.options.Item.{Item}
use Rattle.pcp_options.specs.Options.{FoundOption, item_of, items_of}
use Rattle.pcp_options.specs.ReadResponses.{are_whole, is_whole, whole_front}

-- what a walk has read of all options, with those that are left
pub record IsFront (os rest : List FoundOption) (items : List Item) : Type 0 where
  pub items_are : items ++ items_of (whole_front rest) ≡ items_of (whole_front os)
  pub wholes_are : are_whole rest ≡ are_whole os

pub front-begins : (os : List FoundOption) → IsFront os os []
front-begins os = record { items_are = refl; wholes_are = refl }

one-more : (t : Option Item) (xs ys : List Item) → (xs ++ option_to_list t) ++ ys ≡ xs ++ cons_option t ys
one-more None xs ys = ap (λ zs. zs ++ ys) (append-nil xs)
one-more (Some x) xs ys = append_assoc xs (x ∷ []) ys

whole-step : (b : Bool) (o : FoundOption) (os : List FoundOption) → b ≡ true → cond b (o ∷ whole_front os) [] ≡ o ∷ whole_front os
whole-step b o os h = rw h refl

-- one whole option more
pub front-more : (all rest behind : List FoundOption) (items : List Item) (o : FoundOption) → IsFront all rest items → rest ≡ o ∷ behind → is_whole o ≡ true → IsFront all behind (items ++ option_to_list (item_of o))
front-more all rest behind items o h e w = record {
  items_are =
      one-more (item_of o) items (items_of (whole_front behind))
      ∙ ap (λ os. items ++ items_of os) (sym (whole-step (is_whole o) o behind w))
      ∙ ap (λ os. items ++ items_of (whole_front os)) (sym e) ∙ h.items_are;
  wholes_are = whole-all (is_whole o) behind w ∙ ap are_whole (sym e) ∙ h.wholes_are;
}
  where
    whole-all : (b : Bool) (os : List FoundOption) → b ≡ true → are_whole os ≡ (b && are_whole os)
    whole-all b os k = rw k refl

-- at an option that isn't whole
pub front-ends : (all rest behind : List FoundOption) (items : List Item) (o : FoundOption) → IsFront all rest items → rest ≡ o ∷ behind → is_whole o ≡ false → (items ≡ items_of (whole_front all)) × (false ≡ are_whole all)
front-ends all rest behind items o h e w = (
  sym (append-nil items) ∙ ap (λ os. items ++ items_of os) (sym (none-step (is_whole o) behind w))
      ∙ ap (λ os. items ++ items_of (whole_front os)) (sym e) ∙ h.items_are,
  none-all (is_whole o) behind w ∙ ap are_whole (sym e) ∙ h.wholes_are,
)
  where
    none-step : (b : Bool) (os : List FoundOption) → b ≡ false → cond b (o ∷ whole_front os) [] ≡ []
    none-step b os k = rw k refl

    none-all : (b : Bool) (os : List FoundOption) → b ≡ false → false ≡ (b && are_whole os)
    none-all b os k = rw k refl

-- where no option is left
pub front-over : (all rest : List FoundOption) (items : List Item) → IsFront all rest items → rest ≡ [] → (items ≡ items_of (whole_front all)) × (true ≡ are_whole all)
front-over all rest items h e = (
  sym (append-nil items) ∙ ap (λ os. items ++ items_of (whole_front os)) (sym e) ∙ h.items_are,
  ap are_whole (sym e) ∙ h.wholes_are,
)
