-- The checks of the options of a request, as far as they were walked.
use Rattle.std.specs.List.{cons_option}
use Rattle.std.proofs.Common.{◌≡◌, ℕ, ◌+◌, ◌*◌, ◌≤◌, ◌<◌, List, [], ◌∷◌, ◌++◌, length, Option, Some, None, IfSome, refl, ap, sym, ◌∙◌, arith}
use Rattle.std.proofs.lemmas.List.{append_assoc}
use Rattle.std.specs.Option.{option_to_list}
use Rattle.pcp_base.specs.declared.asks.Refusal.{Refusal}
use Rattle.pcp_base.specs.Cases.{first_case}
use Rattle.pcp_codec.specs.declared.requests.Frame.{Frame}
use Rattle.pcp_codec.proofs.FramingLemmas.{first_case-Some, first_case-None}
use Rattle.pcp_options.specs.declared.options.Item.{Item}
use Rattle.pcp_options.specs.declared.options.Seen.{Seen}
use Rattle.pcp_options.specs.Options.{FoundOption, found_in, item_of, items_of}
use Rattle.pcp_options.specs.Steps.{is_again, option_steps, steps_after, options_steps}
use Rattle.pcp_options.specs.Asking.{seen_of}
use Rattle.pcp_options.proofs.WalkLemmas.{append-none}
use Rattle.pcp_options.proofs.RoomLemmas.{singles, room-left, slot-left}

-- what the walk has found so far
pub record IsChecked (frame : Frame) (text rest : List ℕ) (seen : Seen) (items : List Item) : Type 0 where
  pub before : List FoundOption
  pub split : found_in text ≡ before ++ found_in rest
  pub passed : first_case (options_steps frame.lifetime frame.body (found_in text)) ≡ first_case (steps_after frame.lifetime frame.body before (found_in rest))
  pub seen_is : seen ≡ seen_of (items_of before)
  pub noted : items ≡ items_of before
  pub room : 24 * length items + length rest ≤ length text + 24 * singles seen

pub checked-none : (frame : Frame) (text : List ℕ) (seen : Seen) (items : List Item) → seen ≡ seen_of [] → items ≡ [] → IsChecked frame text text seen items
checked-none frame text seen items h n = record {
  before = [];
  split = refl;
  passed = refl;
  seen_is = h;
  noted = n;
  room = let none = ap length n in omega (arith, none);
}

cons-to-list : {X : Type 0} → (o : Option X) → cons_option o [] ≡ option_to_list o
cons-to-list None = refl
cons-to-list (Some x) = refl

cons-append : {X : Type 0} → (o : Option X) (xs ys : List X) → cons_option o (xs ++ ys) ≡ cons_option o xs ++ ys
cons-append None xs ys = refl
cons-append (Some x) xs ys = refl

items-more : (os : List FoundOption) (o : FoundOption) → items_of (os ++ o ∷ []) ≡ items_of os ++ option_to_list (item_of o)
items-more [] o = cons-to-list (item_of o)
items-more (p ∷ os) o = ap (cons_option (item_of p)) (items-more os o) ∙ cons-append (item_of p) (items_of os) (option_to_list (item_of o))

-- an option passes
pub checked-more : (frame : Frame) (text rest behind : List ℕ) (seen more : Seen) (items noted : List Item) (o : FoundOption) → (h : IsChecked frame text rest seen items) → found_in rest ≡ o ∷ found_in behind → length behind + (4 + length o.content) ≤ length rest → first_case (option_steps frame.lifetime frame.body (is_again h.before o.code) o) ≡ None → more ≡ seen_of (items_of h.before ++ option_to_list (item_of o)) → noted ≡ items ++ option_to_list (item_of o) → IsChecked frame text behind more noted
checked-more frame text rest behind seen more items noted o h found shorter pass m n = record {
  before = h.before ++ o ∷ [];
  split = h.split ∙ ap (λ os. h.before ++ os) found ∙ sym (append_assoc h.before (o ∷ []) (found_in behind));
  passed = h.passed ∙ ap (λ os. first_case (steps_after frame.lifetime frame.body h.before os)) found
      ∙ first_case-None (option_steps frame.lifetime frame.body (is_again h.before o.code) o) (steps_after frame.lifetime frame.body (h.before ++ o ∷ []) (found_in behind)) pass;
  seen_is = m ∙ ap seen_of (sym (items-more h.before o));
  noted = n ∙ ap (λ xs. xs ++ option_to_list (item_of o)) h.noted ∙ sym (items-more h.before o);
  room = room-left more items noted h.before seen o frame.lifetime frame.body (length text) (length rest) (length behind) h.seen_is h.room m n pass shorter;
}

-- there is a slot for what it says
pub checked-slot : (frame : Frame) (text rest behind : List ℕ) (seen : Seen) (items : List Item) (item : Option Item) (o : FoundOption) → (h : IsChecked frame text rest seen items) → length text ≤ 1076 → length behind + (4 + length o.content) ≤ length rest → first_case (option_steps frame.lifetime frame.body (is_again h.before o.code) o) ≡ None → item ≡ item_of o → IfSome item (λ _. length items < 47)
checked-slot frame text rest behind seen items item o h few shorter pass i =
    slot-left item items h.before seen o frame.lifetime frame.body (length text) (length rest) (length behind) few h.seen_is h.room i pass shorter

-- an option is refused
pub checked-refused : (frame : Frame) (text rest behind : List ℕ) (seen : Seen) (items : List Item) (o : FoundOption) (r : Refusal) → (h : IsChecked frame text rest seen items) → found_in rest ≡ o ∷ found_in behind → first_case (option_steps frame.lifetime frame.body (is_again h.before o.code) o) ≡ Some r → first_case (options_steps frame.lifetime frame.body (found_in text)) ≡ Some r
checked-refused frame text rest behind seen items o r h found e =
    h.passed ∙ ap (λ os. first_case (steps_after frame.lifetime frame.body h.before os)) found
    ∙ first_case-Some (option_steps frame.lifetime frame.body (is_again h.before o.code) o) (steps_after frame.lifetime frame.body (h.before ++ o ∷ []) (found_in behind)) r e

-- no option is left
pub checked-passed : (frame : Frame) (text rest : List ℕ) (seen : Seen) (items : List Item) → IsChecked frame text rest seen items → found_in rest ≡ [] → first_case (options_steps frame.lifetime frame.body (found_in text)) ≡ None
checked-passed frame text rest seen items h none = h.passed ∙ ap (λ os. first_case (steps_after frame.lifetime frame.body h.before os)) none

all-before : (frame : Frame) (text rest : List ℕ) (seen : Seen) (items : List Item) → (h : IsChecked frame text rest seen items) → found_in rest ≡ [] → h.before ≡ found_in text
all-before frame text rest seen items h none = sym (h.split ∙ ap (λ os. h.before ++ os) none ∙ append-none h.before)

pub checked-seen : (frame : Frame) (text rest : List ℕ) (seen : Seen) (items : List Item) → IsChecked frame text rest seen items → found_in rest ≡ [] → seen ≡ seen_of (items_of (found_in text))
checked-seen frame text rest seen items h none = h.seen_is ∙ ap (λ os. seen_of (items_of os)) (all-before frame text rest seen items h none)

pub checked-items : (frame : Frame) (text rest : List ℕ) (seen : Seen) (items : List Item) → IsChecked frame text rest seen items → found_in rest ≡ [] → items ≡ items_of (found_in text)
checked-items frame text rest seen items h none = h.noted ∙ ap items_of (all-before frame text rest seen items h none)
