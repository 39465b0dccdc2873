-- Options that are read, and that are written, by the grammar.
use Rattle.std.specs.Int.{to_be_bytes, from_be_bytes, w16}
use Rattle.std.specs.List.{AllByRecursion}
use Rattle.std.specs.Prelude.{◌==◌, Bool, true, false, Some, if◌then◌else◌}
use Rattle.std.proofs.Common.{◌≡◌, ℕ, zero, suc, ◌+◌, ◌%◌, ◌^◌, ◌<◌, ◌≤◌, List, [], ◌∷◌, ◌++◌, length, take, drop, map, refl, ap, sym, ◌∙◌, subst, arith, length-append}
use Rattle.std.proofs.lemmas.List.{append_assoc, drop-drop, length-drop, length-take, length-take-le, take-append-drop}
use Rattle.std.proofs.Math.Seq.{take-append_seam}
use Rattle.std.proofs.lemmas.Nat.{from_be_bytes-to_be_bytes_2}
use Rattle.pcp_codec.specs.Fields.{octets_at}
use Rattle.pcp_codec.proofs.FieldLemmas.{octets_at-all, u16_at-fits, u16_at-spelled}
use Rattle.pcp_options.specs.declared.options.Item.{Item}
use Rattle.pcp_options.specs.declared.options.Item.TheVariants as Items
use Rattle.pcp_options.specs.Options.{WholeOption, FoundOption, AreOptions, fill, found_after, found_in, found_whole, item_of, items_of, options_text, option_of}
use Rattle.pcp_options.specs.Responses.{AreOctets, FitsItem}
use Rattle.pcp_options.specs.Laws.{OptionsAreFound, FoundAreOptions, ItemsAreRead, without_claim}
use Rattle.pcp_options.proofs.WalkLemmas.{after-drop}
use Rattle.pcp_options.proofs.ResponseLaws.{options-spelled, all-short}

-- what is passed over doesn't count
passed : (front rest : List ℕ) → found_after (length front) (front ++ rest) ≡ found_after 0 rest
passed [] rest = refl
passed (x ∷ front) rest = passed front rest

front-same : (n : ℕ) (content padding rest : List ℕ) → n ≡ length content → length padding ≡ fill (length content) → found_after (n + fill n) (content ++ padding ++ rest) ≡ found_after 0 rest
front-same n content padding rest e p =
    rw e (
    ap (λ k. found_after (length content + k) (content ++ padding ++ rest)) (sym p)
    ∙ ap (λ k. found_after k (content ++ padding ++ rest)) (sym (length-append content padding))
    ∙ passed (content ++ padding) rest)

taken : (content padding rest : List ℕ) → take (length content) (content ++ padding ++ rest) ≡ content
taken content padding rest = ap (take (length content)) (append_assoc content padding rest) ∙ take-append_seam content (padding ++ rest)

-- the first of the options that stand in octets
abbrev first_of : ℕ → ℕ → List ℕ → List FoundOption
first_of code n text = (record { code = code; claimed = n; content = take n text }) ∷ found_after (n + fill n) text

first-same : (code n : ℕ) (content padding rest : List ℕ) → n ≡ length content → length padding ≡ fill (length content) → first_of code n (content ++ padding ++ rest) ≡ (record { code = code; claimed = length content; content = content }) ∷ found_after 0 rest
first-same code n content padding rest e p =
    ap (λ os. (record { code = code; claimed = n; content = take n (content ++ padding ++ rest) }) ∷ os) (front-same n content padding rest e p)
    ∙ ap (λ k. (record { code = code; claimed = k; content = take k (content ++ padding ++ rest) }) ∷ found_after 0 rest) e
    ∙ ap (λ c. (record { code = code; claimed = length content; content = c }) ∷ found_after 0 rest) (taken content padding rest)

-- options that are spelled are found
AreOptions-found : (text : List ℕ) (os : List WholeOption) → AreOptions text os → found_in text ≡ map found_whole os
AreOptions-found text [] h = rw h refl
AreOptions-found text (o ∷ os) (reserved, padding, rest, filled, fits, spelled, behind) =
    ap found_in spelled
    ∙ first-same o.code (from_be_bytes w16 (to_be_bytes w16 (length o.content))) o.content padding rest (from_be_bytes-to_be_bytes_2 (length o.content) fits) filled
    ∙ ap (λ more. found_whole o ∷ more) (AreOptions-found rest os behind)

abbrev filter_with : ℕ → ℕ → List ℕ → Item
filter_with prefix port remote = Items.Filter (record { prefix = prefix; port = port; remote = record { 0 = remote } })

filter-same : (prefix p port : ℕ) (r remote : List ℕ) → p ≡ port → r ≡ remote → Some (filter_with prefix p r) ≡ Some (filter_with prefix port remote)
filter-same prefix p port r remote x y = rw (x, y) refl

abbrev set_with : ℕ → ℕ → Bool → Item
set_with size first parity = Items.PortSet (record { size = size; first = first; parity = parity })

set-same : (s size f first : ℕ) (p parity : Bool) → s ≡ size → f ≡ first → p ≡ parity → Some (set_with s f p) ≡ Some (set_with size first parity)
set-same s size f first p parity x y z = rw (x, y, z) refl

parity-same : (parity : Bool) → ((if parity then 1 else 0) % 2 == 1) ≡ parity
parity-same true = refl
parity-same false = refl

third-same : (a b : List ℕ) → a ≡ b → Some (Items.ThirdParty (record { 0 = a })) ≡ Some (Items.ThirdParty (record { 0 = b }))
third-same a b e = rw e refl

-- an item that is written is read again
item-again : (item : Item) → FitsItem item → item_of (found_whole (option_of item)) ≡ Some item
item-again (Items.ThirdParty a) h = third-same (octets_at a.0 0 16) a.0 (octets_at-all a.0 16 h)
item-again Items.PreferFailure h = refl
item-again (Items.Filter f) h =
    filter-same f.prefix (from_be_bytes w16 (to_be_bytes w16 f.port)) f.port (octets_at f.remote.0 0 16) f.remote.0
    (from_be_bytes-to_be_bytes_2 f.port h.1) (octets_at-all f.remote.0 16 h.0)
item-again (Items.PortSet set) h =
    set-same (from_be_bytes w16 (to_be_bytes w16 set.size)) set.size (from_be_bytes w16 (to_be_bytes w16 set.first)) set.first
    ((if set.parity then 1 else 0) % 2 == 1) set.parity
    (from_be_bytes-to_be_bytes_2 set.size h.0) (from_be_bytes-to_be_bytes_2 set.first h.1) (parity-same set.parity)

-- and so are all items
items-again : (items : List Item) → AllByRecursion FitsItem items → items_of (map found_whole (map option_of items)) ≡ items
items-again [] h = refl
items-again (item ∷ items) (fits, more) =
    rw (item-again item fits) (ap (λ xs. item ∷ xs) (items-again items more))

fits-drop : (n : ℕ) (text : List ℕ) → AreOctets text → AreOctets (drop n text)
fits-drop zero text h = h
fits-drop (suc n) [] h = h
fits-drop (suc n) (x ∷ text) h = fits-drop n text (λ i. h (suc i))

-- whole words have room for the padding too
room : (n size : ℕ) → size % 4 ≡ 0 → n ≤ size → n + fill n ≤ size
room n size words h = omega (arith, words, h)

room-taken : (n : ℕ) (rest : List ℕ) → length (take n rest) ≡ n → n ≤ length rest
room-taken n rest h = let e = length-take n rest in omega (arith, h, e)

-- an option of n octets, its padding, and what is behind it
split : (n : ℕ) (rest : List ℕ) → rest ≡ take n rest ++ take (fill n) (drop n rest) ++ drop (n + fill n) rest
split n rest =
    sym (append_assoc (take n rest) (take (fill n) (drop n rest)) (drop (n + fill n) rest)
    ∙ ap (λ back. take n rest ++ (take (fill n) (drop n rest) ++ back)) (sym (drop-drop (fill n) n rest))
    ∙ ap (λ back. take n rest ++ back) (take-append-drop (fill n) (drop n rest))
    ∙ take-append-drop n rest)

padding-size : (n : ℕ) (rest : List ℕ) → n + fill n ≤ length rest → length (take (fill n) (drop n rest)) ≡ fill n
padding-size n rest h =
    let e = length-drop n rest in
    let few : fill n ≤ length (drop n rest) = omega (arith, e, h) in
    length-take-le (fill n) (drop n rest) few

-- octets in whole words, in which each option has its data, are spelled so
found-AreOptions : (k : ℕ) (text : List ℕ) → length text ≤ k → length text % 4 ≡ 0 → AreOctets text → AllByRecursion (λ o. length o.content ≡ o.claimed) (found_in text) → AreOptions text (map without_claim (found_in text))
found-AreOptions k [] few words fits whole = refl
found-AreOptions k (a ∷ []) few words fits whole = absurd (omega (arith, words))
found-AreOptions k (a ∷ b ∷ []) few words fits whole = absurd (omega (arith, words))
found-AreOptions k (a ∷ b ∷ c ∷ []) few words fits whole = absurd (omega (arith, words))
found-AreOptions zero (code ∷ reserved ∷ high ∷ low ∷ rest) few words fits whole = absurd (omega (arith, few))
found-AreOptions (suc k) (code ∷ reserved ∷ high ∷ low ∷ rest) few words fits whole =
    let n = from_be_bytes w16 (high ∷ low ∷ []) in
    let size : length (take n rest) ≡ n = whole.0 in
    let quarter : length rest % 4 ≡ 0 = omega (arith, words) in
    let enough = room n (length rest) quarter (room-taken n rest size) in
    let back = drop (n + fill n) rest in
    let e = length-drop (n + fill n) rest in
    let fewer : length back ≤ k = omega (arith, e, few) in
    let still : length back % 4 ≡ 0 = omega (arith, e, quarter, enough) in
    let message = code ∷ reserved ∷ high ∷ low ∷ rest in
    let number : to_be_bytes w16 (length (take n rest)) ≡ high ∷ low ∷ [] = ap (to_be_bytes w16) size ∙ u16_at-spelled message fits 2 in
    let bound : n < 2 ^ 16 = u16_at-fits message fits 2 in
    let spelled : message ≡ code ∷ reserved ∷ to_be_bytes w16 (length (take n rest)) ++ take n rest ++ take (fill n) (drop n rest) ++ back =
    ap (λ r. code ∷ reserved ∷ high ∷ low ∷ r) (split n rest)
    ∙ ap (λ h. code ∷ reserved ∷ h ++ take n rest ++ take (fill n) (drop n rest) ++ back) (sym number) in
    let more = after-drop (n + fill n) rest in
    let behind = found-AreOptions k back fewer still (fits-drop (n + fill n) rest (λ i. fits (suc (suc (suc (suc i)))))) (subst (λ os. AllByRecursion (λ o. length o.content ≡ o.claimed) os) more whole.1) in (
      reserved,
      take (fill n) (drop n rest),
      back,
      padding-size n rest enough ∙ ap fill (sym size),
      subst (λ m. m < 2 ^ 16) (sym size) bound,
      spelled,
      subst (λ os. AreOptions back (map without_claim os)) (sym more) behind,
    )

pub options-found : OptionsAreFound
options-found = AreOptions-found

pub found-options : FoundAreOptions
found-options text words fits whole = found-AreOptions (length text) text (omega arith) words fits whole

pub items-read : ItemsAreRead
items-read items h =
    ap items_of (AreOptions-found (options_text (map option_of items)) (map option_of items) (options-spelled (map option_of items) (all-short items h)))
    ∙ items-again items h
