-- The reply to a request that is asked is a response.
use Rattle.std.specs.Int.{to_be_bytes, from_be_bytes, w16, w32}
use Rattle.std.specs.List.{AllByRecursion, cons_option}
use Rattle.std.specs.Prelude.{replicate, ⊤, max, min}
use Rattle.std.proofs.Common.{◌≡◌, ℕ, zero, suc, ◌+◌, ◌-◌, ◌*◌, ◌/◌, ◌%◌, ◌^◌, ◌<◌, ◌≤◌, ◌==◌, nat_lt, not, Bool, true, false, cond, List, [], ◌∷◌, ◌++◌, length, map, take, drop, Option, Some, None, Result, Ok, Err, refl, ap, sym, ◌∙◌, subst, arith, lit≤, zero-add, length-append}
use Rattle.std.proofs.lemmas.List.{length-drop, length-take}
use Rattle.std.proofs.lemmas.Bool.{not-false, eqb-true, ltb-false}
use Rattle.pcp_base.specs.declared.addresses.Address.{Address}
use Rattle.pcp_base.specs.declared.leases.Filter as Filters
use Rattle.pcp_base.specs.declared.codes.Code.{Code}
use Rattle.pcp_base.specs.declared.asks.PortSet as Sets
use Rattle.pcp_base.specs.declared.asks.Refusal.{Refusal}
use Rattle.pcp_base.specs.declared.asks.Ask.{Ask}
use Rattle.pcp_base.specs.declared.asks.Answer.{Answer}
use Rattle.pcp_base.specs.declared.asks.Answer.TheVariants.{Refused, Announced, Gone, Mapped, Peered}
use Rattle.pcp_base.specs.declared.configs.Config.{Config}
use Rattle.pcp_base.specs.Cases.{Case, first_case}
use Rattle.pcp_base.specs.Codes.{code_number}
use Rattle.pcp_base.specs.Pairing.{place_of}
use Rattle.pcp_codec.specs.declared.requests.Common.{Common}
use Rattle.pcp_codec.specs.declared.requests.Body.{Body}
use Rattle.pcp_codec.specs.declared.requests.Body.TheVariants.{Announce, Map, Peer}
use Rattle.pcp_codec.specs.declared.requests.Frame.{Frame}
use Rattle.pcp_codec.specs.declared.requests.Framed.TheVariants as Framed
use Rattle.pcp_codec.specs.Fields.{octet, octets_at, u16_at}
use Rattle.pcp_codec.specs.Requests.{opcode_of, data_length, common_of, body_of, frame_of}
use Rattle.pcp_codec.specs.Framing.{frame_steps, framed_unless, is_silent, reading_of}
use Rattle.pcp_codec.specs.Replies.{head, reply_length, refusal_last, refusal_text}
use Rattle.pcp_codec.proofs.FieldLemmas.{length-octets_at, u16_at-fits}
use Rattle.pcp_codec.proofs.FramingLemmas.{Passes, passed}
use Rattle.pcp_options.specs.declared.options.Item.{Item}
use Rattle.pcp_options.specs.declared.options.Item.TheVariants.{ThirdParty, PreferFailure, Filter, PortSet}
use Rattle.pcp_options.specs.declared.verdicts.Verdict.TheVariants.{Silent, Asked}
use Rattle.pcp_options.specs.Options.{FoundOption, fill, found_after, found_in, item_of, items_of, option_of, options_text}
use Rattle.pcp_options.specs.Steps.{is_again, option_steps, steps_after, options_steps}
use Rattle.pcp_options.specs.Asking.{third_of, subject_of, ask_of}
use Rattle.pcp_options.specs.Verdicts.{behind_data, options_in, third_steps, later_steps, request_steps, asked_by, verdict_by, verdict_of}
use Rattle.pcp_options.specs.Replies.{assigned, body_text, common_text, remote_text, opcode_of_body, reply_text, success_text, told_item, told_items, told_text}
use Rattle.pcp_options.specs.Responses.{AreOctets, FitsAnswer, FitsBody, FitsCommon, FitsItem, FitsSet, IsError, IsResponseTo, IsSuccessOf, RepliesAreResponses}
use Rattle.pcp_options.proofs.WalkLemmas.{after-drop, third_in, filter_in, set_in, item_by}
use Rattle.pcp_options.proofs.TextLemmas.{told-step}
use Rattle.pcp_options.proofs.ResponseLaws.{common-size, success-size, success-is}

none-split : (b : Bool) (r : Refusal) (p q t : Option Refusal) → (p ≡ None → (q ≡ None) × (t ≡ None)) → cond b (Some r) p ≡ None → (cond b (Some r) q ≡ None) × (t ≡ None)
none-split true r p q t later h = absurd cc
none-split false r p q t later h = later h

-- no case of two lists applies
pub first-none : (xs ys : List (Case Refusal)) → first_case (xs ++ ys) ≡ None → (first_case xs ≡ None) × (first_case ys ≡ None)
first-none [] ys h = (refl, h)
first-none (c ∷ xs) ys h = none-split c.applies c.result (first_case (xs ++ ys)) (first_case xs) (first_case ys) (first-none xs ys) h

items-same : (its : List Item) (r : Result Ask Code) (p : Option ℕ) (place : ℕ) (ask : Ask) (items : List Item) → asked_by its r p ≡ Asked place ask items → its ≡ items
items-same its (Err code) p place ask items h = absurd cc
items-same its (Ok a) None place ask items h = absurd cc
items-same its (Ok a) (Some q) place ask items h = cc

asked-split : (b : Bool) (first : Option Refusal) (config : Config) (source : Address) (frame : Frame) (its : List Item) (place : ℕ) (ask : Ask) (items : List Item) → cond b Silent (verdict_by config source frame its first) ≡ Asked place ask items → (b ≡ false) × (first ≡ None) × (its ≡ items)
asked-split true first config source frame its place ask items h = absurd cc
asked-split false (Some r) config source frame its place ask items h = absurd cc
asked-split false None config source frame its place ask items h =
    (refl, refl, items-same its (ask_of (subject_of source (third_of its)) frame its) (place_of config.subscribers (subject_of source (third_of its))) place ask items h)

-- what a request that is asked has passed
record IsPassed (request : List ℕ) (items : List Item) : Type 0 where
  source : Address
  passes : Passes request source
  steps : first_case (options_steps (frame_of request).lifetime (frame_of request).body (options_in (frame_of request) request)) ≡ None
  same : items_of (options_in (frame_of request) request) ≡ items

judged : (config : Config) (source : Address) (request : List ℕ) (place : ℕ) (ask : Ask) (items : List Item) → verdict_of config source request ≡ Asked place ask items → IsPassed request items
unfolding verdict_of
judged config source request place ask items h =
    let frame = frame_of request in
    let os = options_in frame request in
    let parts = asked-split (is_silent request) (first_case (request_steps config source request)) config source frame (items_of os) place ask items h in
    let frames = first-none (frame_steps request source) (later_steps config source frame os) parts.1 in
    let later = first-none (options_steps frame.lifetime frame.body os) (third_steps config source (third_of (items_of os))) frames.1 in
    let reading : reading_of request source ≡ Framed.Whole frame =
    ap (λ b. cond b Framed.Silent (framed_unless (first_case (frame_steps request source)) frame)) parts.0
    ∙ ap (λ r. framed_unless r frame) frames.0 in
    record {
      source = source;
      passes = (passed request source frame reading).0;
      steps = later.0;
      same = parts.2;
    }

common-fits : (request : List ℕ) → AreOctets request → FitsCommon (common_of request)
common-fits request h = (refl, refl, u16_at-fits request h 40, u16_at-fits request h 42)

body-by : (a b : Bool) (c : Common) (port : ℕ) (remote : Address) → FitsCommon c → port < 2 ^ 16 → length remote.0 ≡ 16 → FitsBody (cond a Announce (cond b (Map c) (Peer c port remote)))
body-by true b c port remote h p r = tt
body-by false true c port remote h p r = h
body-by false false c port remote h p r = (h, p, r)

pub body-fits : (request : List ℕ) → AreOctets request → FitsBody (body_of request)
body-fits request h =
    body-by (opcode_of request == 0) (opcode_of request == 1) (common_of request) (u16_at request 60) (record { 0 = octets_at request 64 16 })
    (common-fits request h) (u16_at-fits request h 60) refl

assigned-fits : (body : Body) (external : ℕ) (address : Address) → FitsBody body → external < 2 ^ 16 → length address.0 ≡ 16 → FitsBody (assigned body external address)
assigned-fits Announce external address h e a = tt
assigned-fits (Map c) external address h e a = (h.0, a, h.2, e)
assigned-fits (Peer c port remote) external address h e a = ((h.0.0, a, h.0.2, e), h.1, h.2)

-- the data is as long as the opcode says
size-of-body : (body : Body) → FitsBody body → length (body_text body) ≡ data_length (opcode_of_body body)
size-of-body Announce h = refl
size-of-body (Map c) h = common-size c h
size-of-body (Peer c port remote) h =
    let size = common-size c h.0 in
    let sixteen = h.2 in
    let e = length-append (common_text c) (remote_text port remote) in
    omega (arith, e, size, sixteen)

opcode-assigned : (body : Body) (external : ℕ) (address : Address) → opcode_of_body (assigned body external address) ≡ opcode_of_body body
opcode-assigned Announce external address = refl
opcode-assigned (Map c) external address = refl
opcode-assigned (Peer c port remote) external address = refl

length-by : (a b : Bool) (c : Common) (port : ℕ) (remote : Address) → data_length (opcode_of_body (cond a Announce (cond b (Map c) (Peer c port remote)))) ≡ cond a 0 (cond b 36 56)
length-by true b c port remote = refl
length-by false true c port remote = refl
length-by false false c port remote = refl

length-of-body : (request : List ℕ) → data_length (opcode_of_body (body_of request)) ≡ data_length (opcode_of request)
length-of-body request = length-by (opcode_of request == 0) (opcode_of request == 1) (common_of request) (u16_at request 60) (record { 0 = octets_at request 64 16 })

-- items hold what fits
octets-take : (n : ℕ) (text : List ℕ) → AreOctets text → AreOctets (take n text)
octets-take zero text h i = omega arith
octets-take (suc n) [] h i = omega arith
octets-take (suc n) (x ∷ text) h zero = h zero
octets-take (suc n) (x ∷ text) h (suc i) = octets-take n text (λ j. h (suc j)) i

abbrev FitsSome : Option Item → Type 0
FitsSome None = ⊤
FitsSome (Some item) = FitsItem item

item-by-fits : (a b c d : Bool) (t : Address) (f : Filters.Filter) (s : Sets.PortSet) → FitsItem (ThirdParty t) → FitsItem (Filter f) → FitsItem (PortSet s) → FitsSome (item_by a b c d t f s)
item-by-fits true b c d t f s x y z = x
item-by-fits false true c d t f s x y z = tt
item-by-fits false false true d t f s x y z = y
item-by-fits false false false true t f s x y z = z
item-by-fits false false false false t f s x y z = tt

item-fits : (o : FoundOption) → AreOctets o.content → FitsSome (item_of o)
item-fits o h =
    item-by-fits (o.code == 1) (o.code == 2) (o.code == 3) (o.code == 130) (third_in o) (filter_in o) (set_in o)
    refl (refl, u16_at-fits o.content h 2) (u16_at-fits o.content h 0, u16_at-fits o.content h 2)

cons-fits : (item : Option Item) (items : List Item) → FitsSome item → AllByRecursion FitsItem items → AllByRecursion FitsItem (cons_option item items)
cons-fits None items h all = all
cons-fits (Some item) items h all = (h, all)

items-fit : (n : ℕ) (text : List ℕ) → AreOctets text → AllByRecursion FitsItem (items_of (found_after n text))
items-fit (suc n) [] h = tt
items-fit (suc n) (x ∷ rest) h = items-fit n rest (λ i. h (suc i))
items-fit zero [] h = tt
items-fit zero (a ∷ []) h = tt
items-fit zero (a ∷ b ∷ []) h = tt
items-fit zero (a ∷ b ∷ c ∷ []) h = tt
items-fit zero (code ∷ reserved ∷ high ∷ low ∷ rest) h =
    let n = from_be_bytes w16 (high ∷ low ∷ []) in
    let o : FoundOption = record { code = code; claimed = n; content = take n rest } in
    let fits : AreOctets rest = λ i. h (suc (suc (suc (suc i)))) in
    cons-fits (item_of o) (items_of (found_after (n + fill n) rest)) (item-fits o (octets-take n rest fits)) (items-fit (n + fill n) rest fits)

set-fits : (set : Option Sets.PortSet) (items : List Item) → FitsSet set → AllByRecursion FitsItem items → AllByRecursion FitsItem (cons_option (told_item set (PortSet (record { size = 0; first = 0; parity = false }))) items)
set-fits None items h all = all
set-fits (Some s) items h all = (h, all)

told-fit : (set : Option Sets.PortSet) (items : List Item) → FitsSet set → AllByRecursion FitsItem items → AllByRecursion FitsItem (told_items set items)
told-fit set [] h all = tt
told-fit set (ThirdParty a ∷ items) h all = (all.0, told-fit set items h all.1)
told-fit set (PreferFailure ∷ items) h all = (all.0, told-fit set items h all.1)
told-fit set (Filter f ∷ items) h all = (all.0, told-fit set items h all.1)
told-fit set (PortSet s ∷ items) h all = set-fits set (told_items set items) h (told-fit set items h all.1)

-- the length of what a success tells
abbrev told_length : Option Sets.PortSet → List Item → ℕ
told_length set items = length (options_text (map option_of (told_items set items)))

abbrev size_of : Option Sets.PortSet → Option Item → ℕ
size_of set None = 0
size_of set (Some item) = length (told_text set item)

told-cons : (set : Option Sets.PortSet) (item : Option Item) (items : List Item) → told_length set (cons_option item items) ≡ size_of set item + told_length set items
told-cons set None items = rw zero-add refl
told-cons set (Some item) items =
    ap length (told-step (told_item set item) (told_items set items))
    ∙ length-append (told_text set item) (options_text (map option_of (told_items set items)))

set-size : (set : Option Sets.PortSet) (s : Sets.PortSet) (m : ℕ) → 12 ≤ m → length (told_text set (PortSet s)) ≤ m
set-size None s m h = omega arith
set-size (Some t) s m h = h

size-by : (set : Option Sets.PortSet) (o : FoundOption) (m : ℕ) (a b c d : Bool) → (a ≡ true → 20 ≤ m) → (b ≡ true → 4 ≤ m) → (c ≡ true → 24 ≤ m) → (d ≡ true → 12 ≤ m) → size_of set (item_by a b c d (third_in o) (filter_in o) (set_in o)) ≤ m
size-by set o m true b c d x y z w = x refl
size-by set o m false true c d x y z w = y refl
size-by set o m false false true d x y z w = z refl
size-by set o m false false false true x y z w = set-size set (set_in o) m (w refl)
size-by set o m false false false false x y z w = omega arith

-- which rows don't apply
rows : (p q r : Bool) (x y z : Refusal) (rest : Option Refusal) → cond p (Some x) (cond q (Some y) (cond r (Some z) rest)) ≡ None → r ≡ false
rows true q r x y z rest h = absurd cc
rows false true r x y z rest h = absurd cc
rows false false true x y z rest h = absurd cc
rows false false false x y z rest h = refl

row : (p : Bool) (x : Refusal) (rest : Option Refusal) → cond p (Some x) rest ≡ None → p ≡ false
row true x rest h = absurd cc
row false x rest h = refl

abbrev found-with : ℕ → ℕ → List ℕ → FoundOption
found-with code claimed content = record { code = code; claimed = claimed; content = content }

-- the data of a known option has its length
pub known : (lifetime : ℕ) (body : Body) (again : Bool) (code k n : ℕ) (content : List ℕ) → code ≡ k → first_case (option_steps lifetime body again (found-with code n content)) ≡ None → first_case (option_steps lifetime body again (found-with k n content)) ≡ None
known lifetime body again code k n content e h = subst (λ j. first_case (option_steps lifetime body again (found-with j n content)) ≡ None) e h

length-1 : (lifetime : ℕ) (body : Body) (again : Bool) (n : ℕ) (content : List ℕ) → first_case (option_steps lifetime body again (found-with 1 n content)) ≡ None → n ≡ 16
length-1 lifetime body again n content h = eqb-true n 16 (not-false (n == 16) (rows (nat_lt (length content) n) again (not (n == 16)) _ _ _ _ h))

length-3 : (lifetime : ℕ) (body : Body) (again : Bool) (n : ℕ) (content : List ℕ) → first_case (option_steps lifetime body again (found-with 3 n content)) ≡ None → n ≡ 20
length-3 lifetime body again n content h = eqb-true n 20 (not-false (n == 20) (rows (nat_lt (length content) n) again (not (n == 20)) _ _ _ _ h))

length-130 : (lifetime : ℕ) (body : Body) (again : Bool) (n : ℕ) (content : List ℕ) → first_case (option_steps lifetime body again (found-with 130 n content)) ≡ None → n ≡ 5
length-130 lifetime body again n content h = eqb-true n 5 (not-false (n == 5) (rows (nat_lt (length content) n) again (not (n == 5)) _ _ _ _ h))

size-bound : (lifetime : ℕ) (body : Body) (again : Bool) (set : Option Sets.PortSet) (code n : ℕ) (content : List ℕ) → first_case (option_steps lifetime body again (found-with code n content)) ≡ None → size_of set (item_of (found-with code n content)) ≤ 4 + n + fill n
size-bound lifetime body again set code n content h =
    size-by set (found-with code n content) (4 + n + fill n) (code == 1) (code == 2) (code == 3) (code == 130)
    (λ e. let k = length-1 lifetime body again n content (known lifetime body again code 1 n content (eqb-true code 1 e) h) in rw k (lit≤ tt))
    (λ e. omega arith)
    (λ e. let k = length-3 lifetime body again n content (known lifetime body again code 3 n content (eqb-true code 3 e) h) in rw k (lit≤ tt))
    (λ e. let k = length-130 lifetime body again n content (known lifetime body again code 130 n content (eqb-true code 130 e) h) in rw k (lit≤ tt))

enough-for : (n size taken : ℕ) → size % 4 ≡ 0 → taken ≤ size → n ≤ taken → n + fill n ≤ size
enough-for n size taken words within h = omega (arith, words, within, h)

-- what a success tells is no longer than the options of the request
told-fits : (k : ℕ) (text : List ℕ) → length text ≤ k → length text % 4 ≡ 0 → (lifetime : ℕ) (body : Body) (before : List FoundOption) (set : Option Sets.PortSet) → first_case (steps_after lifetime body before (found_in text)) ≡ None → told_length set (items_of (found_in text)) ≤ length text
told-fits k [] few words lifetime body before set h = omega arith
told-fits k (a ∷ []) few words lifetime body before set h = absurd (omega (arith, words))
told-fits k (a ∷ b ∷ []) few words lifetime body before set h = absurd (omega (arith, words))
told-fits k (a ∷ b ∷ c ∷ []) few words lifetime body before set h = absurd (omega (arith, words))
told-fits zero (code ∷ reserved ∷ high ∷ low ∷ rest) few words lifetime body before set h = absurd (omega (arith, few))
told-fits (suc k) (code ∷ reserved ∷ high ∷ low ∷ rest) few words lifetime body before set h =
    let n = from_be_bytes w16 (high ∷ low ∷ []) in
    let content = take n rest in
    let o = found-with code n content in
    let again = is_again before code in
    let os = found_after (n + fill n) rest in
    let back = drop (n + fill n) rest in
    let more = after-drop (n + fill n) rest in
    let both = first-none (option_steps lifetime body again o) (steps_after lifetime body (before ++ o ∷ []) os) h in
    let there = ltb-false (length content) n (row (nat_lt (length content) n) _ _ both.0) in
    let size = length-take n rest in
    let quarter : length rest % 4 ≡ 0 = omega (arith, words) in
    let within : length content ≤ length rest = omega (arith, size) in
    let enough = enough-for n (length rest) (length content) quarter within there in
    let e = length-drop (n + fill n) rest in
    let fewer : length back ≤ k = omega (arith, e, few) in
    let still : length back % 4 ≡ 0 = omega (arith, e, quarter, enough) in
    let rest-told : told_length set (items_of os) ≤ length back =
    subst (λ xs. told_length set (items_of xs) ≤ length back) (sym more)
    (told-fits k back fewer still lifetime body (before ++ o ∷ []) set (subst (λ xs. first_case (steps_after lifetime body (before ++ o ∷ []) xs) ≡ None) more both.1)) in
    let bound = size-bound lifetime body again set code n content both.0 in
    let sum = told-cons set (item_of o) (items_of os) in
    omega (arith, sum, bound, rest-told, e, enough)

data-words-by : (a b : Bool) → cond a 0 (cond b 36 56) % 4 ≡ 0
data-words-by true b = refl
data-words-by false true = refl
data-words-by false false = refl

data-words : (opcode : ℕ) → data_length opcode % 4 ≡ 0
data-words opcode = data-words-by (opcode == 0) (opcode == 1)

text-words : (size text field : ℕ) → size % 4 ≡ 0 → field % 4 ≡ 0 → text ≡ size - (24 + field) → 24 + field ≤ size → text % 4 ≡ 0
text-words size text field words d e room = omega (arith, words, d, e, room)

octets-drop : (n : ℕ) (text : List ℕ) → AreOctets text → AreOctets (drop n text)
octets-drop zero text h = h
octets-drop (suc n) [] h = h
octets-drop (suc n) (x ∷ text) h = octets-drop n text (λ i. h (suc i))

-- a success is no longer than its request
success-fits : (request : List ℕ) (items : List Item) (set : Option Sets.PortSet) (lifetime epoch : ℕ) (body : Body) → IsPassed request items → FitsBody body → data_length (opcode_of_body body) ≡ data_length (opcode_of request) → length (success_text lifetime epoch body (told_items set items)) ≤ 1100
success-fits request items set lifetime epoch body p fits same =
    let text = behind_data (frame_of request) request in
    let room = p.passes.room in
    let most = p.passes.most in
    let words = p.passes.words in
    let e = length-drop (24 + data_length (opcode_of request)) request in
    let f = size-of-body body fits ∙ same in
    let quarter : length text % 4 ≡ 0 = text-words (length request) (length text) (data_length (opcode_of request)) words (data-words (opcode_of request)) e room in
    let told : told_length set items ≤ length text =
    subst (λ xs. told_length set xs ≤ length text) p.same
    (told-fits (length text) text (omega arith) quarter (frame_of request).lifetime (frame_of request).body [] set p.steps) in
    let size = success-size (opcode_of_body body) lifetime epoch (body_text body) (options_text (map option_of (told_items set items))) in
    omega (arith, size, told, f, e, room, most)

success-of : (request : List ℕ) (items : List Item) (set : Option Sets.PortSet) (lifetime epoch : ℕ) (body : Body) → AreOctets request → IsPassed request items → FitsBody body → FitsSet set → lifetime < 2 ^ 32 → epoch < 2 ^ 32 → data_length (opcode_of_body body) ≡ data_length (opcode_of request) → IsSuccessOf (success_text lifetime epoch body (told_items set items)) lifetime epoch body (told_items set items)
success-of request items set lifetime epoch body h p fits s some later same =
    let all : AllByRecursion FitsItem items = subst (λ xs. AllByRecursion FitsItem xs) p.same (items-fit 0 (behind_data (frame_of request) request) (octets-drop (frame_of request).options request h)) in
    success-is lifetime epoch body (told_items set items) some later fits (told-fit set items s all) (success-fits request items set lifetime epoch body p fits same)

last-twelve : (b : Bool) (request : List ℕ) → length (cond b (replicate 12 0) (octets_at request 12 12)) ≡ 12
last-twelve true request = refl
last-twelve false request = refl

whole-length : (size reply : ℕ) → size % 4 ≡ 0 → size ≤ 1100 → 24 ≤ size → reply ≡ max 24 ((min size 1100 + 3) / 4 * 4) → reply ≡ size
whole-length size reply words most least e = omega (arith, words, most, least, e)

seven : (n : ℕ) → n % 128 % 128 ≡ n % 128
seven n = omega arith

error-size : (opcode code lifetime epoch : ℕ) (last behind : List ℕ) → length last ≡ 12 → length (head opcode code lifetime epoch last ++ behind) ≡ 24 + length behind
error-size opcode code lifetime epoch last behind twelve =
    let h = length-append (head opcode code lifetime epoch last) behind in
    let g = length-append (to_be_bytes w32 lifetime ++ to_be_bytes w32 epoch) last in
    omega (arith, h, g, twelve)

error-words : (size reply behind whole : ℕ) → size % 4 ≡ 0 → reply ≡ size → behind ≡ reply - 24 → whole ≡ 24 + behind → 24 ≤ size → whole % 4 ≡ 0
error-words size reply behind whole words r b w least = omega (arith, words, r, b, w, least)

error-of : (request : List ℕ) (items : List Item) (r : Refusal) (epoch : ℕ) → IsPassed request items → IsError (refusal_text request r epoch) (opcode_of request) (code_number r.code) r.lifetime epoch
error-of request items r epoch p =
    let room = p.passes.room in
    let most = p.passes.most in
    let words = p.passes.words in
    let least : 24 ≤ length request = omega (arith, room) in
    let reply = whole-length (length request) (reply_length request) words most least refl in
    let behind = octets_at request 24 (reply_length request - 24) in
    let size = length-octets_at request 24 (reply_length request - 24) in
    let twelve = last-twelve r.parsed request in
    let sum = length-append (refusal_last request r) behind in
    let whole = error-size (opcode_of request) (code_number r.code) r.lifetime epoch (refusal_last request r) behind twelve in
    record {
      reserved = 0;
      last = refusal_last request r;
      twelve = twelve;
      behind = behind;
      spelled = ap (λ o. 2 ∷ (128 + o) ∷ 0 ∷ code_number r.code ∷ to_be_bytes w32 r.lifetime ++ to_be_bytes w32 epoch ++ refusal_last request r ++ behind) (seven (octet request 1));
      room = omega (arith, size, reply, room);
      words = error-words (length request) (reply_length request) (length behind) (length (refusal_text request r epoch)) words reply size whole least;
      most = omega (arith, size, reply, most, whole, least);
    }

reply-by : (request : List ℕ) (items : List Item) (answer : Answer) (epoch : ℕ) → AreOctets request → IsPassed request items → FitsAnswer answer → epoch < 2 ^ 32 → IsResponseTo request items answer epoch (reply_text request items answer epoch)
reply-by request items (Refused r) epoch h p fits later = error-of request items r epoch p
reply-by request items Announced epoch h p fits later = success-is 0 epoch Announce [] (omega arith) later tt tt (omega arith)
reply-by request items Gone epoch h p fits later =
    success-of request items None 0 epoch (body_of request) h p (body-fits request h) tt (omega arith) later (length-of-body request)
reply-by request items (Mapped lifetime external address set) epoch h p fits later =
    success-of request items set lifetime epoch (assigned (body_of request) external address) h p
    (assigned-fits (body_of request) external address (body-fits request h) fits.1 fits.2) fits.3 fits.0 later
    (ap data_length (opcode-assigned (body_of request) external address) ∙ length-of-body request)
reply-by request items (Peered lifetime external address) epoch h p fits later =
    success-of request items None lifetime epoch (assigned (body_of request) external address) h p
    (assigned-fits (body_of request) external address (body-fits request h) fits.1 fits.2) tt fits.0 later
    (ap data_length (opcode-assigned (body_of request) external address) ∙ length-of-body request)

pub reply-is : RepliesAreResponses
reply-is request ask items answer epoch h (config, source, place, judgement) fits later = reply-by request items answer epoch h (judged config source request place ask items judgement) fits later
