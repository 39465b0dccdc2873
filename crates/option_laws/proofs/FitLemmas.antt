-- The fields that are read of octets fit.
use Rattle.std.specs.List.{AllByRecursion, cons_option}
use Rattle.std.specs.Int.{from_be_bytes, w16}
use Rattle.std.proofs.Common.{◌≡◌, ℕ, zero, suc, ◌+◌, ◌^◌, ◌<◌, ◌==◌, ◌&&◌, ◌||◌, not, Bool, true, false, cond, List, [], ◌∷◌, take, drop, Option, Some, None, refl, sym, ap, subst, arith}
use Rattle.std.specs.Prelude.{⊤, option_map, Result, Ok, Err}
use Rattle.std.proofs.lemmas.Bool.{and_parts}
use Rattle.pcp_base.specs.declared.addresses.Address.{Address}
use Rattle.pcp_base.specs.declared.asks.Ask.{Ask}
use Rattle.pcp_base.specs.declared.asks.PortSet as Sets
use Rattle.pcp_base.specs.declared.asks.Refusal.{Refusal}
use Rattle.pcp_base.specs.declared.codes.Code.{Code}
use Rattle.pcp_base.specs.declared.codes.Code.TheVariants.{Success}
use Rattle.pcp_base.specs.declared.configs.Config.{Config}
use Rattle.pcp_base.specs.declared.leases.Filter as Filters
use Rattle.pcp_base.specs.Cases.{first_case}
use Rattle.pcp_base.specs.Codes.{code_number}
use Rattle.pcp_base.specs.Pairing.{place_of}
use Rattle.pcp_codec.specs.declared.requests.Frame.{Frame}
use Rattle.pcp_codec.specs.declared.responses.Head.{Head}
use Rattle.pcp_codec.specs.Fields.{octet, u32_at}
use Rattle.pcp_codec.specs.Framing.{is_silent}
use Rattle.pcp_codec.specs.Requests.{body_of, data_length, frame_of}
use Rattle.pcp_codec.specs.Responses.{code_of, head_of, head_with, is_framed}
use Rattle.pcp_codec.proofs.FieldLemmas.{u16_at-fits, u32_at-fits}
use Rattle.pcp_options.specs.declared.options.Item.{Item}
use Rattle.pcp_options.specs.declared.options.Item.TheVariants.{ThirdParty, PreferFailure, Filter, PortSet}
use Rattle.pcp_options.specs.declared.responses.Response.{Response}
use Rattle.pcp_options.specs.declared.verdicts.Verdict.{Verdict}
use Rattle.pcp_options.specs.declared.verdicts.Verdict.TheVariants.{Silent, Asked}
use Rattle.pcp_options.specs.Asking.{subject_of, third_of, ask_of}
use Rattle.pcp_options.specs.Options.{FoundOption, fill, found_after, found_in, item_of, items_of}
use Rattle.pcp_options.specs.ReadResponses.{are_single, are_whole, is_mapped, is_whole, response_as, response_of, response_under, text_behind, whole_front}
use Rattle.pcp_options.specs.Replies.{opcode_of_body}
use Rattle.pcp_options.specs.Responses.{AreOctets, FitsBody, FitsItem}
use Rattle.pcp_options.specs.Verdicts.{asked_by, asked_for, behind_data, options_in, request_steps, verdict_by, verdict_of}
use Rattle.pcp_options.proofs.ReplyLaws.{body-fits}
use Rattle.option_laws.specs.Fitting.{RequestsFit, ResponsesAreMapped, ResponsesFit}

-- ---- octets

octets-take : (n : ℕ) (text : List ℕ) → AreOctets text → AreOctets (take n text)
octets-take zero text h i = omega arith
octets-take (suc n) [] h i = omega arith
octets-take (suc n) (x ∷ text) h zero = h zero
octets-take (suc n) (x ∷ text) h (suc i) = octets-take n text (λ j. h (suc j)) i

pub octets-drop : (n : ℕ) (text : List ℕ) → AreOctets text → AreOctets (drop n text)
octets-drop zero text h i = h i
octets-drop (suc n) [] h i = omega arith
octets-drop (suc n) (x ∷ text) h i = octets-drop n text (λ j. h (suc j)) i

-- ---- options

abbrev pub HasOctets : FoundOption → Type 0
HasOctets o = AreOctets o.content

pub found-octets : (n : ℕ) (text : List ℕ) → AreOctets text → AllByRecursion HasOctets (found_after n text)
found-octets (suc n) [] h = tt
found-octets (suc n) (x ∷ rest) h = found-octets n rest (λ i. h (suc i))
found-octets zero [] h = tt
found-octets zero (a ∷ []) h = tt
found-octets zero (a ∷ b ∷ []) h = tt
found-octets zero (a ∷ b ∷ c ∷ []) h = tt
found-octets zero (code ∷ reserved ∷ high ∷ low ∷ rest) h =
    let n = from_be_bytes w16 (high ∷ low ∷ []) in
    let behind : AreOctets rest = λ i. h (suc (suc (suc (suc i)))) in
    (octets-take n rest behind, found-octets (n + fill n) rest behind)

-- those in front of the first that isn't whole
front-by : (b : Bool) (o : FoundOption) (os : List FoundOption) → HasOctets o → AllByRecursion HasOctets os → AllByRecursion HasOctets (cond b (o ∷ os) [])
front-by true o os h all = (h, all)
front-by false o os h all = tt

pub front-octets : (os : List FoundOption) → AllByRecursion HasOctets os → AllByRecursion HasOctets (whole_front os)
front-octets [] h = tt
front-octets (o ∷ os) h = front-by (is_whole o) o (whole_front os) h.0 (front-octets os h.1)

abbrev FitsSome : Option Item → Type 0
FitsSome None = ⊤
FitsSome (Some item) = FitsItem item

item-by : (a b c d : Bool) (t : Address) (f : Filters.Filter) (s : Sets.PortSet) → FitsItem (ThirdParty t) → FitsItem (Filter f) → FitsItem (PortSet s)
    → FitsSome (cond a (Some (ThirdParty t)) (cond b (Some PreferFailure) (cond c (Some (Filter f)) (cond d (Some (PortSet s)) None))))
item-by true b c d t f s x y z = x
item-by false true c d t f s x y z = tt
item-by false false true d t f s x y z = y
item-by false false false true t f s x y z = z
item-by false false false false t f s x y z = tt

item-fits : (o : FoundOption) → HasOctets o → FitsSome (item_of o)
item-fits o h = item-by (o.code == 1) (o.code == 2) (o.code == 3) (o.code == 130) _ _ _ refl (refl, u16_at-fits o.content h 2) (u16_at-fits o.content h 0, u16_at-fits o.content h 2)

cons-fits : (item : Option Item) (items : List Item) → FitsSome item → AllByRecursion FitsItem items → AllByRecursion FitsItem (cons_option item items)
cons-fits None items h all = all
cons-fits (Some item) items h all = (h, all)

items-fit : (os : List FoundOption) → AllByRecursion HasOctets os → AllByRecursion FitsItem (items_of os)
items-fit [] h = tt
items-fit (o ∷ os) h = cons-fits (item_of o) (items_of os) (item-fits o h.0) (items-fit os h.1)

-- ---- responses

pub record HasParts (message : List ℕ) (r : Response) : Type 0 where
  pub lifetime : r.lifetime ≡ u32_at message 4
  pub epoch : r.epoch ≡ u32_at message 8
  pub body : r.body ≡ body_of message
  pub items : r.items ≡ items_of (whole_front (found_in (text_behind message (body_of message))))
  pub mapped : is_mapped r.body ≡ true
  pub single : r.code ≡ Success → are_single r.items ≡ true

head-by : (message : List ℕ) (b : Bool) (c : Option Code) (head : Head) → cond {A = Option Head} b (option_map (head_with message) c) None ≡ Some head → (code : Code) × (head_with message code ≡ head)
head-by message true (Some code) head h = (code, cc)
head-by message true None head h = absurd cc
head-by message false c head h = absurd cc

single-by : (code : Code) (all single : Bool) → (not (code_number code == 0) || (all && single)) ≡ true → code ≡ Success → single ≡ true
single-by code all single h e = last all single (subst (λ c. (not (code_number c == 0) || (all && single)) ≡ true) e h)
  where
    last : (a b : Bool) → (a && b) ≡ true → b ≡ true
    last true b h = h
    last false b h = absurd cc

response-by : (b : Bool) (given r : Response) → cond {A = Option Response} b (Some given) None ≡ Some r → (b ≡ true) × (given ≡ r)
response-by true given r h = (refl, cc)
response-by false given r h = absurd cc

parts-under : (message : List ℕ) (o : Option Head) (r : Response) → head_of message ≡ o → response_under o message ≡ Some r → HasParts message r
parts-under message None r e h = absurd cc
parts-under message (Some head) r e h =
    let os = found_in (text_behind message (body_of message)) in
    let given = response_as head (body_of message) (items_of (whole_front os)) in
    let known = response-by (is_mapped (body_of message) && (not (code_number head.code == 0) || (are_whole os && are_single (items_of (whole_front os))))) given r h in
    let tests = and_parts (is_mapped (body_of message)) (not (code_number head.code == 0) || (are_whole os && are_single (items_of (whole_front os)))) known.0 in
    let of_head = head-by message (is_framed message) (code_of (octet message 3)) head e in
    subst (λ (x : Response). HasParts message x) known.1 (record {
      lifetime = ap (λ (x : Head). x.lifetime) (sym of_head.1);
      epoch = ap (λ (x : Head). x.epoch) (sym of_head.1);
      body = refl;
      items = refl;
      mapped = tests.0;
      single = single-by head.code (are_whole os) (are_single (items_of (whole_front os))) tests.1;
    })

pub parts-of : (message : List ℕ) (r : Response) → response_of message ≡ Some r → HasParts message r
parts-of message r h = parts-under message (head_of message) r refl h

pub responses-fit : ResponsesFit
responses-fit message r octets h =
    let parts = parts-of message r h in
    let behind = text_behind message (body_of message) in
    record {
      lifetime = subst (λ n. n < 2 ^ 32) (sym parts.lifetime) (u32_at-fits message octets 4);
      epoch = subst (λ n. n < 2 ^ 32) (sym parts.epoch) (u32_at-fits message octets 8);
      body = subst FitsBody (sym parts.body) (body-fits message octets);
      items = subst (λ (items : List Item). AllByRecursion FitsItem items) (sym parts.items) (items-fit (whole_front (found_in behind))
          (front-octets (found_in behind) (found-octets 0 behind (octets-drop (24 + data_length (opcode_of_body (body_of message))) message octets))));
    }

pub responses-mapped : ResponsesAreMapped
responses-mapped message r h = let parts = parts-of message r h in record { mapped = parts.mapped; single = parts.single }

-- ---- requests

by-place : (items : List Item) (config : Config) (frame : Frame) (address : Address) (place : ℕ) (ask : Ask) (told : List Item) → asked_for config frame items address ≡ Asked place ask told → told ≡ items
by-place items config frame address place ask told h = by (ask_of address frame items) (place_of config.subscribers address) h
  where
    by : (r : Result Ask Code) (p : Option ℕ) → asked_by items r p ≡ Asked place ask told → told ≡ items
    by (Err code) p h = absurd cc
    by (Ok a) None h = absurd cc
    by (Ok a) (Some n) h = cc

asked-by : (config : Config) (source : Address) (frame : Frame) (items : List Item) (o : Option Refusal) (place : ℕ) (ask : Ask) (told : List Item)
    → verdict_by config source frame items o ≡ Asked place ask told → told ≡ items
asked-by config source frame items (Some refusal) place ask told h = absurd cc
asked-by config source frame items None place ask told h = by-place items config frame (subject_of source (third_of items)) place ask told h

pub items-asked : (config : Config) (source : Address) (message : List ℕ) (place : ℕ) (ask : Ask) (items : List Item) → verdict_of config source message ≡ Asked place ask items
    → items ≡ items_of (options_in (frame_of message) message)
unfolding verdict_of
items-asked config source message place ask items h = either (is_silent message) h
  where
    either : (b : Bool) → cond {A = Verdict} b Silent
        (verdict_by config source (frame_of message) (items_of (options_in (frame_of message) message)) (first_case (request_steps config source message))) ≡ Asked place ask items
        → items ≡ items_of (options_in (frame_of message) message)
    either true h = absurd cc
    either false h = asked-by config source (frame_of message) _ (first_case (request_steps config source message)) place ask items h

pub requests-fit : RequestsFit
requests-fit config source message place ask items octets h = record {
  lifetime = u32_at-fits message octets 4;
  body = body-fits message octets;
  options = subst (λ (xs : List Item). AllByRecursion FitsItem xs) (sym (items-asked config source message place ask items h)) (items-fit (options_in (frame_of message) message)
      (found-octets 0 (behind_data (frame_of message) message) (octets-drop (frame_of message).options message octets)));
}
