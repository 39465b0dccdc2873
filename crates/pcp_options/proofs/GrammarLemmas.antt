-- What is read as a response is spelled so, and what is spelled so is read.
use Rattle.std.specs.Int.{from_be_bytes, to_be_bytes, w16, w32}
use Rattle.std.specs.List.{AllByRecursion}
use Rattle.std.proofs.Common.{◌≡◌, ℕ, zero, suc, ◌+◌, ◌%◌, ◌==◌, ◌<◌, ◌≤◌, ◌&&◌, ◌||◌, nat_le, not, Bool, true, false, cond, List, [], ◌∷◌, ◌++◌, length, map, take, drop, Option, Some, None, refl, ap, sym, ◌∙◌, subst, arith, length-append}
use Rattle.std.proofs.lemmas.Bool.{and_from, and_parts}
use Rattle.std.proofs.lemmas.Bool.Decides.{nat_tests}
use Rattle.std.proofs.lemmas.List.{append_assoc, drop-drop, get_or-drop, length-drop}
use Rattle.std.proofs.Math.Seq.{drop-append_seam}
use Rattle.pcp_base.specs.Codes.{code_number}
use Rattle.pcp_codec.specs.declared.requests.Body.{Body}
use Rattle.pcp_codec.specs.declared.requests.Body.TheVariants.{Announce, Map, Peer}
use Rattle.pcp_codec.specs.declared.responses.Head.{Head}
use Rattle.pcp_codec.specs.Fields.{octets_at}
use Rattle.pcp_codec.specs.Packets.{IsData}
use Rattle.pcp_codec.specs.Requests.{opcode_of, data_length, body_of}
use Rattle.pcp_codec.specs.Responses.{head_of}
use Rattle.pcp_codec.proofs.FieldLemmas.{octets_at-from, octets_at-split}
use Rattle.pcp_codec.proofs.PacketLemmas.{body_with, data-back, data-size, data-spelled}
use Rattle.pcp_codec.proofs.ResponseLemmas.{head-framed, head-is, is-head}
use Rattle.pcp_options.specs.declared.options.Item.{Item}
use Rattle.pcp_options.specs.declared.responses.Response.{Response}
use Rattle.pcp_options.specs.Options.{FoundOption, WholeOption, fill, found_after, found_in, found_whole, items_of}
use Rattle.pcp_options.specs.Laws.{without_claim}
use Rattle.pcp_options.specs.Replies.{opcode_of_body}
use Rattle.pcp_options.specs.Responses.{AreOctets, IsSuccess}
use Rattle.pcp_options.specs.ReadResponses.{are_single, are_whole, is_known, is_mapped, is_whole, response_as, response_behind, response_by, response_of, response_under, text_behind, whole_front}
use Rattle.pcp_options.specs.Steps.{has_another_length}
use Rattle.pcp_options.specs.ReadingLaws.{SuccessesAreRead, success_read}
use Rattle.pcp_options.specs.ResponseGrammar.{AreItems, HasItsLength, IsResponse, head_in}
use Rattle.pcp_options.proofs.OptionLaws.{options-found, found-options}

take-few : (n : ℕ) (xs : List ℕ) → length (take n xs) ≤ n
take-few zero xs = omega arith
take-few (suc n) [] = omega arith
take-few (suc n) (x ∷ xs) = omega (arith, take-few n xs)

-- no option has more data than it claims
few-after : (n : ℕ) (text : List ℕ) → AllByRecursion (λ o. length o.content ≤ o.claimed) (found_after n text)
few-after (suc n) [] = tt
few-after (suc n) (x ∷ text) = few-after n text
few-after zero [] = tt
few-after zero (a ∷ []) = tt
few-after zero (a ∷ b ∷ []) = tt
few-after zero (a ∷ b ∷ c ∷ []) = tt
few-after zero (code ∷ reserved ∷ high ∷ low ∷ rest) = (
  take-few (from_be_bytes w16 (high ∷ low ∷ [])) rest,
  few-after (from_be_bytes w16 (high ∷ low ∷ []) + fill (from_be_bytes w16 (high ∷ low ∷ []))) rest,
)

-- of whole options each has the data that it claims
whole-size : (o : FoundOption) → length o.content ≤ o.claimed → is_whole o ≡ true → length o.content ≡ o.claimed
whole-size o few h =
    let there = (and_parts (nat_le o.claimed (length o.content)) (not (is_known o.code) || not (has_another_length o)) h).0 in
    let enough : o.claimed ≤ length o.content = grind (arith, nat_tests) in
    omega (arith, few, enough)

abbrev claiming : FoundOption → ℕ → FoundOption
claiming o n = record { code = o.code; claimed = n; content = o.content }

same-option : (o : FoundOption) → length o.content ≡ o.claimed → found_whole (without_claim o) ≡ o
same-option o e = ap (claiming o) e

-- what whole options are
pub record AreTaken (os : List FoundOption) : Type 0 where
  pub sizes : AllByRecursion (λ o. length o.content ≡ o.claimed) os
  pub lengths : AllByRecursion HasItsLength (map without_claim os)
  pub same : map found_whole (map without_claim os) ≡ os
  pub front : whole_front os ≡ os

front-more : (b : Bool) (o : FoundOption) (os : List FoundOption) → b ≡ true → cond b (o ∷ os) [] ≡ o ∷ os
front-more b o os h = rw h refl

taken-more : (o : FoundOption) (os : List FoundOption) → length o.content ≤ o.claimed → is_whole o ≡ true → AreTaken os → AreTaken (o ∷ os)
taken-more o os few h more =
    let size = whole-size o few h in
    let same = same-option o size in
    record {
      sizes = (size, more.sizes);
      lengths = (ap is_whole same ∙ h, more.lengths);
      same = ap (λ x. x ∷ map found_whole (map without_claim os)) same ∙ ap (λ xs. o ∷ xs) more.same;
      front = front-more (is_whole o) o (whole_front os) h ∙ ap (λ xs. o ∷ xs) more.front;
    }

wholes-taken : (os : List FoundOption) → AllByRecursion (λ o. length o.content ≤ o.claimed) os → are_whole os ≡ true → AreTaken os
wholes-taken [] few h = record { sizes = tt; lengths = tt; same = refl; front = refl }
wholes-taken (o ∷ os) few h =
    let parts = and_parts (is_whole o) (are_whole os) h in
    taken-more o os few.0 parts.0 (wholes-taken os few.1 parts.1)

-- and the other way round
lengths-whole : (os : List WholeOption) → AllByRecursion HasItsLength os → are_whole (map found_whole os) ≡ true
lengths-whole [] h = refl
lengths-whole (o ∷ os) (first, more) = and_from (is_whole (found_whole o)) (are_whole (map found_whole os)) first (lengths-whole os more)

lengths-front : (os : List WholeOption) → AllByRecursion HasItsLength os → whole_front (map found_whole os) ≡ map found_whole os
lengths-front [] h = refl
lengths-front (o ∷ os) (first, more) = front-more (is_whole (found_whole o)) (found_whole o) (whole_front (map found_whole os)) first ∙ ap (λ xs. found_whole o ∷ xs) (lengths-front os more)

-- the tests of a response with a code, and its options
abbrev fits_code : ℕ → Bool → List Item → Bool
fits_code code all items = not (code == 0) || (all && are_single items)

options-of : (code : ℕ) (text : List ℕ) → length text % 4 ≡ 0 → AreOctets text → fits_code code (are_whole (found_in text)) (items_of (whole_front (found_in text))) ≡ true → AreItems code text (items_of (whole_front (found_in text)))
options-of zero text words octets h =
    let parts = and_parts (are_whole (found_in text)) (are_single (items_of (whole_front (found_in text)))) h in
    let t = wholes-taken (found_in text) (few-after 0 text) parts.0 in (
      map without_claim (found_in text),
      found-options text words octets t.sizes,
      t.lengths,
      ap items_of (t.front ∙ sym t.same),
      parts.1,
    )
options-of (suc code) text words octets h = refl

not-zero : (n : ℕ) → (suc n == 0) ≡ false
not-zero n = grind (arith, nat_tests)

options-are : (code : ℕ) (text : List ℕ) (items : List Item) → AreItems code text items → (items_of (whole_front (found_in text)) ≡ items) × (fits_code code (are_whole (found_in text)) items ≡ true)
options-are zero text items (os, spelled, lengths, same, single) =
    let found = options-found text os spelled in (
      ap (λ xs. items_of (whole_front xs)) found ∙ ap items_of (lengths-front os lengths) ∙ sym same,
      and_from (are_whole (found_in text)) (are_single items) (ap are_whole found ∙ lengths-whole os lengths) single,
    )
options-are (suc code) text items h = (
  sym h,
  ap (λ none. not none || (are_whole (found_in text) && are_single items)) (not-zero code),
)

-- a body of an opcode
opcode-of-body : (opcode : ℕ) (fields : List ℕ) (body : Body) → IsData opcode fields body → opcode_of_body body ≡ opcode
opcode-of-body opcode fields Announce h = sym h.0
opcode-of-body opcode fields (Map c) h = sym h.0
opcode-of-body opcode fields (Peer c port remote) h = sym h.0

-- what stands behind the head: data and options
data-split : (message : List ℕ) (n : ℕ) → 24 + n ≤ length message → drop 24 message ≡ octets_at message 24 n ++ drop (24 + n) message
data-split message n room =
    let e = length-drop 24 message in
    let there : n ≤ length (drop 24 message) = omega (arith, e, room) in
    let from : octets_at message 24 n ≡ octets_at (drop 24 message) 0 n = octets_at-from message 24 0 n in
    let rest : drop n (drop 24 message) ≡ drop (24 + n) message = drop-drop n 24 message in
    sym (ap (λ f. f ++ drop (24 + n) message) from ∙ ap (λ b. octets_at (drop 24 message) 0 n ++ b) (sym rest) ∙ octets_at-split (drop 24 message) n there)

words-by : (a b : Bool) → cond a 0 (cond b 36 56) % 4 ≡ 0
words-by true b = refl
words-by false true = refl
words-by false false = refl

data-words : (opcode : ℕ) → data_length opcode % 4 ≡ 0
data-words opcode = words-by (opcode == 0) (opcode == 1)

octets-behind : (message : List ℕ) (k : ℕ) → AreOctets message → AreOctets (drop k message)
octets-behind message k fits = λ i. subst (λ o. o < 256) (sym (get_or-drop k message i 0)) (fits (k + i))

-- a response that stands there
response-by : (b : Bool) (r s : Response) → cond b (Some r) None ≡ Some s → (b ≡ true) × (r ≡ s)
response-by true r s h = let same : r ≡ s = cc in (refl, same)
response-by false r s h = absurd cc

found-under : (message : List ℕ) (o : Option Head) (r : Response) → AreOctets message → head_of message ≡ o → response_under o message ≡ Some r → IsResponse message r
found-under message None r octets e h = absurd cc
found-under message (Some head) r octets e h =
    let body = body_of message in
    let text = text_behind message body in
    let os = found_in text in
    let items = items_of (whole_front os) in
    let found = response-by (is_mapped body && fits_code (code_number head.code) (are_whole os) items) (response_as head body items) r h in
    let tests = and_parts (is_mapped body) (fits_code (code_number head.code) (are_whole os) items) found.0 in
    let framed = head-framed message head e in
    let n = data_length (opcode_of message) in
    let low = framed.0.opcode in
    let room = framed.0.room in
    let fields_are = data-spelled message (opcode_of message) octets low in
    let place : text ≡ drop (24 + n) message =
    ap (λ k. drop (24 + data_length k) message) (opcode-of-body (opcode_of message) (octets_at message 24 n) body fields_are) in
    let quarter = data-words (opcode_of message) in
    let all = framed.0.words in
    let size = length-drop (24 + n) message in
    let words : length (drop (24 + n) message) % 4 ≡ 0 = omega (arith, size, quarter, all, room) in
    subst (IsResponse message) found.1 (record {
      head = head-is message head octets e;
      fields = octets_at message 24 n;
      behind = text;
      spelled = data-split message n room ∙ ap (λ b. octets_at message 24 n ++ b) (sym place);
      data_of = subst (λ k. IsData k (octets_at message 24 n) body) framed.1 fields_are;
      mapped = tests.0;
      options = options-of (code_number head.code) text (subst (λ b. length b % 4 ≡ 0) (sym place) words) (subst AreOctets (sym place) (octets-behind message (24 + n) octets)) tests.1;
    })

pub response-found : (message : List ℕ) (r : Response) → AreOctets message → response_of message ≡ Some r → IsResponse message r
response-found message r octets h = found-under message (head_of message) r octets refl h

-- the other way
abbrev response_with : Head → Body → List Item → Response
response_with head body items = response_as head body items

response-passes : (b : Bool) (r : Response) → b ≡ true → cond b (Some r) None ≡ Some r
response-passes b r h = rw h refl

drop-fields : (n : ℕ) (fields behind : List ℕ) → length fields ≡ n → drop n (fields ++ behind) ≡ behind
drop-fields n fields behind e = ap (λ k. drop k (fields ++ behind)) (sym e) ∙ drop-append_seam fields behind

pub response-only : (message : List ℕ) (r : Response) → IsResponse message r → response_of message ≡ Some r
response-only message r h =
    let head = head_in r in
    let e = is-head message head h.head in
    let framed = head-framed message head e in
    let size = data-size r.opcode h.fields r.body h.data_of in
    let least = framed.0.least in
    let whole : message ≡ octets_at message 0 24 ++ h.fields ++ h.behind =
    sym (octets_at-split message 24 least) ∙ ap (λ b. octets_at message 0 24 ++ b) h.spelled
    ∙ sym (append_assoc (octets_at message 0 24) h.fields h.behind) in
    let body : body_of message ≡ r.body =
    ap (λ o. body_with o message) framed.1
    ∙ ap (body_with r.opcode) whole ∙ data-back message h.fields h.behind r.opcode r.body h.data_of in
    let text : text_behind message (body_of message) ≡ h.behind =
    ap (text_behind message) body
    ∙ ap (λ o. drop (24 + data_length o) message) (opcode-of-body r.opcode h.fields r.body h.data_of)
    ∙ sym (drop-drop (data_length r.opcode) 24 message)
    ∙ ap (drop (data_length r.opcode)) h.spelled
    ∙ drop-fields (data_length r.opcode) h.fields h.behind size.1 in
    let options = options-are (code_number r.code) h.behind r.items h.options in
    ap (λ o. response_under o message) e
    ∙ ap (λ b. response_behind head b (found_in (text_behind message (body_of message)))) body
    ∙ ap (λ t. response_behind head r.body (found_in t)) text
    ∙ ap (λ items. response_by head r.body items (are_whole (found_in h.behind))) options.0
    ∙ response-passes (is_mapped r.body && fits_code (code_number r.code) (are_whole (found_in h.behind)) r.items) r
    (and_from (is_mapped r.body) (fits_code (code_number r.code) (are_whole (found_in h.behind)) r.items) h.mapped options.1)

-- a success of the grammar is a response
front-twelve : (opcode reserved lifetime epoch : ℕ) (last : List ℕ) → length last ≡ 12 → length (2 ∷ (128 + opcode) ∷ reserved ∷ 0 ∷ to_be_bytes w32 lifetime ++ to_be_bytes w32 epoch ++ last) ≡ 24
front-twelve opcode reserved lifetime epoch last e = omega (arith, e)

success-response : (message : List ℕ) (opcode lifetime epoch : ℕ) (body : Body) (os : List WholeOption) → IsSuccess message opcode lifetime epoch body os → is_mapped body ≡ true → AllByRecursion HasItsLength os → are_single (items_of (map found_whole os)) ≡ true → IsResponse message (success_read opcode lifetime epoch body (items_of (map found_whole os)))
success-response message opcode lifetime epoch body os h mapped lengths single =
    let size = data-size opcode h.fields body h.data_of in
    let front = 2 ∷ (128 + opcode) ∷ h.reserved ∷ 0 ∷ to_be_bytes w32 lifetime ++ to_be_bytes w32 epoch ++ h.last in
    let whole : message ≡ front ++ (h.fields ++ h.behind) = h.spelled ∙ append_assoc front h.fields h.behind in
    let both-sizes = length-append h.fields h.behind in
    let fields-size = size.1 in
    let room : data_length opcode ≤ length (h.fields ++ h.behind) = omega (arith, both-sizes, fields-size) in
    record {
      head = record {
        reserved = h.reserved;
        last = h.last;
        twelve = h.twelve;
        behind = h.fields ++ h.behind;
        spelled = whole;
        opcode = size.0;
        room = room;
        numbers_fit = h.numbers_fit;
        words = h.words;
        most = h.most;
      };
      fields = h.fields;
      behind = h.behind;
      spelled = ap (drop 24) whole ∙ drop-fields 24 front (h.fields ++ h.behind) (front-twelve opcode h.reserved lifetime epoch h.last h.twelve);
      data_of = h.data_of;
      mapped = mapped;
      options = (os, h.options_of, lengths, refl, single);
    }

pub successes-read : SuccessesAreRead
successes-read message opcode lifetime epoch body os h mapped lengths single =
    response-only message (success_read opcode lifetime epoch body (items_of (map found_whole os))) (success-response message opcode lifetime epoch body os h mapped lengths single)
