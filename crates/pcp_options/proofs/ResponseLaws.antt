-- A success that is written is one of the grammar.
use Rattle.std.specs.Int.{to_be_bytes, w16, w32}
use Rattle.std.specs.List.{AllByRecursion}
use Rattle.std.specs.Prelude.{replicate}
use Rattle.std.proofs.Common.{◌≡◌, ℕ, ◌+◌, ◌%◌, ◌^◌, ◌<◌, List, [], ◌∷◌, ◌++◌, length, map, refl, ap, sym, subst, arith, rules, length-append}
use Rattle.std.proofs.lemmas.List.{append_assoc, length-replicate}
use Rattle.pcp_codec.specs.declared.requests.Common.{Common}
use Rattle.pcp_codec.specs.declared.requests.Body.{Body}
use Rattle.pcp_codec.specs.declared.requests.Body.TheVariants.{Announce, Map, Peer}
use Rattle.pcp_codec.specs.Packets.{IsCommon, IsData}
use Rattle.pcp_codec.specs.Replies.{head}
use Rattle.pcp_options.specs.declared.options.Item.{Item}
use Rattle.pcp_options.specs.declared.options.Item.TheVariants.{ThirdParty, PreferFailure, Filter, PortSet}
use Rattle.pcp_options.specs.Options.{WholeOption, AreOptions, fill, option_of, option_text, options_text}
use Rattle.pcp_options.specs.Replies.{opcode_of_body, common_text, remote_text, body_text}
use Rattle.pcp_options.specs.Responses.{FitsCommon, FitsBody, FitsItem, SuccessesAreResponses}

-- options that are written are spelled so
pub options-spelled : (os : List WholeOption) → AllByRecursion (λ o. length o.content < 2 ^ 16) os → AreOptions (options_text os) os
options-spelled [] h = refl
options-spelled (o ∷ os) (fits, more) = (
  0,
  replicate (fill (length o.content)) 0,
  options_text os,
  length-replicate (fill (length o.content)) 0,
  fits,
  refl,
  options-spelled os more,
)

-- the data of an item is short
short : (item : Item) → FitsItem item → length (option_of item).content < 2 ^ 16
short (ThirdParty a) h = omega (arith, h)
short PreferFailure h = omega arith
short (Filter f) h = let k = h.0 in omega (arith, k)
short (PortSet set) h = omega arith

pub all-short : (items : List Item) → AllByRecursion FitsItem items → AllByRecursion (λ o. length o.content < 2 ^ 16) (map option_of items)
all-short [] h = tt
all-short (item ∷ items) (fits, more) = (short item fits, all-short items more)

-- options are whole words
option-words : (n : ℕ) → (4 + n + fill n) % 4 ≡ 0
option-words n = omega arith

pub both-words : (a b : ℕ) → a % 4 ≡ 0 → b % 4 ≡ 0 → (a + b) % 4 ≡ 0
both-words a b x y = omega (arith, x, y)

option-size : (o : WholeOption) → length (option_text o) ≡ 4 + length o.content + fill (length o.content)
option-size o =
    let zeros = replicate (fill (length o.content)) 0 in
    let e = length-append o.content zeros in
    let f = length-replicate {A = ℕ} (fill (length o.content)) 0 in
    omega (arith, e, f)

pub options-words : (os : List WholeOption) → length (options_text os) % 4 ≡ 0
options-words [] = refl
options-words (o ∷ os) =
    subst (λ k. k % 4 ≡ 0) (sym (length-append (option_text o) (options_text os)))
    (both-words (length (option_text o)) (length (options_text os))
    (subst (λ k. k % 4 ≡ 0) (sym (option-size o)) (option-words (length o.content))) (options-words os))

-- the data that MAP and PEER share is spelled so
common-is : (c : Common) → FitsCommon c → IsCommon (common_text c) c
common-is c h = record {
  reserved = 0 ∷ 0 ∷ 0 ∷ [];
  three = refl;
  spelled = first_of (simp append_assoc, search (rules, append_assoc));
  lengths = (h.0, h.1);
  ports_fit = (h.2, h.3);
}

pub data-is : (body : Body) → FitsBody body → IsData (opcode_of_body body) (body_text body) body
data-is Announce h = (refl, refl)
data-is (Map c) h = (refl, common-is c h)
data-is (Peer c port remote) h = (
  refl,
  record {
    front = common_text c;
    common = common-is c h.0;
    reserved = 0 ∷ 0 ∷ [];
    two = refl;
    spelled = first_of (simp append_assoc, search (rules, append_assoc));
    sixteen = h.2;
    port_fits = h.1;
  },
)

pub common-size : (c : Common) → FitsCommon c → length (common_text c) ≡ 36
common-size c h =
    let nonce = h.0 in
    let address = h.1 in
    let e = length-append (c.nonce.0 ++ c.protocol ∷ 0 ∷ 0 ∷ 0 ∷ to_be_bytes w16 c.internal ++ to_be_bytes w16 c.external) c.address.0 in
    let f = length-append (c.nonce.0 ++ c.protocol ∷ 0 ∷ 0 ∷ 0 ∷ to_be_bytes w16 c.internal) (to_be_bytes w16 c.external) in
    let g = length-append c.nonce.0 (c.protocol ∷ 0 ∷ 0 ∷ 0 ∷ to_be_bytes w16 c.internal) in
    omega (arith, e, f, g, nonce, address)

pub body-words : (body : Body) → FitsBody body → length (body_text body) % 4 ≡ 0
body-words Announce h = refl
body-words (Map c) h = rw (common-size c h) refl
body-words (Peer c port remote) h =
    let sixteen = h.2 in
    let size = common-size c h.0 in
    let e = length-append (common_text c) (remote_text port remote) in
    omega (arith, e, size, sixteen)

pub success-size : (opcode lifetime epoch : ℕ) (fields text : List ℕ) → length (head opcode 0 lifetime epoch (replicate 12 0) ++ fields ++ text) ≡ 24 + length fields + length text
success-size opcode lifetime epoch fields text =
    let h = length-append (head opcode 0 lifetime epoch (replicate 12 0) ++ fields) text in
    let g = length-append (head opcode 0 lifetime epoch (replicate 12 0)) fields in
    omega (arith, h, g)

opcode-is : (body : Body) → opcode_of_body body % 128 ≡ opcode_of_body body
opcode-is Announce = refl
opcode-is (Map c) = refl
opcode-is (Peer c port remote) = refl

pub success-is : SuccessesAreResponses
success-is lifetime epoch body items some later fits all most =
    let fields = body_text body in
    let text = options_text (map option_of items) in
    let size = success-size (opcode_of_body body) lifetime epoch fields text in
    record {
      reserved = 0;
      last = replicate 12 0;
      twelve = refl;
      fields = fields;
      behind = text;
      spelled = ap (λ o. 2 ∷ (128 + o) ∷ 0 ∷ 0 ∷ to_be_bytes w32 lifetime ++ to_be_bytes w32 epoch ++ replicate 12 0 ++ fields ++ text) (opcode-is body);
      data_of = data-is body fits;
      options_of = options-spelled (map option_of items) (all-short items all);
      numbers_fit = (some, later);
      words = subst (λ k. k % 4 ≡ 0) (sym size) (both-words (24 + length fields) (length text) (both-words 24 (length fields) refl (body-words body fits)) (options-words (map option_of items)));
      most = most;
    }
