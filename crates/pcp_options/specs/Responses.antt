-- Responses, apart from reading and from writing (RFC 6887, section 7.2).
use Rattle.std.specs.Prelude.{◌≡◌, ℕ, ◌+◌, ◌%◌, ◌^◌, ◌<◌, ◌≤◌, List, [], ◌∷◌, ◌++◌, length, map, Option, Some, None, ⊤}
use Rattle.std.specs.List.{AllByRecursion}
use Rattle.std.specs.Int.{to_be_bytes, w32}
use Rattle.pcp_base.specs.declared.asks.PortSet as Sets
use Rattle.pcp_base.specs.declared.asks.Ask.{Ask}
use Rattle.pcp_base.specs.declared.asks.Answer.{Answer}
use Rattle.pcp_base.specs.declared.asks.Answer.TheVariants.{Refused, Announced, Gone, Mapped, Peered}
use Rattle.pcp_base.specs.Codes.{code_number}
use Rattle.pcp_codec.specs.declared.layout.TheConstants.{VERSION, R_BIT, MESSAGE_OCTETS}
use Rattle.pcp_codec.specs.declared.requests.Common.{Common}
use Rattle.pcp_codec.specs.declared.requests.Body.{Body}
use Rattle.pcp_codec.specs.declared.requests.Body.TheVariants.{Announce, Map, Peer}
use Rattle.pcp_codec.specs.Fields.{octet}
use Rattle.pcp_codec.specs.Requests.{opcode_of, data_length, body_of}
use Rattle.pcp_codec.specs.Packets.{IsData}
use Rattle.pcp_options.specs.declared.options.Item.{Item}
use Rattle.pcp_options.specs.declared.options.Item.TheVariants.{ThirdParty, PreferFailure, Filter, PortSet}
use Rattle.pcp_options.specs.Options.{WholeOption, AreOptions, option_of}
use Rattle.pcp_options.specs.Replies.{IsJudged, assigned, opcode_of_body, reply_text, success_text, told_items}

-- A success: version 2, the R bit with the opcode, a reserved octet, code 0, lifetime, epoch, 12 reserved octets,
-- data, options, in whole words and at most 1100 octets.
pub record IsSuccess (message : List ℕ) (opcode lifetime epoch : ℕ) (body : Body)
    (options : List WholeOption) : Type 0 where
  pub reserved : ℕ
  pub last : List ℕ
  pub twelve : length last ≡ 12
  pub fields : List ℕ
  pub behind : List ℕ
  pub spelled : message ≡ VERSION ∷ (R_BIT + opcode) ∷ reserved ∷ 0 ∷ to_be_bytes w32 lifetime
      ++ to_be_bytes w32 epoch
      ++ last ++ fields ++ behind
  pub data_of : IsData opcode fields body
  pub options_of : AreOptions behind options
  pub numbers_fit : (lifetime < 2 ^ 32) × (epoch < 2 ^ 32)
  pub words : length message % 4 ≡ 0
  pub most : length message ≤ MESSAGE_OCTETS

-- the numbers and addresses of a body, and of an item, as their types hold them
abbrev pub FitsCommon : Common → Type 0
FitsCommon c =
    (length c.nonce.0 ≡ 12) × (length c.address.0 ≡ 16) × (c.internal < 2 ^ 16)
    × (c.external < 2 ^ 16)

abbrev pub FitsBody : Body → Type 0
FitsBody Announce = ⊤
FitsBody (Map c) = FitsCommon c
FitsBody (Peer c port remote) = FitsCommon c × (port < 2 ^ 16) × (length remote.0 ≡ 16)

abbrev pub FitsItem : Item → Type 0
FitsItem (ThirdParty a) = length a.0 ≡ 16
FitsItem PreferFailure = ⊤
FitsItem (Filter f) = (length f.remote.0 ≡ 16) × (f.port < 2 ^ 16)
FitsItem (PortSet set) = (set.size < 2 ^ 16) × (set.first < 2 ^ 16)

-- a success that is written is one of the grammar, with the same opcode, lifetime, epoch, body and options
abbrev pub SuccessesAreResponses : Type 0
SuccessesAreResponses =
    (lifetime epoch : ℕ) (body : Body) (items : List Item) → lifetime < 2 ^ 32 → epoch < 2 ^ 32
    → FitsBody body
    → AllByRecursion FitsItem items → length (success_text lifetime epoch body items) ≤ MESSAGE_OCTETS
    → IsSuccess (success_text lifetime epoch body items) (opcode_of_body body) lifetime epoch body
    (map option_of items)

-- An error: the same with its code; what follows the head is at least as long as the data of the opcode.
pub record IsError (message : List ℕ) (opcode code lifetime epoch : ℕ) : Type 0 where
  pub reserved : ℕ
  pub last : List ℕ
  pub twelve : length last ≡ 12
  pub behind : List ℕ
  pub spelled : message ≡ VERSION ∷ (R_BIT + opcode) ∷ reserved ∷ code ∷ to_be_bytes w32 lifetime
      ++ to_be_bytes w32 epoch
      ++ last ++ behind
  pub room : data_length opcode ≤ length behind
  pub words : length message % 4 ≡ 0
  pub most : length message ≤ MESSAGE_OCTETS

-- the numbers and addresses of an answer, as their types hold them
abbrev pub FitsSet : Option Sets.PortSet → Type 0
FitsSet None = ⊤
FitsSet (Some set) = FitsItem (PortSet set)

abbrev pub FitsAnswer : Answer → Type 0
FitsAnswer (Mapped lifetime external address set) =
    (lifetime < 2 ^ 32) × (external < 2 ^ 16) × (length address.0 ≡ 16) × FitsSet set
FitsAnswer (Peered lifetime external address) =
    (lifetime < 2 ^ 32) × (external < 2 ^ 16) × (length address.0 ≡ 16)
FitsAnswer answer = ⊤

-- a success with this lifetime, epoch, body and items
abbrev pub IsSuccessOf : List ℕ → ℕ → ℕ → Body → List Item → Type 0
IsSuccessOf text lifetime epoch body items =
    IsSuccess text (opcode_of_body body) lifetime epoch body (map option_of items)

-- the response has the fields of the request and of the answer
abbrev pub IsResponseTo : List ℕ → List Item → Answer → ℕ → List ℕ → Type 0
IsResponseTo request items (Refused r) epoch text =
    IsError text (opcode_of request) (code_number r.code) r.lifetime epoch
IsResponseTo request items Announced epoch text = IsSuccessOf text 0 epoch Announce []
IsResponseTo request items Gone epoch text =
    IsSuccessOf text 0 epoch (body_of request) (told_items None items)
IsResponseTo request items (Mapped lifetime external address set) epoch text =
    IsSuccessOf text lifetime epoch (assigned (body_of request) external address) (told_items set items)
IsResponseTo request items (Peered lifetime external address) epoch text =
    IsSuccessOf text lifetime epoch (assigned (body_of request) external address) (told_items None items)

abbrev pub AreOctets : List ℕ → Type 0
AreOctets message = (i : ℕ) → octet message i < 256

-- the reply to a request that is asked is a response with the same fields
abbrev pub RepliesAreResponses : Type 0
RepliesAreResponses =
    (request : List ℕ) (ask : Ask) (items : List Item) (answer : Answer) (epoch : ℕ) → AreOctets request
    → IsJudged request ask items → FitsAnswer answer → epoch < 2 ^ 32
    → IsResponseTo request items answer epoch (reply_text request items answer epoch)
