-- A response, by spelling it (RFC 6887, sections 7.2, 7.3, 11.1, 12.1, 13 and 14.1; PORT_SET: RFC 7753, section 4.1).
use Rattle.std.specs.Prelude.{◌≡◌, ℕ, zero, suc, true, List, ◌++◌, drop, map}
use Rattle.std.specs.List.{AllByRecursion}
use Rattle.pcp_base.specs.Codes.{code_number}
use Rattle.pcp_codec.specs.declared.layout.TheConstants.{HEAD_OCTETS}
use Rattle.pcp_codec.specs.declared.responses.Head.{Head}
use Rattle.pcp_codec.specs.Packets.{IsData}
use Rattle.pcp_codec.specs.Responses.{IsResponseHead}
use Rattle.pcp_options.specs.declared.options.Item.{Item}
use Rattle.pcp_options.specs.declared.responses.Response.{Response}
use Rattle.pcp_options.specs.Options.{WholeOption, AreOptions, found_in, found_whole, items_of}
use Rattle.pcp_options.specs.ReadResponses.{are_single, is_mapped, is_whole, whole_front}

-- an option has the length of its code, where that is known
abbrev pub HasItsLength : WholeOption → Type 0
HasItsLength o = is_whole (found_whole o) ≡ true

-- The options of a success are those that its octets spell, each of the length of its code, with THIRD_PARTY,
-- PREFER_FAILURE and PORT_SET once at most. Of an error they are those in front of the first that isn't whole.
abbrev pub AreItems : ℕ → List ℕ → List Item → Type 0
AreItems zero behind items =
    (os : List WholeOption) × AreOptions behind os × AllByRecursion HasItsLength os
    × (items ≡ items_of (map found_whole os)) × (are_single items ≡ true)
AreItems (suc code) behind items = items ≡ items_of (whole_front (found_in behind))

abbrev pub head_in : Response → Head
head_in r = record { opcode = r.opcode; code = r.code; lifetime = r.lifetime; epoch = r.epoch }

-- a head, the data of its opcode for TCP or UDP, and options
pub record IsResponse (message : List ℕ) (r : Response) : Type 0 where
  pub head : IsResponseHead message (head_in r)
  pub fields : List ℕ
  pub behind : List ℕ
  pub spelled : drop HEAD_OCTETS message ≡ fields ++ behind
  pub data_of : IsData r.opcode fields r.body
  pub mapped : is_mapped r.body ≡ true
  pub options : AreItems (code_number r.code) behind r.items
