-- Successes that are written are read with their fields (RFC 6887, section 7.2).
use Rattle.std.specs.Prelude.{◌≡◌, ℕ, ◌^◌, ◌<◌, ◌≤◌, true, List, length, map, Some}
use Rattle.std.specs.List.{AllByRecursion}
use Rattle.pcp_base.specs.declared.codes.Code.TheVariants.{Success}
use Rattle.pcp_codec.specs.declared.layout.TheConstants.{MESSAGE_OCTETS}
use Rattle.pcp_codec.specs.declared.requests.Body.{Body}
use Rattle.pcp_options.specs.declared.options.Item.{Item}
use Rattle.pcp_options.specs.declared.responses.Response.{Response}
use Rattle.pcp_options.specs.Options.{WholeOption, found_whole, items_of}
use Rattle.pcp_options.specs.ReadResponses.{are_single, is_mapped, response_of}
use Rattle.pcp_options.specs.Replies.{opcode_of_body, success_text}
use Rattle.pcp_options.specs.ResponseGrammar.{HasItsLength}
use Rattle.pcp_options.specs.Responses.{FitsBody, FitsItem, IsSuccess}

-- a success with these fields, as it is read
abbrev pub success_read : ℕ → ℕ → ℕ → Body → List Item → Response
success_read opcode lifetime epoch body items = record {
  opcode = opcode;
  code = Success;
  lifetime = lifetime;
  epoch = epoch;
  body = body;
  items = items;
}

-- a success of the grammar for TCP or UDP, whose options have their lengths and stand once where they must, is read
abbrev pub SuccessesAreRead : Type 0
SuccessesAreRead =
    (message : List ℕ) (opcode lifetime epoch : ℕ) (body : Body) (os : List WholeOption)
    → IsSuccess message opcode lifetime epoch body os → is_mapped body ≡ true
    → AllByRecursion HasItsLength os → are_single (items_of (map found_whole os)) ≡ true
    → response_of message
    ≡ Some (success_read opcode lifetime epoch body (items_of (map found_whole os)))

-- a success that is written is read again
abbrev pub WrittenSuccessesAreRead : Type 0
WrittenSuccessesAreRead =
    (lifetime epoch : ℕ) (body : Body) (items : List Item) → lifetime < 2 ^ 32 → epoch < 2 ^ 32
    → FitsBody body → AllByRecursion FitsItem items
    → is_mapped body ≡ true → are_single items ≡ true
    → length (success_text lifetime epoch body items) ≤ MESSAGE_OCTETS
    → response_of (success_text lifetime epoch body items)
    ≡ Some (success_read (opcode_of_body body) lifetime epoch body items)
