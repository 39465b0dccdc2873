-- Options, apart from reading and from writing, and as they stand in octets (RFC 6887, section 7.3; PORT_SET: RFC 7753,
-- section 4.1).
use Rattle.std.specs.Prelude.{◌≡◌, ℕ, zero, suc, ◌+◌, ◌-◌, ◌%◌, ◌^◌, ◌<◌, ◌==◌, List, [], ◌∷◌, ◌++◌, length, replicate, take, Option, Some, None, filter_map, flat_map, if◌then◌else◌}
use Rattle.std.specs.Int.{to_be_bytes, from_be_bytes, w16}
use Rattle.pcp_codec.specs.Fields.{octet, octets_at, u16_at}
use Rattle.pcp_options.specs.declared.layout.TheConstants.{THIRD_PARTY_CODE, PREFER_FAILURE_CODE, FILTER_CODE, PORT_SET_CODE, FILTER_PREFIX_PLACE, FILTER_PORT_PLACE, FILTER_REMOTE_PLACE, SET_SIZE_PLACE, SET_FIRST_PLACE, SET_PARITY_PLACE}
use Rattle.pcp_options.specs.declared.options.Item.{Item}
use Rattle.pcp_options.specs.declared.options.Item.TheVariants.{ThirdParty, PreferFailure, Filter, PortSet}

-- an option and its data
pub record WholeOption : Type 0 where
  pub code : ℕ
  pub content : List ℕ

-- how many octets fill n octets up to whole words
abbrev pub fill : ℕ → ℕ
fill n = (4 - n % 4) % 4

-- The options of a message are one after the other: code, a reserved octet, the length of the data, the data, and
-- octets of any value up to a multiple of 4.
abbrev pub AreOptions : List ℕ → List WholeOption → Type 0
AreOptions text [] = text ≡ []
AreOptions text (o ∷ os) =
    (reserved : ℕ) × (padding : List ℕ) × (rest : List ℕ)
    × (length padding ≡ fill (length o.content)) × (length o.content < 2 ^ 16)
    × (text ≡ o.code ∷ reserved ∷ to_be_bytes w16 (length o.content) ++ o.content ++ padding ++ rest)
    × AreOptions rest os

-- an option as it is written: its reserved octet and its padding are zero
abbrev pub option_text : WholeOption → List ℕ
option_text o =
    o.code ∷ 0 ∷ to_be_bytes w16 (length o.content) ++ o.content ++ replicate (fill (length o.content)) 0

-- options as they are written
abbrev pub options_text : List WholeOption → List ℕ
options_text os = flat_map option_text os

-- the option that says an item
abbrev pub option_of : Item → WholeOption
option_of (ThirdParty a) = record { code = THIRD_PARTY_CODE; content = a.0 }
option_of PreferFailure = record { code = PREFER_FAILURE_CODE; content = [] }
option_of (Filter f) =
    record { code = FILTER_CODE; content = 0 ∷ f.prefix ∷ to_be_bytes w16 f.port ++ f.remote.0 }
option_of (PortSet set) = record {
  code = PORT_SET_CODE;
  content = to_be_bytes w16 set.size ++ to_be_bytes w16 set.first ++ (if set.parity then 1 else 0) ∷ [];
}

-- an option as it stands: the length that it claims, and the octets of its data that are there
pub record FoundOption : Type 0 where
  pub code : ℕ
  pub claimed : ℕ
  pub content : List ℕ

-- an option whose data is there
abbrev pub found_whole : WholeOption → FoundOption
found_whole o = record { code = o.code; claimed = length o.content; content = o.content }

-- The options that stand in octets, of which a number is passed over: an option, and then those behind its data and
-- its padding. The last may claim more than there is.
abbrev pub found_after : ℕ → List ℕ → List FoundOption
found_after (suc n) (o ∷ rest) = found_after n rest
found_after zero (code ∷ reserved ∷ high ∷ low ∷ rest) =
    (record {
      code = code;
      claimed = from_be_bytes w16 (high ∷ low ∷ []);
      content = take (from_be_bytes w16 (high ∷ low ∷ [])) rest;
    })
    ∷ found_after (from_be_bytes w16 (high ∷ low ∷ []) + fill (from_be_bytes w16 (high ∷ low ∷ []))) rest
found_after n text = []

-- the options that stand in octets
abbrev pub found_in : List ℕ → List FoundOption
found_in text = found_after 0 text

-- what an option says; none where it is ignored
abbrev pub item_of : FoundOption → Option Item
item_of o =
    if o.code == THIRD_PARTY_CODE then Some (ThirdParty (record { 0 = octets_at o.content 0 16 }))
    else if o.code == PREFER_FAILURE_CODE then Some PreferFailure
    else if o.code == FILTER_CODE then Some (Filter (record {
      prefix = octet o.content FILTER_PREFIX_PLACE;
      port = u16_at o.content FILTER_PORT_PLACE;
      remote = record { 0 = octets_at o.content FILTER_REMOTE_PLACE 16 };
    }))
    else if o.code == PORT_SET_CODE then Some (PortSet (record {
      size = u16_at o.content SET_SIZE_PLACE;
      first = u16_at o.content SET_FIRST_PLACE;
      parity = octet o.content SET_PARITY_PLACE % 2 == 1;
    }))
    else None

-- the processed options, in order
abbrev pub items_of : List FoundOption → List Item
items_of os = filter_map item_of os
