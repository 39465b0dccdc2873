-- Octet 3 of a reply tells a success by 0, in either protocol (RFC 6887, section 7.2; RFC 6886, section 3.5).
use Rattle.std.proofs.Common.{◌≡◌, ℕ, ◌==◌, ◌++◌, Bool, true, false, cond, List, Option, refl}
use Rattle.std.specs.Prelude.{slice_index, replicate}
use Rattle.std.specs.Int.{to_be_bytes, w16, w32}
use Rattle.pcp_base.specs.declared.addresses.Address.{Address}
use Rattle.pcp_base.specs.declared.asks.Answer.{Answer}
use Rattle.pcp_base.specs.declared.asks.Answer.TheVariants.{Refused, Gone, Mapped}
use Rattle.pcp_base.specs.declared.asks.PortSet.{PortSet}
use Rattle.pcp_base.specs.declared.asks.Refusal.{Refusal}
use Rattle.pcp_base.specs.declared.codes.Code.{Code}
use Rattle.pcp_base.specs.declared.codes.Code.TheVariants as Codes
use Rattle.pcp_base.specs.Codes.{code_number}
use Rattle.pcp_options.specs.declared.options.Item.{Item}
use Rattle.pcp_options.specs.Replies.{reply_text}
use Rattle.natpmp_front.specs.declared.layout.TheConstants.{ADDRESS_OPERATION, INTERNAL_PLACE}
use Rattle.natpmp_front.specs.Fields.{u16_at}
use Rattle.natpmp_front.specs.Requests.{is_front, is_of_map, operation_of}
use Rattle.natpmp_front.specs.Replies.{address_reply, front_text, head, map_reply, result_of, result_told}
use Rattle.lease_histories.specs.Entries.{reply_text_of}

pub record TellsResult (text : Answer → List ℕ) : Type 0 where
  pub refused : (refusal : Refusal) → (code_number refusal.code == 0) ≡ false → (slice_index (text (Refused refusal)) 3 == 0) ≡ false
  pub gone : (slice_index (text Gone) 3 == 0) ≡ true
  pub mapped : (lifetime external : ℕ) (address : Address) (set : Option PortSet) → (slice_index (text (Mapped lifetime external address set)) 3 == 0) ≡ true

-- a refusal's result of NAT-PMP is one of four
by-result : (P : ℕ → Type 0) → P 2 → P 3 → P 4 → P 5 → (code : Code) → P (result_of code)
by-result P two three four five Codes.Success = two
by-result P two three four five Codes.UnsuppVersion = two
by-result P two three four five Codes.NotAuthorized = two
by-result P two three four five Codes.MalformedRequest = two
by-result P two three four five Codes.UnsuppOpcode = five
by-result P two three four five Codes.UnsuppOption = two
by-result P two three four five Codes.MalformedOption = two
by-result P two three four five Codes.NetworkFailure = three
by-result P two three four five Codes.NoResources = four
by-result P two three four five Codes.UnsuppProtocol = two
by-result P two three four five Codes.UserExQuota = four
by-result P two three four five Codes.CannotProvideExternal = two
by-result P two three four five Codes.AddressMismatch = two
by-result P two three four five Codes.ExcessiveRemotePeers = two

front-tells : (message : List ℕ) (address : Address) (epoch : ℕ) → TellsResult (λ answer. front_text message address answer epoch)
front-tells message address epoch = by (operation_of message == ADDRESS_OPERATION) (is_of_map message)
  where
    operation : ℕ
    operation = operation_of message

    internal : ℕ
    internal = u16_at message INTERNAL_PLACE

    by : (of-address of-map : Bool) → TellsResult (λ answer. cond of-address (address_reply address answer epoch)
        (cond of-map (map_reply operation internal answer epoch) (head operation (result_told answer) epoch)))
    by true of-map = record {
      refused = λ refusal h. by-result (λ n. (slice_index (head 0 n epoch ++ replicate 4 0) 3 == 0) ≡ false) refl refl refl refl refusal.code;
      gone = refl;
      mapped = λ lifetime external told set. refl;
    }
    by false true = record {
      refused = λ refusal h. by-result
          (λ n. (slice_index (head operation n epoch ++ to_be_bytes w16 internal ++ to_be_bytes w16 0 ++ to_be_bytes w32 0) 3 == 0) ≡ false)
          refl refl refl refl refusal.code;
      gone = refl;
      mapped = λ lifetime external told set. refl;
    }
    by false false = record {
      refused = λ refusal h. by-result (λ n. (slice_index (head operation n epoch) 3 == 0) ≡ false) refl refl refl refl refusal.code;
      gone = refl;
      mapped = λ lifetime external told set. refl;
    }

pcp-tells : (message : List ℕ) (items : List Item) (epoch : ℕ) → TellsResult (λ answer. reply_text message items answer epoch)
pcp-tells message items epoch = record {
  refused = λ refusal h. h;
  gone = refl;
  mapped = λ lifetime external told set. refl;
}

pub tells-result : (message : List ℕ) (address : Address) (items : List Item) (epoch : ℕ) → TellsResult (λ answer. reply_text_of message address items answer epoch)
tells-result message address items epoch = by (is_front message)
  where
    by : (b : Bool) → TellsResult (λ answer. cond b (front_text message address answer epoch) (reply_text message items answer epoch))
    by true = front-tells message address epoch
    by false = pcp-tells message items epoch
