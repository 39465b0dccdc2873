-- The reply to a request, with the numbers of RFC 6886, sections 3 and 3.2 to 3.6 (how long the reply to a refused
-- request is, is our own).
use Rattle.std.specs.Prelude.{ℕ, ◌+◌, ◌==◌, List, ◌∷◌, ◌++◌, drop, replicate, if◌then◌else◌}
use Rattle.std.specs.Int.{to_be_bytes, w16, w32}
use Rattle.pcp_base.specs.declared.addresses.Address.{Address}
use Rattle.pcp_base.specs.declared.codes.Code.{Code}
use Rattle.pcp_base.specs.declared.codes.Code.TheVariants.{UnsuppOpcode, NetworkFailure, NoResources, UserExQuota}
use Rattle.pcp_base.specs.declared.asks.Answer.{Answer}
use Rattle.pcp_base.specs.declared.asks.Answer.TheVariants.{Refused, Mapped}
use Rattle.natpmp_front.specs.declared.layout.TheConstants.{ADDRESS_OPERATION, INTERNAL_PLACE}
use Rattle.natpmp_front.specs.Fields.{u16_at}
use Rattle.natpmp_front.specs.Requests.{operation_of, is_of_map}

-- The result of a refusal (section 3.5; which code has which is our own). Requests of this protocol are refused
-- with the codes 2, 4, 7, 8 and 10 alone; the result of any other is 2, refused.
abbrev pub result_of : Code → ℕ
result_of NetworkFailure = 3
result_of NoResources = 4
result_of UserExQuota = 4
result_of UnsuppOpcode = 5
result_of code = 2

-- the result that an answer tells, 0 for success
abbrev pub result_told : Answer → ℕ
result_told (Refused refusal) = result_of refusal.code
result_told answer = 0

-- the IPv4 address that an answer to operation 0 tells, the last 4 octets of the external one; zeros where it
-- is refused (section 3.2)
abbrev pub address_told : Address → Answer → List ℕ
address_told address (Refused refusal) = replicate 4 0
address_told address answer = drop 12 address.0

-- the external port and the lifetime that an answer to a request for a mapping tells, 0 where it is refused
-- (section 3.3) or the lease is deleted (section 3.4)
abbrev pub external_told : Answer → ℕ
external_told (Mapped lifetime external address set) = external
external_told answer = 0

abbrev pub lifetime_told : Answer → ℕ
lifetime_told (Mapped lifetime external address set) = lifetime
lifetime_told answer = 0

-- version 0, 128 and the operation, result, epoch (sections 3 and 3.6)
abbrev pub head : ℕ → ℕ → ℕ → List ℕ
head operation result epoch =
    0 ∷ (128 + operation) ∷ to_be_bytes w16 result ++ to_be_bytes w32 epoch

-- the reply to operation 0: the address (section 3.2)
abbrev pub address_reply : Address → Answer → ℕ → List ℕ
address_reply address answer epoch =
    head 0 (result_told answer) epoch ++ address_told address answer

-- the reply to the operations 1 and 2: internal port, external port, lifetime (section 3.3)
abbrev pub map_reply : ℕ → ℕ → Answer → ℕ → List ℕ
map_reply operation internal answer epoch =
    head operation (result_told answer) epoch ++ to_be_bytes w16 internal
    ++ to_be_bytes w16 (external_told answer) ++ to_be_bytes w32 (lifetime_told answer)

-- the reply to a request; to an operation above 2 it is a head alone (section 3.5)
abbrev pub front_text : List ℕ → Address → Answer → ℕ → List ℕ
front_text message address answer epoch =
    if operation_of message == ADDRESS_OPERATION then address_reply address answer epoch
    else if is_of_map message then
    map_reply (operation_of message) (u16_at message INTERNAL_PLACE) answer epoch
    else head (operation_of message) (result_told answer) epoch
