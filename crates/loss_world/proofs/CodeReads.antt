-- Which code is read of a reply, and that a reply of an error, or for ANNOUNCE, grants nothing.
use Rattle.std.specs.Prelude.{⊤, nat_le, option_map}
use Rattle.std.proofs.Common.{◌≡◌, ◌≢◌, ◌∙◌, ℕ, ◌&&◌, Bool, true, false, cond, List, [], length, Option, Some, None, refl, ap, sym, subst}
use Rattle.pcp_base.specs.declared.asks.Answer.{Answer}
use Rattle.pcp_base.specs.declared.asks.Answer.TheVariants.{Refused, Announced, Gone, Mapped, Peered}
use Rattle.pcp_base.specs.declared.asks.Refusal.{Refusal}
use Rattle.pcp_base.specs.declared.codes.Code.{Code}
use Rattle.pcp_base.specs.declared.codes.Code.TheVariants as Codes
use Rattle.pcp_base.specs.Codes.{code_number}
use Rattle.pcp_codec.specs.declared.requests.Body.TheVariants.{Announce}
use Rattle.pcp_codec.specs.declared.requests.Common.{Common}
use Rattle.pcp_codec.specs.declared.responses.Head.{Head}
use Rattle.pcp_codec.specs.Fields.{octet}
use Rattle.pcp_codec.specs.Replies.{refusal_text}
use Rattle.pcp_codec.specs.Requests.{body_of}
use Rattle.pcp_codec.specs.Responses.{code_of, head_of, head_with, is_framed}
use Rattle.pcp_options.specs.declared.responses.Response.{Response}
use Rattle.pcp_options.specs.ReadResponses.{response_as, response_of, response_under}
use Rattle.pcp_options.specs.Replies.{reply_text, success_text}
use Rattle.loss_world.specs.Disclosure.{HasCommon}
use Rattle.loss_world.proofs.EpochReads.{by-test}

-- ---- the code and the body that are read

head-code : (b : Bool) (text : List ℕ) (c : Option Code) (x : Head)
    → cond b (option_map (head_with text) c) None ≡ Some x → c ≡ Some x.code
head-code true text None x h = absurd cc
head-code true text (Some c) x h =
    let same : head_with text c ≡ x = cc in
    ap (λ (y : Head). Some y.code) same
head-code false text c x h = absurd cc

under-code : (h : Option Head) (text : List ℕ) (r : Response) (c : Option Code)
    → ((x : Head) → h ≡ Some x → c ≡ Some x.code) → response_under h text ≡ Some r
    → c ≡ Some r.code
under-code None text r c f k = absurd cc
under-code (Some x) text r c f k =
    let same = by-test _ (response_as x _ _) r k in
    f x refl ∙ ap (λ (y : Response). Some y.code) same

read-code : (text : List ℕ) (r : Response) → response_of text ≡ Some r
    → code_of (octet text 3) ≡ Some r.code
read-code text r h =
    let c = code_of (octet text 3) in
    under-code (head_of text) text r c (λ x k. head-code (is_framed text) text c x k) h

under-body : (h : Option Head) (text : List ℕ) (r : Response) → response_under h text ≡ Some r
    → r.body ≡ body_of text
under-body None text r k = absurd cc
under-body (Some x) text r k =
    let same = by-test _ (response_as x _ _) r k in
    sym (ap (λ (y : Response). y.body) same)

pub read-body : (text : List ℕ) (r : Response) → response_of text ≡ Some r → r.body ≡ body_of text
read-body text r h = under-body (head_of text) text r h

-- a number is that of one code
numbered : (c : Code) → code_of (code_number c) ≡ Some c
numbered Codes.Success = refl
numbered Codes.UnsuppVersion = refl
numbered Codes.NotAuthorized = refl
numbered Codes.MalformedRequest = refl
numbered Codes.UnsuppOpcode = refl
numbered Codes.UnsuppOption = refl
numbered Codes.MalformedOption = refl
numbered Codes.NetworkFailure = refl
numbered Codes.NoResources = refl
numbered Codes.UnsuppProtocol = refl
numbered Codes.UserExQuota = refl
numbered Codes.CannotProvideExternal = refl
numbered Codes.AddressMismatch = refl
numbered Codes.ExcessiveRemotePeers = refl

-- ---- what grants nothing

-- whatever is read of the text is no success for MAP or PEER
abbrev pub GrantsNothing : List ℕ → Type 0
GrantsNothing text =
    (r : Response) (c : Common) → response_of text ≡ Some r → r.code ≡ Codes.Success
    → HasCommon r.body c → ⊥

pub refusal-grants : (request : List ℕ) (refusal : Refusal) (epoch : ℕ)
    → refusal.code ≢ Codes.Success → GrantsNothing (refusal_text request refusal epoch)
refusal-grants request refusal epoch error r c read success has =
    let text = refusal_text request refusal epoch in
    let stands : code_of (octet text 3) ≡ Some refusal.code = numbered refusal.code in
    let told : Some r.code ≡ Some refusal.code = sym (read-code text r read) ∙ stands in
    let same : r.code ≡ refusal.code = cc in
    error (sym same ∙ success)

announced-grants : (epoch : ℕ) → GrantsNothing (success_text 0 epoch Announce [])
announced-grants epoch r c read success has =
    let text = success_text 0 epoch Announce [] in
    let none : body_of text ≡ Announce = refl in
    subst (λ b. HasCommon b c) (read-body text r read ∙ none) has

-- an answer that a relay gives by itself
abbrev pub IsPlainAnswer : Answer → Type 0
IsPlainAnswer (Refused refusal) = refusal.code ≢ Codes.Success
IsPlainAnswer Announced = ⊤
IsPlainAnswer Gone = ⊥
IsPlainAnswer (Mapped lifetime external address set) = ⊥
IsPlainAnswer (Peered lifetime external address) = ⊥

pub plain-grants : (octets : List ℕ) (answer : Answer) (epoch : ℕ) → IsPlainAnswer answer
    → GrantsNothing (reply_text octets [] answer epoch)
plain-grants octets (Refused refusal) epoch plain = refusal-grants octets refusal epoch plain
plain-grants octets Announced epoch plain = announced-grants epoch
plain-grants octets Gone epoch plain = absurd plain
plain-grants octets (Mapped lifetime external address set) epoch plain = absurd plain
plain-grants octets (Peered lifetime external address) epoch plain = absurd plain

-- ---- what is too long is no response

second-false : (a b c d e f g : Bool) → b ≡ false → (a && b && c && d && e && f && g) ≡ false
second-false true false c d e f g h = refl
second-false false false c d e f g h = refl
second-false a true c d e f g h = absurd cc

pub long-none : (text : List ℕ) → nat_le (length text) 1100 ≡ false → response_of text ≡ None
long-none text h =
    let unframed : is_framed text ≡ false =
    second-false _ (nat_le (length text) 1100) _ _ _ _ _ h in
    ap (λ b. response_under (cond b (option_map (head_with text) (code_of (octet text 3))) None) text) unframed
