-- What says an epoch to a client was read as a response that has it.
use Rattle.std.specs.Prelude.{⊤, bytes_eq, position, min, not}
use Rattle.std.proofs.Common.{◌≡◌, ℕ, ◌==◌, Bool, true, false, cond, List, Option, Some, None, refl, subst}
use Rattle.std.proofs.lemmas.Bool.{cond_both}
use Rattle.pcp_base.specs.declared.datagrams.Datagram.{Datagram}
use Rattle.pcp_base.specs.Codes.{code_number}
use Rattle.pcp_codec.specs.declared.requests.Common.{Common}
use Rattle.pcp_codec.specs.declared.requests.Body.{Body}
use Rattle.pcp_codec.specs.declared.requests.Body.TheVariants.{Announce, Map, Peer}
use Rattle.pcp_options.specs.declared.responses.Response.{Response}
use Rattle.pcp_options.specs.ReadResponses.{response_of}
use Rattle.client_core.specs.declared.meanings.Meaning.{Meaning}
use Rattle.client_core.specs.declared.meanings.Meaning.TheVariants.{Nothing, Says}
use Rattle.client_core.specs.declared.meanings.Notice.{Notice}
use Rattle.client_core.specs.declared.meanings.Notice.TheVariants as Notices
use Rattle.client_core.specs.Clients.{ClientView, counted, meaning_of, request_in, request_for, request_due, first_due}
use Rattle.client_core.specs.Meanings.{answers, grant_of, said_at, said_by, said_in, said_of, said_to, want_at}
use Rattle.client_core.specs.Wants.{WantView, next_ask}
use Rattle.pcp_base.specs.declared.addresses.Address.{Address}
use Rattle.pcp_options.specs.Requests.{request_text}
use Rattle.loss_world.proofs.EpochReads.{request-no-response}

abbrev SaysOf : Response → Meaning → Type 0
SaysOf r Nothing = ⊤
SaysOf r (Says epoch word) = r.epoch ≡ epoch

to-want : (r : Response) (c : Common) (id : ℕ) (ending : Bool) → SaysOf r (said_to r c id ending)
to-want r c id ending =
    cond_both (not (code_number r.code == 0)) (Says r.epoch (Notices.Refuses id r.code (min r.lifetime 1800)))
    (cond ending (cond (r.lifetime == 0) (Says r.epoch (Notices.Removes id)) Nothing) (cond (r.lifetime == 0) (Says r.epoch (Notices.Refuses id r.code 30)) (Says r.epoch (Notices.Grants id (grant_of r c)))))
    (SaysOf r) (λ _. refl)
    (λ _. cond_both ending (cond (r.lifetime == 0) (Says r.epoch (Notices.Removes id)) Nothing) (cond (r.lifetime == 0) (Says r.epoch (Notices.Refuses id r.code 30)) (Says r.epoch (Notices.Grants id (grant_of r c))))
    (SaysOf r)
    (λ _. cond_both (r.lifetime == 0) (Says r.epoch (Notices.Removes id)) Nothing (SaysOf r) (λ _. refl) (λ _. tt))
    (λ _. cond_both (r.lifetime == 0) (Says r.epoch (Notices.Refuses id r.code 30)) (Says r.epoch (Notices.Grants id (grant_of r c))) (SaysOf r) (λ _. refl) (λ _. refl)))

to-slot : (r : Response) (c : Common) (id : ℕ) (w : Option WantView) → SaysOf r (said_at r c id w)
to-slot r c id None = tt
to-slot r c id (Some w) = to-want r c id w.ending

to-found : (wants : List (Option WantView)) (r : Response) (c : Common) (id : Option ℕ) → SaysOf r (said_of wants r c id)
to-found wants r c None = tt
to-found wants r c (Some id) = to-slot r c id (want_at wants id)

to-all : (wants : List (Option WantView)) (r : Response) (body : Body) → SaysOf r (said_by wants r body)
to-all wants r Announce = refl
to-all wants r (Map c) = to-found wants r c (position (answers r) wants)
to-all wants r (Peer c port remote) = to-found wants r c (position (answers r) wants)

-- the response that a datagram is
pub record IsSaid (octets : List ℕ) (epoch : ℕ) : Type 0 where
  pub response : Response
  pub read : response_of octets ≡ Some response
  pub epoch_is : response.epoch ≡ epoch

said-read : (wants : List (Option WantView)) (octets : List ℕ) (x : Option Response) (epoch : ℕ) (word : Notice) → response_of octets ≡ x → said_in wants x ≡ Says epoch word → IsSaid octets epoch
said-read wants octets None epoch word h e = absurd cc
said-read wants octets (Some r) epoch word h e =
    record { response = r; read = h; epoch_is = subst (SaysOf r) e (to-all wants r r.body) }

said-here : (b : Bool) (wants : List (Option WantView)) (octets : List ℕ) (epoch : ℕ) (word : Notice) → cond b (said_in wants (response_of octets)) Nothing ≡ Says epoch word → IsSaid octets epoch
said-here true wants octets epoch word e = said-read wants octets (response_of octets) epoch word refl e
said-here false wants octets epoch word e = absurd cc

pub said : (c : ClientView) (d : Datagram) (epoch : ℕ) (word : Notice) → meaning_of c d ≡ Says epoch word → IsSaid d.octets epoch
said c d epoch word e = said-here (bytes_eq d.peer.0 c.server.0) c.wants d.octets epoch word e

-- ---- what a client sends is no response

asks-none : (own : Address) (w : Option WantView) (octets : List ℕ) → request_in own w ≡ Some octets → response_of octets ≡ None
asks-none own None octets e = absurd cc
asks-none own (Some w) octets e =
    let same : request_text own w.third (next_ask w) ≡ octets = cc in
    subst (λ t. response_of t ≡ None) same (request-no-response own w.third (next_ask w))

due-none : (c : ClientView) (id : Option ℕ) (octets : List ℕ) → request_for c id ≡ Some octets → response_of octets ≡ None
due-none c None octets e = absurd cc
due-none c (Some id) octets e = asks-none c.own (want_at c.wants id) octets e

pub request-none : (c : ClientView) (now : ℕ) (octets : List ℕ) → request_due c now ≡ Some octets → response_of octets ≡ None
request-none c now octets e = due-none c (first_due c.wants (counted c now)) octets e
