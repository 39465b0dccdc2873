-- Each lease that a client holds was told by a success for its want: for any property of successes, by the third party
-- and the data that they have.
use Rattle.std.specs.Prelude.{⊤, bytes_eq, position, map, min, not}
use Rattle.std.specs.List.{AllByRecursion}
use Rattle.std.proofs.Common.{◌≡◌, ◌∙◌, ℕ, zero, suc, ◌<◌, ◌==◌, ◌&&◌, Bool, true, false, cond, List, [], ◌∷◌, Option, Some, None, refl, ap, sym, subst, arith}
use Rattle.std.proofs.lemmas.Bool.{cond_both, eqb-true}
use Rattle.std.proofs.lemmas.List.Quantifiers.{position-Some}
use Rattle.std.proofs.lemmas.Slice.Eq.{bytes_eq-Decides}
use Rattle.pcp_base.specs.declared.addresses.Address.{Address}
use Rattle.pcp_base.specs.declared.addresses.Nonce.{Nonce}
use Rattle.pcp_base.specs.declared.asks.Ask.{Ask}
use Rattle.pcp_base.specs.declared.asks.Ask.TheVariants as Asks
use Rattle.pcp_base.specs.declared.codes.Code.{Code}
use Rattle.pcp_base.specs.declared.codes.Code.TheVariants as Codes
use Rattle.pcp_base.specs.declared.datagrams.Datagram.{Datagram}
use Rattle.pcp_base.specs.declared.leases.Endpoint.{Endpoint}
use Rattle.pcp_base.specs.Codes.{code_number}
use Rattle.pcp_base.specs.Protocols.{protocol_number}
use Rattle.pcp_codec.specs.declared.requests.Common.{Common}
use Rattle.pcp_codec.specs.declared.requests.Body.{Body}
use Rattle.pcp_codec.specs.declared.requests.Body.TheVariants.{Announce, Map, Peer}
use Rattle.pcp_options.specs.declared.responses.Response.{Response}
use Rattle.pcp_options.specs.Asking.{third_of}
use Rattle.pcp_options.specs.ReadResponses.{response_of}
use Rattle.client_core.specs.declared.reasons.Reason.{Reason}
use Rattle.client_core.specs.declared.reasons.Reason.TheVariants.{Wait, Renewal, Error}
use Rattle.client_core.specs.declared.events.Event.{Event}
use Rattle.client_core.specs.declared.events.Event.TheVariants.{Sent, Taken, Refused, Ended, Dropped, Invalid}
use Rattle.client_core.specs.declared.events.Grant.{Grant}
use Rattle.client_core.specs.declared.events.HeldLease.{HeldLease}
use Rattle.client_core.specs.declared.meanings.Meaning.{Meaning}
use Rattle.client_core.specs.declared.meanings.Meaning.TheVariants.{Nothing, Says}
use Rattle.client_core.specs.declared.meanings.Notice.{Notice}
use Rattle.client_core.specs.declared.meanings.Notice.TheVariants as Notices
use Rattle.client_core.specs.Clients.{ClientView, after_asked, after_end, after_epoch, after_heard, after_meaning, after_tick, after_want, with_notice, counted, dropped_in, first_due, happened, happened_at, meaning_of, moves}
use Rattle.client_core.specs.Meanings.{answers, grant_of, said_at, said_by, said_in, said_of, said_to, same_common, same_key, same_third, want_at}
use Rattle.client_core.specs.Wants.{WantView, after, after_sent, after_taken, begun_want, is_over, lease_of, suggesting}
use Rattle.loss_world.proofs.HouseFacts.{All-set}
use Rattle.loss_world.specs.Disclosure.{HasCommon, IsAskFor}

-- ---- what a want holds

-- the data of a success that granted the lease, with the endpoint and the nonce of the want
pub record IsHeld (T : Option Address → Common → Type 0) (w : WantView) (l : HeldLease) : Type 0 where
  pub endpoint : Endpoint
  pub nonce : Nonce
  pub common : Common
  pub wanted : IsAskFor w.ask endpoint nonce
  pub told : T w.third common
  pub nonce_is : common.nonce ≡ nonce
  pub protocol : common.protocol ≡ protocol_number endpoint.protocol
  pub internal : common.internal ≡ endpoint.port
  pub external : common.external ≡ l.external
  pub address : common.address ≡ l.address

abbrev pub WantHolds : (Option Address → Common → Type 0) → WantView → Type 0
WantHolds T w = (l : HeldLease) → w.lease ≡ Some l → IsHeld T w l

abbrev pub SlotHolds : (Option Address → Common → Type 0) → Option WantView → Type 0
SlotHolds T None = ⊤
SlotHolds T (Some w) = WantHolds T w

-- ---- what changes no lease

same-holds : (T : Option Address → Common → Type 0) (w x : WantView) → x.third ≡ w.third → x.ask ≡ w.ask → x.lease ≡ w.lease → WantHolds T w → WantHolds T x
same-holds T w x third ask lease h l e =
    let is = h l (sym lease ∙ e) in
    record {
      endpoint = is.endpoint;
      nonce = is.nonce;
      common = is.common;
      wanted = subst (λ a. IsAskFor a is.endpoint is.nonce) (sym ask) is.wanted;
      told = subst (λ t. T t is.common) (sym third) is.told;
      nonce_is = is.nonce_is;
      protocol = is.protocol;
      internal = is.internal;
      external = is.external;
      address = is.address;
    }

sent-holds : (T : Option Address → Common → Type 0) (w : WantView) (at word : ℕ) (reason : Reason) → WantHolds T w → WantHolds T (after_sent w at word reason)
sent-holds T w at word (Wait wait) h = same-holds T w (after_sent w at word (Wait wait)) refl refl refl h
sent-holds T w at word (Renewal part) h = same-holds T w (after_sent w at word (Renewal part)) refl refl refl h
sent-holds T w at word Error h = same-holds T w (after_sent w at word Error) refl refl refl h

-- every event but a success
abbrev pub IsNoSuccess : Event → Type 0
IsNoSuccess (Taken at word grant) = ⊥
IsNoSuccess (Sent at word) = ⊤
IsNoSuccess (Refused at seconds) = ⊤
IsNoSuccess (Ended at) = ⊤
IsNoSuccess Dropped = ⊤
IsNoSuccess (Invalid at word) = ⊤

pub event-holds : (T : Option Address → Common → Type 0) (w : WantView) (e : Event) → IsNoSuccess e → WantHolds T w → WantHolds T (after w e)
event-holds T w (Sent at word) n h = sent-holds T w at word w.reason h
event-holds T w (Taken at word grant) n h = absurd n
event-holds T w (Refused at seconds) n h = same-holds T w (after w (Refused at seconds)) refl refl refl h
event-holds T w (Ended at) n h = same-holds T w (after w (Ended at)) refl refl refl h
event-holds T w Dropped n h = λ l e. absurd cc
event-holds T w (Invalid at word) n h = same-holds T w (after w (Invalid at word)) refl refl refl h

pub slot-holds : (T : Option Address → Common → Type 0) (x : Option WantView) (e : Event) → IsNoSuccess e → SlotHolds T x → SlotHolds T (happened e x)
slot-holds T None e n h = tt
slot-holds T (Some w) e n h = event-holds T w e n h

-- ---- a success

both-true : (a b : Bool) → (a && b) ≡ true → (a ≡ true) × (b ≡ true)
both-true true b h = (refl, h)
both-true false b h = absurd cc

same-bytes : (a b : List ℕ) → bytes_eq a b ≡ true → a ≡ b
same-bytes a b h = (bytes_eq-Decides a b).0 h

same-nonce : (a b : Nonce) → bytes_eq a.0 b.0 ≡ true → a ≡ b
same-nonce a b h = ap (λ (o : List ℕ). record { 0 = o }) (same-bytes a.0 b.0 h)

third-same : (a b : Option Address) → same_third a b ≡ true → a ≡ b
third-same None None h = refl
third-same None (Some y) h = absurd cc
third-same (Some x) None h = absurd cc
third-same (Some x) (Some y) h = ap (λ (o : List ℕ). Some (record { 0 = o })) (same-bytes x.0 y.0 h)

-- the data of a response that is for an ask
pub record IsFor (ask : Ask) (body : Body) : Type 0 where
  pub endpoint : Endpoint
  pub nonce : Nonce
  pub common : Common
  pub has : HasCommon body common
  pub wanted : IsAskFor ask endpoint nonce
  pub nonce_is : common.nonce ≡ nonce
  pub protocol : common.protocol ≡ protocol_number endpoint.protocol
  pub internal : common.internal ≡ endpoint.port
  pub one : (c : Common) → HasCommon body c → common ≡ c

common-for : (endpoint : Endpoint) (nonce : Nonce) (c : Common) → same_common endpoint nonce c ≡ true → (c.nonce ≡ nonce) × (c.protocol ≡ protocol_number endpoint.protocol) × (c.internal ≡ endpoint.port)
common-for endpoint nonce c h =
    let a = both-true _ (endpoint.port == c.internal) h in
    let b = both-true (bytes_eq nonce.0 c.nonce.0) (protocol_number endpoint.protocol == c.protocol) a.0 in
    (sym (same-nonce nonce c.nonce b.0), sym (eqb-true _ _ b.1), sym (eqb-true _ _ a.1))

key-for : (ask : Ask) (body : Body) → same_key ask body ≡ true → IsFor ask body
key-for (Asks.Map ask) (Map c) h =
    let f = common-for ask.endpoint ask.nonce c h in
    record { endpoint = ask.endpoint; nonce = ask.nonce; common = c; has = refl; wanted = (refl, refl); nonce_is = f.0; protocol = f.1; internal = f.2; one = λ x same. same }
key-for (Asks.Peer ask) (Peer c port remote) h =
    let a = both-true _ (bytes_eq ask.remote.0 remote.0) h in
    let b = both-true (same_common ask.endpoint ask.nonce c) (ask.remote_port == port) a.0 in
    let f = common-for ask.endpoint ask.nonce c b.0 in
    record { endpoint = ask.endpoint; nonce = ask.nonce; common = c; has = refl; wanted = (refl, refl); nonce_is = f.0; protocol = f.1; internal = f.2; one = λ x same. same }
key-for (Asks.Map ask) Announce h = absurd cc
key-for (Asks.Map ask) (Peer c port remote) h = absurd cc
key-for (Asks.Peer ask) Announce h = absurd cc
key-for (Asks.Peer ask) (Map c) h = absurd cc
key-for (Asks.Known refusal) body h = absurd cc
key-for Asks.Announce body h = absurd cc

suggested : (ask : Ask) (endpoint : Endpoint) (nonce : Nonce) (port : ℕ) (address : Address) → IsAskFor ask endpoint nonce → IsAskFor (suggesting ask port address) endpoint nonce
suggested (Asks.Map ask) endpoint nonce port address h = h
suggested (Asks.Peer ask) endpoint nonce port address h = h
suggested (Asks.Known refusal) endpoint nonce port address h = absurd h
suggested Asks.Announce endpoint nonce port address h = absurd h

-- the want that a success is for holds what it grants
pub taken-holds : (T : Option Address → Common → Type 0) (w : WantView) (r : Response) (common : Common) (at word : ℕ) → answers r (Some w) ≡ true →
    HasCommon r.body common → T (third_of r.items) common → WantHolds T (after_taken w at word (grant_of r common))
taken-holds T w r common at word h has told l e =
    let a = both-true (same_key w.ask r.body) (same_third w.third (third_of r.items)) h in
    let f = key-for w.ask r.body a.0 in
    let third = third-same w.third (third_of r.items) a.1 in
    let same : lease_of at (grant_of r common) ≡ l = cc in
    let one = f.one common has in
    record {
      endpoint = f.endpoint;
      nonce = f.nonce;
      common = f.common;
      wanted = suggested w.ask f.endpoint f.nonce _ _ f.wanted;
      told = subst (λ t. T t f.common) (sym third) (subst (T (third_of r.items)) (sym one) told);
      nonce_is = f.nonce_is;
      protocol = f.protocol;
      internal = f.internal;
      external = ap (λ (c : Common). c.external) one ∙ ap (λ (x : HeldLease). x.external) same;
      address = ap (λ (c : Common). c.address) one ∙ ap (λ (x : HeldLease). x.address) same;
    }

-- ---- what a response says

code-success : (c : Code) → (code_number c == 0) ≡ true → c ≡ Codes.Success
code-success Codes.Success h = refl
code-success Codes.UnsuppVersion h = absurd cc
code-success Codes.NotAuthorized h = absurd cc
code-success Codes.MalformedRequest h = absurd cc
code-success Codes.UnsuppOpcode h = absurd cc
code-success Codes.UnsuppOption h = absurd cc
code-success Codes.MalformedOption h = absurd cc
code-success Codes.NetworkFailure h = absurd cc
code-success Codes.NoResources h = absurd cc
code-success Codes.UnsuppProtocol h = absurd cc
code-success Codes.UserExQuota h = absurd cc
code-success Codes.CannotProvideExternal h = absurd cc
code-success Codes.AddressMismatch h = absurd cc
code-success Codes.ExcessiveRemotePeers h = absurd cc

not-zero : (n : ℕ) → (n == 0) ≡ false → 0 < n
not-zero zero h = absurd cc
not-zero (suc n) h = omega arith

not-not : (b : Bool) → not b ≡ false → b ≡ true
not-not true h = refl
not-not false h = absurd cc

-- a response grants what it does to the want that it is for
pub record IsGrantOf (octets : List ℕ) (wants : List (Option WantView)) (id : ℕ) (grant : Grant) : Type 0 where
  pub response : Response
  pub read : response_of octets ≡ Some response
  pub success : response.code ≡ Codes.Success
  pub lasts : 0 < response.lifetime
  pub want : WantView
  pub there : want_at wants id ≡ Some want
  pub answers_it : answers response (Some want) ≡ true
  pub common : Common
  pub has : HasCommon response.body common
  pub grant_is : grant ≡ grant_of response common

abbrev pub Granting : List ℕ → List (Option WantView) → Meaning → Type 0
Granting octets wants Nothing = ⊤
Granting octets wants (Says epoch Notices.Epoch) = ⊤
Granting octets wants (Says epoch (Notices.Grants id grant)) = IsGrantOf octets wants id grant
Granting octets wants (Says epoch (Notices.Refuses id code seconds)) = ⊤
Granting octets wants (Says epoch (Notices.Removes id)) = ⊤

to-want : (octets : List ℕ) (wants : List (Option WantView)) (r : Response) (c : Common) (id : ℕ) (w : WantView) → response_of octets ≡ Some r → HasCommon r.body c → want_at wants id ≡ Some w → answers r (Some w) ≡ true →
    Granting octets wants (said_to r c id w.ending)
to-want octets wants r c id w read has there is =
    cond_both (not (code_number r.code == 0)) (Says r.epoch (Notices.Refuses id r.code (min r.lifetime 1800)))
    (cond w.ending (cond (r.lifetime == 0) (Says r.epoch (Notices.Removes id)) Nothing) (cond (r.lifetime == 0) (Says r.epoch (Notices.Refuses id r.code 30)) (Says r.epoch (Notices.Grants id (grant_of r c)))))
    (Granting octets wants) (λ _. tt)
    (λ code. cond_both w.ending (cond (r.lifetime == 0) (Says r.epoch (Notices.Removes id)) Nothing) (cond (r.lifetime == 0) (Says r.epoch (Notices.Refuses id r.code 30)) (Says r.epoch (Notices.Grants id (grant_of r c))))
    (Granting octets wants)
    (λ _. cond_both (r.lifetime == 0) (Says r.epoch (Notices.Removes id)) Nothing (Granting octets wants) (λ _. tt) (λ _. tt))
    (λ _. cond_both (r.lifetime == 0) (Says r.epoch (Notices.Refuses id r.code 30)) (Says r.epoch (Notices.Grants id (grant_of r c))) (Granting octets wants) (λ _. tt)
    (λ lasts. record {
      response = r;
      read = read;
      success = code-success r.code (not-not (code_number r.code == 0) code);
      lasts = not-zero r.lifetime lasts;
      want = w;
      there = there;
      answers_it = is;
      common = c;
      has = has;
      grant_is = refl;
    })))

to-slot : (octets : List ℕ) (wants : List (Option WantView)) (r : Response) (c : Common) (id : ℕ) (x : Option WantView) → response_of octets ≡ Some r → HasCommon r.body c → want_at wants id ≡ x → answers r x ≡ true →
    Granting octets wants (said_at r c id x)
to-slot octets wants r c id None read has there is = tt
to-slot octets wants r c id (Some w) read has there is = to-want octets wants r c id w read has there is

to-found : (octets : List ℕ) (wants : List (Option WantView)) (r : Response) (c : Common) (id : Option ℕ) → response_of octets ≡ Some r → HasCommon r.body c → position (answers r) wants ≡ id → Granting octets wants (said_of wants r c id)
to-found octets wants r c None read has e = tt
to-found octets wants r c (Some id) read has e =
    let at = position-Some (answers r) wants id None e in
    to-slot octets wants r c id (want_at wants id) read has refl at.1

to-all : (octets : List ℕ) (wants : List (Option WantView)) (r : Response) (body : Body) → response_of octets ≡ Some r → r.body ≡ body → Granting octets wants (said_by wants r body)
to-all octets wants r Announce read e = tt
to-all octets wants r (Map c) read e =
    to-found octets wants r c (position (answers r) wants) read (subst (λ b. HasCommon b c) (sym e) refl) refl
to-all octets wants r (Peer c port remote) read e =
    to-found octets wants r c (position (answers r) wants) read (subst (λ b. HasCommon b c) (sym e) refl) refl

to-read : (octets : List ℕ) (wants : List (Option WantView)) (x : Option Response) → response_of octets ≡ x → Granting octets wants (said_in wants x)
to-read octets wants None read = tt
to-read octets wants (Some r) read = to-all octets wants r r.body read refl

pub means : (c : ClientView) (d : Datagram) → Granting d.octets c.wants (meaning_of c d)
means c d = cond_both (bytes_eq d.peer.0 c.server.0) (said_in c.wants (response_of d.octets)) Nothing (Granting d.octets c.wants) (λ _. to-read d.octets c.wants (response_of d.octets) refl) (λ _. tt)

-- ---- what a datagram makes of all wants

mapped-at : (f : Option WantView → Option WantView) (xs : List (Option WantView)) (i : ℕ) → f None ≡ None → want_at (map f xs) i ≡ f (want_at xs i)
mapped-at f [] i h = sym h
mapped-at f (x ∷ xs) zero h = refl
mapped-at f (x ∷ xs) (suc i) h = mapped-at f xs i h

All-mapped : (T : Option Address → Common → Type 0) (f : Option WantView → Option WantView) → ((x : Option WantView) → SlotHolds T x → SlotHolds T (f x)) → (xs : List (Option WantView)) → AllByRecursion (SlotHolds T) xs → AllByRecursion (SlotHolds T) (map f xs)
All-mapped T f g [] h = tt
All-mapped T f g (x ∷ xs) h = (g x h.0, All-mapped T f g xs h.1)

pub slot-at : (T : Option Address → Common → Type 0) (xs : List (Option WantView)) (i : ℕ) → AllByRecursion (SlotHolds T) xs → SlotHolds T (want_at xs i)
slot-at T [] i h = tt
slot-at T (x ∷ xs) zero h = h.0
slot-at T (x ∷ xs) (suc i) h = slot-at T xs i h.1

pub event-at : (T : Option Address → Common → Type 0) (xs : List (Option WantView)) (id : ℕ) (e : Event) → IsNoSuccess e → AllByRecursion (SlotHolds T) xs → AllByRecursion (SlotHolds T) (happened_at xs id e)
event-at T xs id e n h = All-set (SlotHolds T) xs id (happened e (want_at xs id)) h (slot-holds T (want_at xs id) e n (slot-at T xs id h))

-- the data of each success that these octets are has the property
abbrev pub AreTold : (Option Address → Common → Type 0) → List ℕ → Type 0
AreTold T octets =
    (r : Response) (c : Common) → response_of octets ≡ Some r → r.code ≡ Codes.Success → 0 < r.lifetime → HasCommon r.body c → T (third_of r.items) c

taken-at : (T : Option Address → Common → Type 0) (octets : List ℕ) (wants ys : List (Option WantView)) (id at word : ℕ) (grant : Grant) (g : IsGrantOf octets wants id grant) (w : WantView) →
    want_at ys id ≡ Some w → answers g.response (Some w) ≡ true → AreTold T octets → AllByRecursion (SlotHolds T) ys → AllByRecursion (SlotHolds T) (happened_at ys id (Taken at word grant))
taken-at T octets wants ys id at word grant g w there is told h =
    let held = taken-holds T w g.response g.common at word is g.has (told g.response g.common g.read g.success g.lasts g.has) in
    All-set (SlotHolds T) ys id (happened (Taken at word grant) (want_at ys id)) h
    (subst (λ x. SlotHolds T (happened (Taken at word grant) x)) (sym there) (subst (λ x. WantHolds T (after_taken w at word x)) (sym g.grant_is) held))

word-holds : (T : Option Address → Common → Type 0) (octets : List ℕ) (c : ClientView) (epoch at word : ℕ) (said : Notice) → Granting octets c.wants (Says epoch said) → AreTold T octets → AllByRecursion (SlotHolds T) c.wants →
    AllByRecursion (SlotHolds T) (with_notice (after_epoch c epoch at word).wants at word said)
word-holds T octets c epoch at word said g told h =
    cond_both (moves c epoch at) (map (happened (Invalid at word)) c.wants) c.wants (λ ys. AllByRecursion (SlotHolds T) (with_notice ys at word said))
    (λ _. asked said g) (λ _. plain said g)
  where
    begun : AllByRecursion (SlotHolds T) (map (happened (Invalid at word)) c.wants)
    begun = All-mapped T (happened (Invalid at word)) (λ x k. slot-holds T x (Invalid at word) tt k) c.wants h

    plain : (said : Notice) → Granting octets c.wants (Says epoch said) → AllByRecursion (SlotHolds T) (with_notice c.wants at word said)
    plain Notices.Epoch g = h
    plain (Notices.Grants id grant) g = taken-at T octets c.wants c.wants id at word grant g g.want g.there g.answers_it told h
    plain (Notices.Refuses id code seconds) g = event-at T c.wants id (Refused at seconds) tt h
    plain (Notices.Removes id) g = All-set (SlotHolds T) c.wants id None h tt

    asked : (said : Notice) → Granting octets c.wants (Says epoch said) → AllByRecursion (SlotHolds T) (with_notice (map (happened (Invalid at word)) c.wants) at word said)
    asked Notices.Epoch g = begun
    asked (Notices.Grants id grant) g =
        taken-at T octets c.wants (map (happened (Invalid at word)) c.wants) id at word grant g (after g.want (Invalid at word))
        (mapped-at (happened (Invalid at word)) c.wants id refl ∙ ap (happened (Invalid at word)) g.there) g.answers_it told begun
    asked (Notices.Refuses id code seconds) g = event-at T (map (happened (Invalid at word)) c.wants) id (Refused at seconds) tt begun
    asked (Notices.Removes id) g = All-set (SlotHolds T) (map (happened (Invalid at word)) c.wants) id None begun tt

meaning-holds : (T : Option Address → Common → Type 0) (octets : List ℕ) (c : ClientView) (at word : ℕ) (m : Meaning) → Granting octets c.wants m → AreTold T octets → AllByRecursion (SlotHolds T) c.wants →
    AllByRecursion (SlotHolds T) (after_meaning c at word m).wants
meaning-holds T octets c at word Nothing g told h = h
meaning-holds T octets c at word (Says epoch said) g told h = word-holds T octets c epoch at word said g told h

pub heard-holds : (T : Option Address → Common → Type 0) (c : ClientView) (d : Datagram) (now word : ℕ) → AreTold T d.octets → AllByRecursion (SlotHolds T) c.wants → AllByRecursion (SlotHolds T) (after_heard c d now word).wants
heard-holds T c d now word told h = meaning-holds T d.octets c (counted c now) word (meaning_of c d) (means c d) told h

-- ---- ticks and wants

dropped-holds : (T : Option Address → Common → Type 0) (at : ℕ) (x : Option WantView) → SlotHolds T x → SlotHolds T (dropped_in at x)
dropped-holds T at None h = tt
dropped-holds T at (Some w) h = cond_both (is_over w at) (after w Dropped) w (WantHolds T) (λ _. event-holds T w Dropped tt h) (λ _. h)

asked-holds : (T : Option Address → Common → Type 0) (xs : List (Option WantView)) (at word : ℕ) (id : Option ℕ) → AllByRecursion (SlotHolds T) xs → AllByRecursion (SlotHolds T) (after_asked xs at word id)
asked-holds T xs at word None h = h
asked-holds T xs at word (Some id) h = event-at T xs id (Sent at word) tt h

pub tick-holds : (T : Option Address → Common → Type 0) (c : ClientView) (now word : ℕ) → AllByRecursion (SlotHolds T) c.wants → AllByRecursion (SlotHolds T) (after_tick c now word).wants
tick-holds T c now word h =
    asked-holds T (map (dropped_in (counted c now)) c.wants) (counted c now) word (first_due c.wants (counted c now)) (All-mapped T (dropped_in (counted c now)) (dropped-holds T (counted c now)) c.wants h)

pub want-holds : (T : Option Address → Common → Type 0) (c : ClientView) (id : ℕ) (third : Option Address) (ask : Ask) (now : ℕ) → AllByRecursion (SlotHolds T) c.wants → AllByRecursion (SlotHolds T) (after_want c id third ask now).wants
want-holds T c id third ask now h = All-set (SlotHolds T) c.wants id (Some (begun_want third ask (counted c now))) h (λ l e. absurd cc)

pub end-holds : (T : Option Address → Common → Type 0) (c : ClientView) (id now : ℕ) → AllByRecursion (SlotHolds T) c.wants → AllByRecursion (SlotHolds T) (after_end c id now).wants
end-holds T c id now h = event-at T c.wants id (Ended (counted c now)) tt h
