-- Who asks is the source, where every address may ask for itself alone.
use Rattle.std.proofs.Common.{◌≡◌, ℕ, ◌==◌, Bool, true, false, cond, List, [], ◌∷◌, ◌++◌, Option, Some, None, Result, Ok, Err, refl, sym, ap, ◌∙◌}
use Rattle.pcp_base.specs.declared.addresses.Address.{Address}
use Rattle.pcp_base.specs.declared.asks.Ask.{Ask}
use Rattle.pcp_base.specs.declared.asks.Ask.TheVariants as Asks
use Rattle.pcp_base.specs.declared.asks.MapAsk.{MapAsk}
use Rattle.pcp_base.specs.declared.asks.Refusal.{Refusal}
use Rattle.pcp_base.specs.declared.codes.Code.{Code}
use Rattle.pcp_base.specs.declared.codes.Code.TheVariants.{MalformedRequest}
use Rattle.pcp_base.specs.declared.leases.Protocol.{Protocol}
use Rattle.pcp_base.specs.Cases.{Case, first_case}
use Rattle.pcp_base.specs.Pairing.{place_of}
use Rattle.pcp_base.specs.Protocols.{protocol_of}
use Rattle.pcp_codec.specs.declared.requests.Body.{Body}
use Rattle.pcp_codec.specs.declared.requests.Body.TheVariants.{Announce, Map, Peer}
use Rattle.pcp_codec.specs.declared.requests.Common.{Common}
use Rattle.pcp_codec.specs.Framing.{frame_steps, is_silent}
use Rattle.pcp_codec.specs.Requests.{frame_of}
use Rattle.pcp_options.specs.declared.options.Item.{Item}
use Rattle.pcp_options.specs.declared.verdicts.Verdict.TheVariants.{Silent, Asked}
use Rattle.pcp_options.specs.Asking.{ask_by, ask_of, endpoint_by, map_ask, peer_ask, prefers, seen_of, set_of, filters_of, subject_of, third_of}
use Rattle.pcp_options.specs.Options.{items_of}
use Rattle.pcp_options.specs.Steps.{options_steps}
use Rattle.pcp_options.specs.Verdicts.{asked_by, asked_for, later_steps, options_in, request_steps, third_steps, verdict_by, verdict_of}
use Rattle.proxy_cascade.specs.Cascades.{for_itself}

-- where no case applies, none does behind the first ones
none-behind : {X : Type 0} (xs ys : List (Case X)) → first_case (xs ++ ys) ≡ None → first_case ys ≡ None
none-behind [] ys h = h
none-behind (x ∷ xs) ys h = step x.applies h (none-behind xs ys)
  where
    step : (b : Bool) → cond b (Some x.result) (first_case (xs ++ ys)) ≡ None → (first_case (xs ++ ys) ≡ None → first_case ys ≡ None) → first_case ys ≡ None
    step true k rest = absurd cc
    step false k rest = rest k

-- nobody may use THIRD_PARTY
no-third : (source : Address) (third : Option Address) → first_case (third_steps for_itself source third) ≡ None → third ≡ None
no-third source None h = refl
no-third source (Some third) h = absurd cc

-- the endpoint that is asked for has the address
module _ (address : Address) (lifetime : ℕ) (its : List Item) (ask : MapAsk) where
  at-endpoint : (c : Common) (p : Option Protocol) → map_ask lifetime c (seen_of its) (filters_of its) (endpoint_by address c.internal p) ≡ Ok (Asks.Map ask) → ask.endpoint.address ≡ address
  at-endpoint c None h = absurd cc
  at-endpoint c (Some protocol) h = step (c.internal == 0) h
    where
      step : (b : Bool) → map_ask lifetime c (seen_of its) (filters_of its) (cond b None (Some (record { address = address; protocol = protocol; port = c.internal }))) ≡ Ok (Asks.Map ask) → ask.endpoint.address ≡ address
      step true k = absurd cc
      step false k =
          let same : record {
            endpoint = record { address = address; protocol = protocol; port = c.internal };
            nonce = c.nonce;
            lifetime = lifetime;
            port = c.external;
            address = c.address;
            prefer = prefers its;
            set = set_of its;
            filters = filters_of its;
          } ≡ ask = cc in
          sym (ap (λ (a : MapAsk). a.endpoint.address) same)

  peer-fails : (c : Common) (port : ℕ) (remote : Address) (p : Option Protocol) → peer_ask lifetime c port remote (endpoint_by address c.internal p) ≡ Ok (Asks.Map ask) → ask.endpoint.address ≡ address
  peer-fails c port remote None h = absurd cc
  peer-fails c port remote (Some protocol) h = step (c.internal == 0) h
    where
      here : (b : Bool) → cond {A = Result Ask Code} b (Err MalformedRequest) (Ok (Asks.Peer (record {
        endpoint = record { address = address; protocol = protocol; port = c.internal };
        nonce = c.nonce;
        lifetime = lifetime;
        port = c.external;
        address = c.address;
        remote = remote;
        remote_port = port;
      }))) ≡ Ok (Asks.Map ask) → ask.endpoint.address ≡ address
      here true k = absurd cc
      here false k = absurd cc

      step : (b : Bool) → peer_ask lifetime c port remote (cond b None (Some (record { address = address; protocol = protocol; port = c.internal }))) ≡ Ok (Asks.Map ask) → ask.endpoint.address ≡ address
      step true k = absurd cc
      step false k = here (port == 0) k

  of-body : (body : Body) → ask_by address lifetime body (seen_of its) (filters_of its) ≡ Ok (Asks.Map ask) → ask.endpoint.address ≡ address
  of-body Announce h = absurd cc
  of-body (Map c) h = at-endpoint c (protocol_of c.protocol) h
  of-body (Peer c port remote) h = peer-fails c port remote (protocol_of c.protocol) h

of-verdict : (address : Address) (r : Result Ask Code) (o : Option ℕ) (items its : List Item) (place : ℕ) (ask : MapAsk) → (r ≡ Ok (Asks.Map ask) → ask.endpoint.address ≡ address) →
    asked_by items r o ≡ Asked place (Asks.Map ask) its → ask.endpoint.address ≡ address
of-verdict address (Err code) o items its place ask f h = absurd cc
of-verdict address (Ok a) None items its place ask f h = absurd cc
of-verdict address (Ok a) (Some p) items its place ask f h = let same : a ≡ Asks.Map ask = cc in f (ap (λ (x : Ask). Ok x) same)

module _ (source : Address) (message : List ℕ) (place : ℕ) (ask : MapAsk) (items : List Item) where
  abbrev found : List Item
  found = items_of (options_in (frame_of message) message)

  asks : (third : Option Address) → third ≡ None → asked_for for_itself (frame_of message) found (subject_of source third) ≡ Asked place (Asks.Map ask) items → ask.endpoint.address ≡ source
  asks third none h =
      let there : asked_for for_itself (frame_of message) found source ≡ Asked place (Asks.Map ask) items = sym (ap (λ (o : Option Address). asked_for for_itself (frame_of message) found (subject_of source o)) none) ∙ h in
      of-verdict source (ask_of source (frame_of message) found) (place_of for_itself.subscribers source) found items place ask
      (of-body source (frame_of message).lifetime found ask (frame_of message).body) there

  by_refused : (o : Option Refusal) → first_case (request_steps for_itself source message) ≡ o → verdict_by for_itself source (frame_of message) found o ≡ Asked place (Asks.Map ask) items → ask.endpoint.address ≡ source
  by_refused (Some r) is h = absurd cc
  by_refused None is h =
      let later = none-behind (frame_steps message source) (later_steps for_itself source (frame_of message) (options_in (frame_of message) message)) is in
      let third = none-behind (options_steps (frame_of message).lifetime (frame_of message).body (options_in (frame_of message) message)) (third_steps for_itself source (third_of found)) later in
      asks (third_of found) (no-third source (third_of found) third) h

  pub asks-for-itself : verdict_of for_itself source message ≡ Asked place (Asks.Map ask) items → ask.endpoint.address ≡ source
  unfolding verdict_of
  asks-for-itself h = by (is_silent message) refl
    where
      by : (b : Bool) → is_silent message ≡ b → ask.endpoint.address ≡ source
      by true silent =
          let e : Silent ≡ Asked place (Asks.Map ask) items = ap (λ b. cond b Silent (verdict_by for_itself source (frame_of message) found (first_case (request_steps for_itself source message)))) (sym silent) ∙ h in absurd cc
      by false loud =
          by_refused (first_case (request_steps for_itself source message)) refl
          (ap (λ b. cond b Silent (verdict_by for_itself source (frame_of message) found (first_case (request_steps for_itself source message)))) (sym loud) ∙ h)
