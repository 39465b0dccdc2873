-- In the pool of a state a port is vacant or open where the state says so.
use Rattle.std.specs.Prelude.{◌≡◌, refl, ℕ, ◌↔◌, ◌&&◌, ◌==◌, not, Bool, true, false, List, IsTrue}
use Rattle.std.proofs.Common.{ap, sym, ◌∙◌}
use Rattle.std.proofs.lemmas.Bool.{and_parts, and_from, eqb-true, eq-eqb}
use Rattle.pcp_base.specs.declared.addresses.Address.{Address}
use Rattle.pcp_base.specs.declared.leases.Protocol.{Protocol}
use Rattle.pcp_base.specs.declared.leases.Endpoint.{Endpoint}
use Rattle.pcp_base.specs.declared.leases.Owner.{Owner}
use Rattle.pcp_base.specs.declared.leases.End.{End}
use Rattle.pcp_base.specs.Protocols.{protocol_number}
use Rattle.pcp_base.specs.Tables.{live, same_address, same_endpoint}
use Rattle.pcp_base.specs.Owners.{owners, is_port, is_owned}
use Rattle.pcp_base.specs.Ends.{resting, rests, rests_for, is_end_of}
use Rattle.pcp_base.specs.States.{State}
use Rattle.pcp_base.proofs.Same.{same_address-Decides, same_endpoint-Decides}
use Rattle.pcp_base.proofs.Members.{IsIn, IsIn-filter, filter-IsIn, any-some, some-any}
use Rattle.pcp_base.proofs.RestLaws.{protocol_number-same}
use Rattle.external_pool.specs.declared.uses.Use.{Use}
use Rattle.external_pool.specs.declared.uses.Use.TheVariants.{Free, Held, Resting}
use Rattle.external_pool.specs.PortUses.{is_in_range, is_free_use, is_free_to, is_held_by, is_resting_for, is_vacant, is_open}
use Rattle.external_pool.specs.Holdings.{Holdings, uses_of, use_of}
use Rattle.external_pool.specs.PoolOf.{IsPoolOf, owners_at}
use Rattle.external_pool.specs.Laws.{IsOpenTo}

false_or_true : (b : Bool) → (b ≡ true → ⊥) → b ≡ false
false_or_true true never = absurd (never refl)
false_or_true false never = refl

module _ (pool : Holdings) (s : State) (m : ℕ) (is : IsPoolOf pool s m) (protocol : Protocol) (port : ℕ) where
  abbrev os : List Owner
  os = owners (live s.table m)

  -- an owned port is held by its owner's address
  owned-held : is_owned protocol port os ≡ true → (who : Address) × (is_held_by who (use_of pool protocol port) ≡ true)
  owned-held h =
      let found = any-some (is_port protocol port) os h in
      let o = found.0 in
      let mine : IsIn o (owners_at o.endpoint.address (live s.table m)) =
      filter-IsIn (λ (x : Owner). same_address x.endpoint.address o.endpoint.address) os o found.1 ((same_address-Decides o.endpoint.address o.endpoint.address).1 refl) in
      (o.endpoint.address, is.held o.endpoint.address protocol port ∙ some-any (is_port protocol port) (owners_at o.endpoint.address (live s.table m)) o mine found.2)

  held-owned : (who : Address) → is_held_by who (use_of pool protocol port) ≡ true → is_owned protocol port os ≡ true
  held-owned who h =
      let found = any-some (is_port protocol port) (owners_at who (live s.table m)) (sym (is.held who protocol port) ∙ h) in
      some-any (is_port protocol port) os found.0 (IsIn-filter (λ (x : Owner). same_address x.endpoint.address who) os found.0 found.1).0 found.2

  -- a port that rests is at rest for an endpoint
  rests-resting : rests s m protocol port ≡ true → (who : Address) × (internal : ℕ) × (is_resting_for who internal (use_of pool protocol port) ≡ true)
  rests-resting h =
      let found = any-some (is_end_of protocol port) (resting s m) h in
      let x = found.0 in
      let parts = and_parts _ _ found.2 in
      let protocols : x.endpoint.protocol ≡ protocol = protocol_number-same x.endpoint.protocol protocol (eqb-true (protocol_number x.endpoint.protocol) (protocol_number protocol) parts.0) in
      let whole : x.endpoint ≡ record { address = x.endpoint.address; protocol = protocol; port = x.endpoint.port } =
      ap (λ (p : Protocol). record { address = x.endpoint.address; protocol = p; port = x.endpoint.port }) protocols in
      let named = and_from _ _ ((same_endpoint-Decides x.endpoint (record { address = x.endpoint.address; protocol = protocol; port = x.endpoint.port })).1 whole) parts.1 in (
        x.endpoint.address,
        x.endpoint.port,
        is.rests x.endpoint.address x.endpoint.port protocol port
            ∙ some-any (λ (e : End). same_endpoint e.endpoint (record { address = x.endpoint.address; protocol = protocol; port = x.endpoint.port }) && e.external == port) (resting s m) x found.1 named,
      )

  resting-rests : (who : Address) (internal : ℕ) → is_resting_for who internal (use_of pool protocol port) ≡ true → rests s m protocol port ≡ true
  resting-rests who internal h =
      let e : Endpoint = record { address = who; protocol = protocol; port = internal } in
      let found = any-some (λ (x : End). same_endpoint x.endpoint e && x.external == port) (resting s m) (sym (is.rests who internal protocol port) ∙ h) in
      let parts = and_parts _ _ found.2 in
      let protocols : found.0.endpoint.protocol ≡ protocol = ap (λ (x : Endpoint). x.protocol) ((same_endpoint-Decides found.0.endpoint e).0 parts.0) in
      some-any (is_end_of protocol port) (resting s m) found.0 found.1
      (and_from _ _ (eq-eqb (protocol_number found.0.endpoint.protocol) (protocol_number protocol) (ap protocol_number protocols)) parts.1)

  vacant-by : (u : Use) → use_of pool protocol port ≡ u → is_free_use u ≡ (not (is_owned protocol port os) && not (rests s m protocol port))
  vacant-by Free e =
      let unowned : is_owned protocol port os ≡ false =
      false_or_true _ (λ h. let k = owned-held h in let none : is_held_by k.0 Free ≡ true = sym (ap (is_held_by k.0) e) ∙ k.1 in absurd cc) in
      let awake : rests s m protocol port ≡ false =
      false_or_true _ (λ h. let k = rests-resting h in let none : is_resting_for k.0 k.1 Free ≡ true = sym (ap (is_resting_for k.0 k.1) e) ∙ k.2 in absurd cc) in
      sym (ap (λ (b : Bool). not b && not (rests s m protocol port)) unowned ∙ ap (λ (b : Bool). not b) awake)
  vacant-by (Held who) e =
      let mine : is_held_by who (Held who) ≡ true = (same_address-Decides who who).1 refl in
      sym (ap (λ (b : Bool). not b && not (rests s m protocol port)) (held-owned who (ap (is_held_by who) e ∙ mine)))
  vacant-by (Resting who internal) e =
      let mine : is_resting_for who internal (Resting who internal) ≡ true = and_from _ _ ((same_address-Decides who who).1 refl) (eq-eqb internal internal refl) in
      let unowned : is_owned protocol port os ≡ false =
      false_or_true _ (λ h. let k = owned-held h in let none : is_held_by k.0 (Resting who internal) ≡ true = sym (ap (is_held_by k.0) e) ∙ k.1 in absurd cc) in
      sym (ap (λ (b : Bool). not b && not (rests s m protocol port)) unowned
      ∙ ap (λ (b : Bool). not b) (resting-rests who internal (ap (is_resting_for who internal) e ∙ mine)))

pub is_vacant-state : (pool : Holdings) (s : State) (m : ℕ) (protocol : Protocol) (port : ℕ) → IsPoolOf pool s m
    → is_vacant (uses_of pool protocol) port
    ≡ (is_in_range (uses_of pool protocol).low (uses_of pool protocol).high port && (not (is_owned protocol port (owners (live s.table m))) && not (rests s m protocol port)))
is_vacant-state pool s m protocol port is =
    ap (λ (b : Bool). is_in_range (uses_of pool protocol).low (uses_of pool protocol).high port && b) (vacant-by pool s m is protocol port (use_of pool protocol port) refl)

-- an endpoint is what its parts are
whole-endpoint : (e : Endpoint) (who : Address) (internal : ℕ) (protocol : Protocol) → who ≡ e.address → internal ≡ e.port → protocol ≡ e.protocol → record { address = who; protocol = protocol; port = internal } ≡ e
whole-endpoint e who internal protocol a n p = λ i. record { address = a i; protocol = p i; port = n i }

module _ (pool : Holdings) (s : State) (m : ℕ) (is : IsPoolOf pool s m) (e : Endpoint) (port : ℕ) where
  -- what may be given to the endpoint
  open-by : (u : Use) → use_of pool e.protocol port ≡ u → is_free_to e.address e.port u ≡ true
      → (is_owned e.protocol port (owners (live s.table m)) ≡ false) × ((other : Endpoint) → other.protocol ≡ e.protocol → rests_for s m port other ≡ true → other ≡ e)
  open-by u same free = (
    false_or_true _ (λ h. let k = owned-held pool s m is e.protocol port h in let held : is_held_by k.0 u ≡ true = sym (ap (is_held_by k.0) same) ∙ k.1 in not_held u k.0 free held),
    λ other protocols at_rest.
        let here : is_resting_for other.address other.port u ≡ true =
        sym (ap (is_resting_for other.address other.port) same) ∙ is.rests other.address other.port e.protocol port
        ∙ ap (λ (p : Protocol). rests_for s m port (record { address = other.address; protocol = p; port = other.port })) (sym protocols) ∙ at_rest in
        let parts = one_rest u other.address other.port free here in
        whole-endpoint e other.address other.port other.protocol parts.0 parts.1 protocols,
  )
    where
      not_held : (u : Use) (who : Address) → is_free_to e.address e.port u ≡ true → is_held_by who u ≡ true → ⊥
      not_held Free who f h = absurd cc
      not_held (Held holder) who f h = absurd cc
      not_held (Resting last n) who f h = absurd cc

      one_rest : (u : Use) (who : Address) (internal : ℕ) → is_free_to e.address e.port u ≡ true → is_resting_for who internal u ≡ true → (who ≡ e.address) × (internal ≡ e.port)
      one_rest Free who internal f h = absurd cc
      one_rest (Held holder) who internal f h = absurd cc
      one_rest (Resting last n) who internal f h =
          let mine = and_parts _ _ f in
          let other = and_parts _ _ h in
          (sym ((same_address-Decides last who).0 other.0) ∙ (same_address-Decides last e.address).0 mine.0, sym (eqb-true n internal other.1) ∙ eqb-true n e.port mine.1)

  open-from : (u : Use) → use_of pool e.protocol port ≡ u → is_owned e.protocol port (owners (live s.table m)) ≡ false
      → ((other : Endpoint) → other.protocol ≡ e.protocol → rests_for s m port other ≡ true → other ≡ e) → is_free_to e.address e.port u ≡ true
  open-from Free same unowned alone = refl
  open-from (Held who) same unowned alone =
      let mine : is_held_by who (Held who) ≡ true = (same_address-Decides who who).1 refl in
      let owned : is_owned e.protocol port (owners (live s.table m)) ≡ true = held-owned pool s m is e.protocol port who (ap (is_held_by who) same ∙ mine) in
      absurd (let both : true ≡ false = sym owned ∙ unowned in cc)
  open-from (Resting who internal) same unowned alone =
      let mine : is_resting_for who internal (Resting who internal) ≡ true = and_from _ _ ((same_address-Decides who who).1 refl) (eq-eqb internal internal refl) in
      let other = alone (record { address = who; protocol = e.protocol; port = internal }) refl (sym (is.rests who internal e.protocol port) ∙ ap (is_resting_for who internal) same ∙ mine) in
      and_from _ _ ((same_address-Decides who e.address).1 (ap (λ (x : Endpoint). x.address) other)) (eq-eqb internal e.port (ap (λ (x : Endpoint). x.port) other))

pub is_open-state : (pool : Holdings) (s : State) (m : ℕ) (e : Endpoint) (port : ℕ) → IsPoolOf pool s m
    → IsTrue (is_open (uses_of pool e.protocol) e.address e.port port) ↔ IsOpenTo pool s m e port
is_open-state pool s m e port is = (
  λ h.
      let parts = and_parts _ _ h in
      let both = open-by pool s m is e port (use_of pool e.protocol port) refl parts.1 in
      record { ranges = parts.0; unowned = both.0; rests = both.1 },
  λ h. and_from _ _ h.ranges (open-from pool s m is e port (use_of pool e.protocol port) refl h.unowned h.rests),
)
