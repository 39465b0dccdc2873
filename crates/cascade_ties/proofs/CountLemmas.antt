-- How many ties each address has, where one comes, goes or is changed.
use Rattle.std.proofs.Common.{◌≡◌, ℕ, ◌+◌, ◌-◌, ◌<◌, ◌≤◌, ◌^◌, not, cond, Option, List, [], ◌∷◌, ◌++◌, filter, Some, Result, Ok, Err, refl, sym, ap, ◌∙◌, arith}
use Rattle.std.proofs.lemmas.List.Sums.{count_by-le-length}
use Rattle.pcp_base.specs.declared.addresses.Address.{Address}
use Rattle.pcp_base.specs.declared.leases.Endpoint.{Endpoint}
use Rattle.pcp_base.specs.declared.leases.Protocol.{Protocol}
use Rattle.pcp_base.specs.Tables.{put, same_address}
use Rattle.pcp_base.proofs.Members.{find-some}
use Rattle.pcp_base.proofs.Same.{same_address-Decides, same_endpoint-Decides}
use Rattle.external_pool.specs.HeldCounts.{HeldCounts, held_by}
use Rattle.external_pool.specs.Holdings.{Holdings}
use Rattle.external_pool.specs.PortUses.{is_held_by}
use Rattle.ordered_index.proofs.EntryLaws.{tally}
use Rattle.cascade_ties.specs.declared.ties.Tied.{Tied}
use Rattle.cascade_ties.specs.Kept.{AreCounted, IsTiePool}
use Rattle.cascade_ties.specs.Ties.{MakesTies, Ties, TiesDiffer, has_client, ties_held, tie_of}
use Rattle.cascade_ties.proofs.MoveLemmas.{put-count}
use Rattle.cascade_ties.proofs.OneLemmas.{count-append, count-out}
use Rattle.cascade_ties.proofs.TieKeeping.{once_client}

-- an address has few ties, since it holds a port for each
pub few_held : (pool : Holdings) (rest : Protocol → ℕ → Option ℕ) (ts : List Tied) → IsTiePool pool rest ts → (who : Address) → ties_held who ts ≤ 131072
few_held pool rest ts is who =
    let tcp = count_by-le-length (is_held_by who) pool.tcp.each in
    let udp = count_by-le-length (is_held_by who) pool.udp.each in
    let all_tcp = is.whole.tcp in
    let all_udp = is.whole.udp in
    let held = is.counts who in
    omega (arith, tcp, udp, all_tcp, all_udp, held)

-- one more for an address, and one less
abbrev pub HasMore : HeldCounts → Address → HeldCounts → Type 0
HasMore old who new = (other : Address) → held_by new other ≡ held_by old other + cond {A = ℕ} (same_address who other) 1 0

abbrev pub HasLess : HeldCounts → Address → HeldCounts → Type 0
HasLess old who new = (other : Address) → held_by new other ≡ held_by old other - cond {A = ℕ} (same_address who other) 1 0

pub was_counted : (old new : HeldCounts) (who : Address) → HasMore old who new → 1 ≤ held_by new who
was_counted old new who more =
    let one = more who in
    let itself = ap tally ((same_address-Decides who who).1 refl) in
    omega (arith, one, itself)

module _ (counts : HeldCounts) (ts : List Tied) (is : AreCounted counts ts) where
  pub may_count : (pool : Holdings) (rest : Protocol → ℕ → Option ℕ) → IsTiePool pool rest ts → (who : Address) → held_by counts who + 1 < 2 ^ 32
  may_count pool rest pooled who = let few = few_held pool rest ts pooled who in let same = is who in omega (arith, few, same)

  -- one comes
  pub counted_put : (t : Tied) (raised : HeldCounts) (us : List Tied) → HasMore counts t.tie.client.address raised → us ≡ ts ++ t ∷ [] → AreCounted raised us
  counted_put t raised us more same other =
      let one = more other in
      let before = is other in
      let behind = count-append (λ (x : Tied). same_address x.tie.client.address other) ts t in
      let here = ap (ties_held other) same in
      omega (arith, one, before, behind, here)

  -- or was taken back
  pub counted_back : (who : Address) (raised last : HeldCounts) (us : List Tied) → HasMore counts who raised → HasLess raised who last → us ≡ ts → AreCounted last us
  counted_back who raised last us more less same other =
      let up = more other in
      let down = less other in
      let before = is other in
      let here = ap (ties_held other) same in
      omega (arith, up, down, before, here)

  -- one goes
  module _ (differ : TiesDiffer ts) (e : Endpoint) (x : Tied) (found : tie_of e ts ≡ Some x) where
    is_of : x.tie.client ≡ e
    is_of = (same_endpoint-Decides x.tie.client e).0 (find-some (has_client e) ts x found).1

    without_it : (other : Address) → ties_held other (filter (λ t. not (has_client e t)) ts) + cond {A = ℕ} (same_address e.address other) 1 0 ≡ ties_held other ts
    without_it other =
        let out = count-out (has_client e) x (λ (t : Tied). same_address t.tie.client.address other) ts (once_client e ts differ) found in
        let same = ap (λ (z : Endpoint). tally (same_address z.address other)) is_of in
        omega (arith, out, same)

    pub may_uncount : 1 ≤ held_by counts e.address
    may_uncount =
        let out = without_it e.address in
        let before = is e.address in
        let itself = ap tally ((same_address-Decides e.address e.address).1 refl) in
        omega (arith, out, before, itself)

    pub counted_out : (last : HeldCounts) (us : List Tied) → HasLess counts e.address last → us ≡ filter (λ t. not (has_client e t)) ts → AreCounted last us
    counted_out last us less same other =
        let down = less other in
        let out = without_it other in
        let before = is other in
        let here = ap (ties_held other) same in
        omega (arith, down, out, before, here)

-- one is changed
held_changed : (t x : Tied) (ts : List Tied) → tie_of t.tie.client ts ≡ Some x → (who : Address) → ties_held who (put (has_client t.tie.client) t ts) ≡ ties_held who ts
held_changed t x ts found who =
    let client : x.tie.client ≡ t.tie.client = (same_endpoint-Decides x.tie.client t.tie.client).0 (find-some (has_client t.tie.client) ts x found).1 in
    let other = put-count (has_client t.tie.client) x t (λ (y : Tied). same_address y.tie.client.address who) ts found in
    let same = ap (λ (z : Endpoint). tally (same_address z.address who)) client in
    omega (arith, other, same)

pub counted_change : {X E : Type 0} (counts : HeldCounts) (old made new : Ties) (t x : Tied) (r : Result X E) → tie_of t.tie.client old.each ≡ Some x → made.each ≡ put (has_client t.tie.client) t old.each
    → MakesTies old made r new → AreCounted counts old.each → AreCounted counts new.each
counted_change counts old made new t x (Ok v) found same makes is who =
    is who ∙ sym (ap (λ (z : Ties). ties_held who z.each) makes.ok ∙ ap (ties_held who) same ∙ held_changed t x old.each found who)
counted_change counts old made new t x (Err f) found same makes is who = is who ∙ sym (ap (λ (z : Ties). ties_held who z.each) makes.err)
