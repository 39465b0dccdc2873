-- The ports that a change touches, as a run.
use Rattle.std.proofs.Common.{◌≡◌, ℕ, ◌+◌, ◌<◌, not, true, false, List, [], ◌∷◌, map, flat_map, find, Option, Some, None, IfSome, refl, sym, ap, ◌∙◌, subst, arith}
use Rattle.std.specs.List.{range_with_len}
use Rattle.std.specs.Option.{option_map}
use Rattle.pcp_base.specs.declared.leases.MapLease.{MapLease}
use Rattle.pcp_base.specs.declared.leases.PeerLease.{PeerLease}
use Rattle.pcp_base.specs.declared.leases.Owner.{Owner}
use Rattle.pcp_base.specs.declared.records.Change.{Change}
use Rattle.pcp_base.specs.declared.records.Change.TheVariants.{Start, Map, Peer, DropMap, DropPeer, Lose, Mark, Rest, Renumber}
use Rattle.pcp_base.specs.Tables.{Table, first_endpoint, is_map_of, is_peer_of}
use Rattle.pcp_base.specs.Owners.{map_owner, map_owners, owners, peer_owner}
use Rattle.pcp_base.specs.Sound.{Sound}
use Rattle.pcp_base.specs.Apply.{table_changed}
use Rattle.pcp_base.proofs.Members.{IsIn, IsIn-filter, IsIn-left, IsIn-right, IsIn-range, flat_map-IsIn, map-IsIn, find-some, Contains-from_IsIn, IsIn-from_Contains}
use Rattle.pcp_base.proofs.StepLaws.{put-new}
use Rattle.pcp_base.proofs.ApplyLaws.{owners-kept}
use Rattle.mapping_table.specs.MapLists.{map_owning}
use Rattle.leased_ports.specs.Recorded.{touched}
use Rattle.indexed_store.specs.declared.owning.OwnerRun.{OwnerRun}
use Rattle.indexed_store.specs.Runs.{IsOwnerRun, map_run, owner_along, owners_if, owners_of, peer_run, touched_run}
use Rattle.indexed_store.specs.Tabled.{AreTabled}
use Rattle.indexed_store.specs.Holding.{IsAgreed, IsEven, IsEvenRun}
use Rattle.indexed_store.proofs.EvenLemmas.{even_gone, even_own}
use Rattle.indexed_store.proofs.MoveLemmas.{none_deleted, one_deleted, no_peer_deleted, one_peer_deleted}
use Rattle.indexed_store.proofs.RunLemmas.{along_none}

-- ---- its owners

pub peer_owners : (l : PeerLease) → peer_owner l ∷ [] ≡ owners_of (peer_run l)
peer_owners l = ap (λ (o : Owner). o ∷ []) (sym (along_none (peer_owner l)))

pub touched_owners : (change : Change) (t : Table) → Sound t → touched change t ≡ owners_if (touched_run change t)
touched_owners (Map l) t sound = refl
touched_owners (Peer l) t sound = peer_owners l
touched_owners (DropMap e) t sound = step (find (is_map_of e) t.maps) refl
  where
    step : (o : Option MapLease) → find (is_map_of e) t.maps ≡ o → touched (DropMap e) t ≡ owners_if (option_map map_run o)
    step None h = sym (none_deleted t sound e h)
    step (Some l) h = sym (one_deleted t sound e l h)
touched_owners (DropPeer e remote port) t sound = step (find (is_peer_of e remote port) t.peers) refl
  where
    step : (o : Option PeerLease) → find (is_peer_of e remote port) t.peers ≡ o → touched (DropPeer e remote port) t ≡ owners_if (option_map peer_run o)
    step None h = sym (no_peer_deleted t sound e remote port h)
    step (Some l) h = sym (one_peer_deleted t sound e remote port l h) ∙ peer_owners l
touched_owners Start t sound = refl
touched_owners Lose t sound = refl
touched_owners Mark t sound = refl
touched_owners (Rest e port end) t sound = refl
touched_owners (Renumber a) t sound = refl

-- ---- which MAP lease owns them

-- one port has one owner
pub even_one : (maps : List MapLease) (r : OwnerRun) → r.count ≡ 1 → IsEven maps r
even_one maps r one i less =
    let same : r.first.external + i ≡ r.first.external = omega (arith, one, less) in
    ap (λ (n : ℕ). map_owning r.first.protocol n maps) same

-- ---- for whom others own them

map_there : (t : Table) (l : MapLease) (i : ℕ) → IsIn l t.maps → i < l.count → IsIn (owner_along i (map_run l).first) (owners t)
map_there t l i there less =
    IsIn-left (flat_map map_owners t.maps) (map peer_owner t.peers) (map_owner l i)
    (flat_map-IsIn map_owners t.maps l (map_owner l i) there (map-IsIn (map_owner l) (range_with_len 0 l.count) i (IsIn-range 0 l.count i (omega arith) (omega (arith, less)))))

peer_there : (t : Table) (l : PeerLease) (i : ℕ) → IsIn l t.peers → i < 1 → IsIn (owner_along i (peer_run l).first) (owners t)
peer_there t l i there less =
    let zeroth : 0 ≡ i = omega (arith, less) in
    subst (λ (o : Owner). IsIn o (owners t)) (sym (along_none (peer_owner l)) ∙ ap (λ (n : ℕ). owner_along n (peer_owner l)) zeroth)
    (IsIn-right (flat_map map_owners t.maps) (map peer_owner t.peers) (peer_owner l) (map-IsIn peer_owner t.peers l there))

-- where the owners of a run are those of a sound table of which this is a part, they agree
agreed_by : (t u : Table) (r : OwnerRun) → Sound t → ((o : Owner) → IsIn o (owners u) → IsIn o (owners t)) → ((i : ℕ) → i < r.count → IsIn (owner_along i r.first) (owners t)) → IsEvenRun u.maps r → IsAgreed u r
agreed_by t u r sound fewer own even = record {
  even = even;
  agreed = λ i less o there protocol external.
      sound.one_owner o (owner_along i r.first) (Contains-from_IsIn (owners t) o (fewer o (IsIn-from_Contains (owners u) o there)))
      (Contains-from_IsIn (owners t) (owner_along i r.first) (own i less)) protocol external;
}

pub map_agreed : (t u : Table) (l : MapLease) → Sound t → ((o : Owner) → IsIn o (owners u) → IsIn o (owners t)) → IsIn l t.maps → IsOwnerRun (map_run l) → IsEven u.maps (map_run l) → IsAgreed u (map_run l)
map_agreed t u l sound fewer there formed even = agreed_by t u (map_run l) sound fewer (λ i less. map_there t l i there less) (record { formed = formed; even = even })

pub peer_agreed : (t u : Table) (l : PeerLease) → Sound t → ((o : Owner) → IsIn o (owners u) → IsIn o (owners t)) → IsIn l t.peers → IsOwnerRun (peer_run l) → IsAgreed u (peer_run l)
peer_agreed t u l sound fewer there formed = agreed_by t u (peer_run l) sound fewer (λ i less. peer_there t l i there less) (record { formed = formed; even = even_one u.maps (peer_run l) refl })

module _ (t : Table) (before : Sound t) (tabled : AreTabled t) where
  -- after the change its ports are held all by one MAP lease or by none, and for no other endpoints
  agreed : (change : Change) → Sound (table_changed change t) → AreTabled (table_changed change t) → (o : Option OwnerRun) → touched_run change t ≡ o → IfSome o IsOwnerRun → IfSome o (IsAgreed (table_changed change t))
  agreed change after kept None h formed = tt
  agreed (Map l) after kept (Some r) h formed =
      let same : map_run l ≡ r = (let both : Some (map_run l) ≡ Some r = h in cc) in
      let u : Table = table_changed (Map l) t in
      let there : IsIn l u.maps = put-new (is_map_of (first_endpoint l)) l t.maps in
      let is = subst IsOwnerRun (sym same) formed in
      subst (IsAgreed u) same (map_agreed u u l after (λ o i. i) there is (even_own u l kept there is.some))
  agreed (Peer l) after kept (Some r) h formed =
      let same : peer_run l ≡ r = (let both : Some (peer_run l) ≡ Some r = h in cc) in
      let u : Table = table_changed (Peer l) t in
      subst (IsAgreed u) same (peer_agreed u u l after (λ o i. i) (put-new (is_peer_of l.endpoint l.remote l.remote_port) l t.peers) (subst IsOwnerRun (sym same) formed))
  agreed (DropMap e) after kept (Some r) h formed = step (find (is_map_of e) t.maps) refl h
    where
      step : (o : Option MapLease) → find (is_map_of e) t.maps ≡ o → option_map map_run o ≡ Some r → IsAgreed (table_changed (DropMap e) t) r
      step None found is = absurd (let never : None ≡ Some r = is in cc)
      step (Some l) found is =
          let same : map_run l ≡ r = (let both : Some (map_run l) ≡ Some r = is in cc) in
          let u : Table = table_changed (DropMap e) t in
          let f = find-some (is_map_of e) t.maps l found in
          let own = subst IsOwnerRun (sym same) formed in
          subst (IsAgreed u) same (map_agreed t u l before (owners-kept t (DropMap e) tt) f.0 own
          (even_gone t l u.maps tabled f.0 own.some (λ x i. (IsIn-filter (λ y. not (is_map_of e y)) t.maps x i).0)
          (λ i. let stays = (IsIn-filter (λ y. not (is_map_of e y)) t.maps l i).1 in
          let no : true ≡ false = sym stays ∙ ap not f.1 in
          absurd (cc))))
  agreed (DropPeer e remote port) after kept (Some r) h formed = step (find (is_peer_of e remote port) t.peers) refl h
    where
      step : (o : Option PeerLease) → find (is_peer_of e remote port) t.peers ≡ o → option_map peer_run o ≡ Some r → IsAgreed (table_changed (DropPeer e remote port) t) r
      step None found is = absurd (let never : None ≡ Some r = is in cc)
      step (Some l) found is =
          let same : peer_run l ≡ r = (let both : Some (peer_run l) ≡ Some r = is in cc) in
          let u : Table = table_changed (DropPeer e remote port) t in
          let f = find-some (is_peer_of e remote port) t.peers l found in
          subst (IsAgreed u) same (peer_agreed t u l before (owners-kept t (DropPeer e remote port) tt) f.0 (subst IsOwnerRun (sym same) formed))
  agreed Start after kept (Some r) h formed = absurd (let never : None ≡ Some r = h in cc)
  agreed Lose after kept (Some r) h formed = absurd (let never : None ≡ Some r = h in cc)
  agreed Mark after kept (Some r) h formed = absurd (let never : None ≡ Some r = h in cc)
  agreed (Rest e port end) after kept (Some r) h formed = absurd (let never : None ≡ Some r = h in cc)
  agreed (Renumber a) after kept (Some r) h formed = absurd (let never : None ≡ Some r = h in cc)

  pub touched_agreed : (change : Change) → Sound (table_changed change t) → AreTabled (table_changed change t) → (maps : List MapLease) (o : Option OwnerRun) → o ≡ touched_run change t
      → IfSome o (IsEvenRun maps) → IfSome o (IsAgreed (table_changed change t))
  touched_agreed change after kept maps o h even = agreed change after kept o (sym h) (formed o even)
    where
      formed : (o : Option OwnerRun) → IfSome o (IsEvenRun maps) → IfSome o IsOwnerRun
      formed None h = tt
      formed (Some r) h = h.formed
