-- What the threads leave.
use Rattle.std.proofs.Common.{◌≡◌, ℕ, zero, suc, ◌+◌, List, [], ◌∷◌, ◌++◌, length, take, map, Option, Some, refl, sym, ap, ◌∙◌, subst, arith}
use Rattle.std.specs.List.{slice_get}
use Rattle.std.proofs.lemmas.List.{length-map}
use Rattle.atomic_table.specs.Seated.{TableId}
use Rattle.pcp_base.specs.declared.configs.Config.{Config}
use Rattle.pcp_io.specs.Times.{Times}
use Rattle.job_queue.specs.Queues.{PutterKnowledge}
use Rattle.job_workers.specs.declared.workers.Desk.{Desk}
use Rattle.job_workers.specs.Gatherings.{IsDesk}
use Rattle.job_workers.specs.HouseCalls.{HouseCalls}
use Rattle.job_workers.specs.Stations.{AllWorked, AreStations, OutState, Station, stations}
use Rattle.job_dispatch.specs.declared.ports.Port.{Port}
use Rattle.job_dispatch.specs.Dispatches.{ArePorts, Dispatched, IsPort}
use Rattle.job_dispatch.specs.PortsAfter.{ArePortsAfter, IsPortAfter}
use Rattle.request_workers.specs.Seats.{AreLeft, AreSeated, IsLeft, IsSeated}

-- ---- the ends of all queues

pub are_stations : {P : Type 0} (house : HouseCalls P) (shard : ℕ) (qs : List TableId) (ds : List (Desk P)) (ps : List Port) → AreSeated house shard qs ds ps → AreStations house qs ds
are_stations house shard [] [] [] h = tt
are_stations house shard [] [] (p ∷ ps) h = absurd h
are_stations house shard [] (d ∷ ds) ps h = absurd h
are_stations house shard (q ∷ qs) [] ps h = absurd h
are_stations house shard (q ∷ qs) (d ∷ ds) [] h = absurd h
are_stations house shard (q ∷ qs) (d ∷ ds) (p ∷ ps) h = ((h.0.desk_is, h.0.batch), are_stations house (shard + 1) qs ds ps h.1)

pub desks-length : {P : Type 0} (house : HouseCalls P) (shard : ℕ) (qs : List TableId) (ds : List (Desk P)) (ps : List Port) → AreSeated house shard qs ds ps → length ds ≡ length qs
desks-length house shard [] [] [] h = refl
desks-length house shard [] [] (p ∷ ps) h = absurd h
desks-length house shard [] (d ∷ ds) ps h = absurd h
desks-length house shard (q ∷ qs) [] ps h = absurd h
desks-length house shard (q ∷ qs) (d ∷ ds) [] h = absurd h
desks-length house shard (q ∷ qs) (d ∷ ds) (p ∷ ps) h = ap (λ n. suc n) (desks-length house (shard + 1) qs ds ps h.1)

pub ports-length : {P : Type 0} (house : HouseCalls P) (shard : ℕ) (qs : List TableId) (ds : List (Desk P)) (ps : List Port) → AreSeated house shard qs ds ps → length qs ≡ length ps
ports-length house shard [] [] [] h = refl
ports-length house shard [] [] (p ∷ ps) h = absurd h
ports-length house shard [] (d ∷ ds) ps h = absurd h
ports-length house shard (q ∷ qs) [] ps h = absurd h
ports-length house shard (q ∷ qs) (d ∷ ds) [] h = absurd h
ports-length house shard (q ∷ qs) (d ∷ ds) (p ∷ ps) h = ap (λ n. suc n) (ports-length house (shard + 1) qs ds ps h.1)

some_same : {X : Type 0} (x y : X) → Some x ≡ Some y → x ≡ y
some_same x y e = cc

port_same : (config : Config) (n m : ℕ) (x q : TableId) (y p : Port) → n ≡ m → x ≡ q → y ≡ p → IsPort config n x y → IsPort config m q p
port_same config n m x q y p e f g h =
    subst (λ k. IsPort config k q p) e (subst (λ (z : TableId). IsPort config n z p) f (subst (λ (z : Port). IsPort config n x z) g h))

plus_none : (n : ℕ) → n ≡ n + zero
plus_none n = omega arith

plus_later : (n i : ℕ) → (n + 1) + i ≡ n + suc i
plus_later n i = omega arith

no_item : {X : Type 0} (i : ℕ) (x : X) → slice_get [] i ≡ Some x → ⊥
no_item i x e = cc

port_at : {P : Type 0} (house : HouseCalls P) (shard : ℕ) (qs : List TableId) (ds : List (Desk P)) (ps : List Port) (i : ℕ) (q : TableId) (p : Port) → AreSeated house shard qs ds ps
    → slice_get qs i ≡ Some q → slice_get ps i ≡ Some p → IsPort house.config (shard + i) q p
port_at house shard [] ds ps i q p h a b = absurd (no_item i q a)
port_at house shard (x ∷ qs) [] ps i q p h a b = absurd h
port_at house shard (x ∷ qs) (d ∷ ds) [] i q p h a b = absurd h
port_at house shard (x ∷ qs) (d ∷ ds) (y ∷ ps) zero q p h a b =
    port_same house.config shard (shard + zero) x q y p (plus_none shard) (some_same x q a) (some_same y p b) h.0.port_is
port_at house shard (x ∷ qs) (d ∷ ds) (y ∷ ps) (suc i) q p h a b =
    port_same house.config ((shard + 1) + i) (shard + suc i) q q p p (plus_later shard i) refl refl (port_at house (shard + 1) qs ds ps i q p h.1 a b)

pub are_ports : {P : Type 0} (house : HouseCalls P) (qs : List TableId) (ds : List (Desk P)) (ps : List Port) → AreSeated house 0 qs ds ps → ArePorts house.config qs ps
are_ports house qs ds ps h = record {
  count = ports-length house 0 qs ds ps h;
  each = λ i q p a b. subst (λ n. IsPort house.config n q p) (let same : 0 + i ≡ i = omega arith in same) (port_at house 0 qs ds ps i q p h a b);
}

-- ---- what the workers and the dispatcher leave

abbrev pub desks_of : {P : Type 0} → List (Station P) → List (Desk P)
desks_of ss = map (λ s. s.desk) ss

pub desks_of-stations : {P : Type 0} (ds : List (Desk P)) (os : List OutState) (ts : List (Option Times)) → length os ≡ length ds → length ts ≡ length ds → desks_of (stations ds os ts) ≡ ds
desks_of-stations [] os ts a b = refl
desks_of-stations (d ∷ ds) [] ts a b = absurd (omega (arith, a))
desks_of-stations (d ∷ ds) (o ∷ os) [] a b = absurd (omega (arith, b))
desks_of-stations {P} (d ∷ ds) (o ∷ os) (t ∷ ts) a b = ap (λ (l : List (Desk P)). d ∷ l) (desks_of-stations ds os ts (omega (arith, a)) (omega (arith, b)))

is_left : {P : Type 0} (house : HouseCalls P) (shard : ℕ) (q : TableId) (s t : Station P) (p r : Port) (ds : List Dispatched) → IsSeated house shard q s.desk p
    → IsDesk house q t.desk.pass t.desk.taker → house.place_of t.desk.pass ≡ house.place_of s.desk.pass → t.desk.batch ≡ [] → IsPortAfter shard ds p r → IsLeft house q t.desk r
is_left house shard q s t p r ds seated desk place batch port = record {
  desk_is = desk;
  batch = batch;
  queue_is = ap (λ (x : PutterKnowledge). x.queue) port.putter ∙ seated.port_is.queue_is;
  route_is = ap (λ (x : PutterKnowledge). x.route) port.putter
      ∙ (seated.port_is.route_is ∙ (ap (λ n. Some (record { config = house.config; shard = n })) (sym (place ∙ seated.place)) ∙ sym desk.route_is));
}

are_left_from : {P : Type 0} (house : HouseCalls P) (shard : ℕ) (ds : List Dispatched) (qs : List TableId) (ss ss' : List (Station P)) (ps ps' : List Port)
    → AreSeated house shard qs (desks_of ss) ps → AllWorked house ss ss' → ArePortsAfter shard ds ps ps' → AreLeft house qs (desks_of ss') ps'
are_left_from house shard ds [] [] [] [] [] h w r = tt
are_left_from house shard ds [] [] [] [] (p' ∷ ps') h w r = absurd r
are_left_from house shard ds [] [] [] (p ∷ ps) ps' h w r = absurd h
are_left_from house shard ds [] [] (s' ∷ ss') ps ps' h w r = absurd w
are_left_from house shard ds [] (s ∷ ss) ss' ps ps' h w r = absurd h
are_left_from house shard ds (q ∷ qs) [] ss' ps ps' h w r = absurd h
are_left_from house shard ds (q ∷ qs) (s ∷ ss) [] ps ps' h w r = absurd w
are_left_from house shard ds (q ∷ qs) (s ∷ ss) (s' ∷ ss') [] ps' h w r = absurd h
are_left_from house shard ds (q ∷ qs) (s ∷ ss) (s' ∷ ss') (p ∷ ps) [] h w r = absurd r
are_left_from house shard ds (q ∷ qs) (s ∷ ss) (s' ∷ ss') (p ∷ ps) (p' ∷ ps') h w r = (
  is_left house shard q s s' p p' ds h.0 (w.0.0.desk q h.0.desk_is) w.0.0.stays.place w.0.1 r.0,
  are_left_from house (shard + 1) ds qs ss ss' ps ps' h.1 w.1 r.1,
)

are_left : {P : Type 0} (house : HouseCalls P) (qs : List TableId) (ds ds' : List (Desk P)) (os os' : List OutState) (ts ts' : List (Option Times)) (ps ps' : List Port) (items : List Dispatched)
    → AreSeated house 0 qs ds ps → ArePortsAfter 0 items ps ps' → AllWorked house (stations ds os ts) (stations ds' os' ts')
    → length os ≡ length ds → length ts ≡ length ds → length os' ≡ length ds' → length ts' ≡ length ds'
    → AreLeft house qs ds' ps'
are_left {P} house qs ds ds' os os' ts ts' ps ps' items h ports w a b a' b' =
    let seated : AreSeated house 0 qs (desks_of (stations ds os ts)) ps = subst (λ (l : List (Desk P)). AreSeated house 0 qs l ps) (sym (desks_of-stations ds os ts a b)) h in
    let left : AreLeft house qs (desks_of (stations ds' os' ts')) ps' = are_left_from house 0 items qs (stations ds os ts) (stations ds' os' ts') ps ps' seated w ports in
    subst (λ (l : List (Desk P)). AreLeft house qs l ps') (desks_of-stations ds' os' ts' a' b') left

-- ---- desks and ports of vectors that were lent as slices

pub take_front : {X : Type 0} (n : ℕ) (xs zs : List X) → length xs ≡ n → take n (xs ++ zs) ≡ xs
take_front zero [] zs e = refl
take_front zero (x ∷ xs) zs e = absurd (omega (arith, e))
take_front (suc n) [] zs e = absurd (omega (arith, e))
take_front (suc n) (x ∷ xs) zs e = ap (λ l. x ∷ l) (take_front n xs zs (omega (arith, e)))

pub left_of : {P O T : Type 0} (f : O → OutState) (g : T → Option Times) (house : HouseCalls P) (qs : List TableId) (items ds ds' desks_behind : List (Desk P))
    (outs outs' : List O) (clocks clocks' : List T) (all_ports ps ps' ports_behind : List Port) (n m : ℕ) (dispatched : List Dispatched)
    → ds ≡ items → ps ≡ all_ports → AreSeated house 0 qs items all_ports → ArePortsAfter 0 dispatched ps ps'
    → AllWorked house (stations ds (map f outs) (map g clocks)) (stations ds' (map f outs') (map g clocks'))
    → length outs ≡ length qs → length clocks ≡ length qs → length outs' ≡ length outs → length clocks' ≡ length clocks
    → length ds' ≡ length ds → length ds' ≡ n → length ps' ≡ m
    → AreLeft house qs (take n (ds' ++ desks_behind)) (take m (ps' ++ ports_behind))
left_of {P} f g house qs items ds ds' desks_behind outs outs' clocks clocks' all_ports ps ps' ports_behind n m dispatched same same_ports h ports w a b a' b' d n_is m_is =
    let seated : AreSeated house 0 qs ds ps = subst (λ (l : List (Desk P)). AreSeated house 0 qs l ps) (sym same) (subst (λ (l : List Port). AreSeated house 0 qs items l) (sym same_ports) h) in
    let count : length ds ≡ length qs = desks-length house 0 qs ds ps seated in
    let left : AreLeft house qs ds' ps' = are_left house qs ds ds' (map f outs) (map f outs') (map g clocks) (map g clocks') ps ps' dispatched seated ports w
    (length-map outs f ∙ omega (arith, a, count)) (length-map clocks g ∙ omega (arith, b, count))
    (length-map outs' f ∙ omega (arith, a', a, count, d)) (length-map clocks' g ∙ omega (arith, b', b, count, d)) in
    rw (take_front n ds' desks_behind n_is, take_front m ps' ports_behind m_is) left
