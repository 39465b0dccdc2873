-- What several workers did, put together.
use Rattle.std.proofs.Common.{◌≡◌, List, [], ◌∷◌, ◌++◌, length, map, Option, refl, ap, ◌∙◌, arith}
use Rattle.std.specs.List.{AllZip}
use Rattle.std.proofs.lemmas.List.{map-append, length-map}
use Rattle.pcp_io.specs.Times.{Times}
use Rattle.job_workers.specs.declared.workers.Desk.{Desk}
use Rattle.job_workers.specs.HouseCalls.{HouseCalls}
use Rattle.job_workers.specs.Stations.{OutState, Station, AllWorked, stations}

AllZip-append : {A B : Type 0} (R : A → B → Type 0) (xs us : List A) (ys vs : List B) → AllZip R xs ys → AllZip R us vs → AllZip R (xs ++ us) (ys ++ vs)
AllZip-append R [] us [] vs h k = k
AllZip-append R [] us (y ∷ ys) vs h k = absurd h
AllZip-append R (x ∷ xs) us [] vs h k = absurd h
AllZip-append R (x ∷ xs) us (y ∷ ys) vs h k = (h.0, AllZip-append R xs us ys vs h.1 k)

stations-append : {P : Type 0} (ds es : List (Desk P)) (os ps : List OutState) (ts us : List (Option Times)) → length os ≡ length ds → length ts ≡ length ds
    → stations (ds ++ es) (os ++ ps) (ts ++ us) ≡ stations ds os ts ++ stations es ps us
stations-append [] es [] ps [] us a b = refl
stations-append [] es [] ps (t ∷ ts) us a b = absurd (omega (arith, b))
stations-append [] es (o ∷ os) ps ts us a b = absurd (omega (arith, a))
stations-append (d ∷ ds) es [] ps ts us a b = absurd (omega (arith, a))
stations-append (d ∷ ds) es (o ∷ os) ps [] us a b = absurd (omega (arith, b))
stations-append (d ∷ ds) es (o ∷ os) ps (t ∷ ts) us a b =
    ap (λ (ss : List (Station _)). record { desk = d; out = o; times = t } ∷ ss) (stations-append ds es os ps ts us (omega (arith, a)) (omega (arith, b)))

-- the first worker, and the others
pub worked_together : {P O T : Type 0} (f : O → OutState) (g : T → Option Times) (house : HouseCalls P)
    (ds es ds' es' : List (Desk P)) (os ps os' ps' : List O) (ts us ts' us' : List T)
    → length os ≡ length ds → length ts ≡ length ds → length os' ≡ length ds' → length ts' ≡ length ds'
    → AllWorked house (stations ds (map f os) (map g ts)) (stations ds' (map f os') (map g ts'))
    → AllWorked house (stations es (map f ps) (map g us)) (stations es' (map f ps') (map g us'))
    → AllWorked house (stations (ds ++ es) (map f (os ++ ps)) (map g (ts ++ us))) (stations (ds' ++ es') (map f (os' ++ ps')) (map g (ts' ++ us')))
worked_together f g house ds es ds' es' os ps os' ps' ts us ts' us' a b a' b' first rest =
    rw (
      map-append f os ps,
      map-append g ts us,
      map-append f os' ps',
      map-append g ts' us',
      stations-append ds es (map f os) (map f ps) (map g ts) (map g us) (length-map os f ∙ a) (length-map ts g ∙ b),
      stations-append ds' es' (map f os') (map f ps') (map g ts') (map g us') (length-map os' f ∙ a') (length-map ts' g ∙ b'),
    )
    (AllZip-append _ (stations ds (map f os) (map g ts)) (stations es (map f ps) (map g us)) (stations ds' (map f os') (map g ts')) (stations es' (map f ps') (map g us')) first rest)

-- the same of what was parted
pub worked_in_all : {P O T : Type 0} (f : O → OutState) (g : T → Option Times) (house : HouseCalls P) (all : List (Desk P)) (outs : List O) (clocks : List T)
    (ds es ds' es' : List (Desk P)) (os ps os' ps' : List O) (ts us ts' us' : List T)
    → all ≡ ds ++ es → outs ≡ os ++ ps → clocks ≡ ts ++ us
    → length os ≡ length ds → length ts ≡ length ds → length os' ≡ length ds' → length ts' ≡ length ds'
    → AllWorked house (stations ds (map f os) (map g ts)) (stations ds' (map f os') (map g ts'))
    → AllWorked house (stations es (map f ps) (map g us)) (stations es' (map f ps') (map g us'))
    → AllWorked house (stations all (map f outs) (map g clocks)) (stations (ds' ++ es') (map f (os' ++ ps')) (map g (ts' ++ us')))
worked_in_all f g house all outs clocks ds es ds' es' os ps os' ps' ts us ts' us' x y z a b a' b' first rest =
    rw (x, y, z) (worked_together f g house ds es ds' es' os ps os' ps' ts us ts' us' a b a' b' first rest)
