-- What the loops of several lanes did, put together.
use Rattle.std.proofs.Common.{◌≡◌, List, [], ◌∷◌, ◌++◌, length, map, Option, refl, ap, ◌∙◌, arith}
use Rattle.std.specs.List.{AllZip}
use Rattle.std.proofs.lemmas.List.{map-append, length-map}
use Rattle.pcp_io.specs.Times.{Times}
use Rattle.lane_index.specs.Lanes.{LaneKnowledge}
use Rattle.lane_loops.specs.LaneRuns.{LaneState}
use Rattle.lane_loops.specs.LaneSets.{LinkState, AllRun, lane_states}

AllZip-append : {A B : Type 0} (R : A → B → Type 0) (xs us : List A) (ys vs : List B) → AllZip R xs ys → AllZip R us vs → AllZip R (xs ++ us) (ys ++ vs)
AllZip-append R [] us [] vs h k = k
AllZip-append R [] us (y ∷ ys) vs h k = absurd h
AllZip-append R (x ∷ xs) us [] vs h k = absurd h
AllZip-append R (x ∷ xs) us (y ∷ ys) vs h k = (h.0, AllZip-append R xs us ys vs h.1 k)

lane_states-append : (ls ms : List LaneKnowledge) (ks js : List LinkState) (ts us : List (Option Times)) → length ks ≡ length ls → length ts ≡ length ls
    → lane_states (ls ++ ms) (ks ++ js) (ts ++ us) ≡ lane_states ls ks ts ++ lane_states ms js us
lane_states-append [] ms [] js [] us a b = refl
lane_states-append [] ms [] js (t ∷ ts) us a b = absurd (omega (arith, b))
lane_states-append [] ms (k ∷ ks) js ts us a b = absurd (omega (arith, a))
lane_states-append (l ∷ ls) ms [] js ts us a b = absurd (omega (arith, a))
lane_states-append (l ∷ ls) ms (k ∷ ks) js [] us a b = absurd (omega (arith, b))
lane_states-append (l ∷ ls) ms (k ∷ ks) js (t ∷ ts) us a b =
    ap (λ (ss : List LaneState). record { lane = l; asks = k.asks; answers = k.answers; faults = k.faults; times = t } ∷ ss)
    (lane_states-append ls ms ks js ts us (omega (arith, a)) (omega (arith, b)))

-- the first lane, and the others
pub run_together : {L T : Type 0} (f : L → LinkState) (g : T → Option Times)
    (ls ms ls' ms' : List LaneKnowledge) (ks js ks' js' : List L) (ts us ts' us' : List T)
    → length ks ≡ length ls → length ts ≡ length ls → length ks' ≡ length ls' → length ts' ≡ length ls'
    → AllRun (lane_states ls (map f ks) (map g ts)) (lane_states ls' (map f ks') (map g ts'))
    → AllRun (lane_states ms (map f js) (map g us)) (lane_states ms' (map f js') (map g us'))
    → AllRun (lane_states (ls ++ ms) (map f (ks ++ js)) (map g (ts ++ us))) (lane_states (ls' ++ ms') (map f (ks' ++ js')) (map g (ts' ++ us')))
run_together f g ls ms ls' ms' ks js ks' js' ts us ts' us' a b a' b' first rest =
    rw (
      map-append f ks js,
      map-append g ts us,
      map-append f ks' js',
      map-append g ts' us',
      lane_states-append ls ms (map f ks) (map f js) (map g ts) (map g us) (length-map ks f ∙ a) (length-map ts g ∙ b),
      lane_states-append ls' ms' (map f ks') (map f js') (map g ts') (map g us') (length-map ks' f ∙ a') (length-map ts' g ∙ b'),
    )
    (AllZip-append _ (lane_states ls (map f ks) (map g ts)) (lane_states ms (map f js) (map g us)) (lane_states ls' (map f ks') (map g ts')) (lane_states ms' (map f js') (map g us')) first rest)

-- the same of what was parted
pub run_in_all : {L T : Type 0} (f : L → LinkState) (g : T → Option Times) (all : List LaneKnowledge) (links : List L) (clocks : List T)
    (ls ms ls' ms' : List LaneKnowledge) (ks js ks' js' : List L) (ts us ts' us' : List T)
    → all ≡ ls ++ ms → links ≡ ks ++ js → clocks ≡ ts ++ us
    → length ks ≡ length ls → length ts ≡ length ls → length ks' ≡ length ls' → length ts' ≡ length ls'
    → AllRun (lane_states ls (map f ks) (map g ts)) (lane_states ls' (map f ks') (map g ts'))
    → AllRun (lane_states ms (map f js) (map g us)) (lane_states ms' (map f js') (map g us'))
    → AllRun (lane_states all (map f links) (map g clocks)) (lane_states (ls' ++ ms') (map f (ks' ++ js')) (map g (ts' ++ us')))
run_in_all f g all links clocks ls ms ls' ms' ks js ks' js' ts us ts' us' x y z a b a' b' first rest =
    rw (x, y, z) (run_together f g ls ms ls' ms' ks js ks' js' ts us ts' us' a b a' b' first rest)
