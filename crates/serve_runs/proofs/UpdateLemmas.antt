-- Which updates are whose.
use Rattle.std.proofs.Common.{◌≡◌, ℕ, zero, suc, ◌+◌, ◌==◌, ◌<◌, ◌≤◌, List, [], ◌∷◌, ◌++◌, length, map, take, drop, replicate, flat_map, not, Bool, true, false, unwrap_or, refl, sym, ap, subst, rules, ◌∙◌, arith}
use Rattle.std.specs.List.{position_from}
use Rattle.std.proofs.Math.Seq.{take-append_seam, drop-append_seam}
use Rattle.std.proofs.lemmas.List.{length-replicate}
use Rattle.pcp_base.specs.declared.configs.Config.{Config}
use Rattle.pcp_base.specs.declared.datagrams.Datagram.{Datagram}
use Rattle.job_workers.specs.Stations.{OutState}
use Rattle.serve_runs.specs.Updates.{Hands, HandsEach, by_doors, places_of}

abbrev pub other : ℕ → ℕ → Bool
other place at = not (at == place)

same_passes_not : (place : ℕ) → other place place ≡ false
same_passes_not place = search rules

later_passes : (place at : ℕ) → place < at → other place at ≡ true
later_passes place at later = search rules

-- the first one behind those of an external address is that of a later one, if there is one
later_first : (place k i all : ℕ) (uss : List (List Datagram)) → place < k → all ≡ i + length (places_of k uss)
    → unwrap_or (position_from (other place) i (places_of k uss)) all ≡ i
later_first place k i all [] later counted = omega (arith, counted)
later_first place k i all ([] ∷ uss) later counted = later_first place (k + 1) i all uss (omega (arith, later)) counted
later_first place k i all ((u ∷ us) ∷ uss) later counted = rw (later_passes place k later) refl

-- as many are passed over as an external address has
front_is : (place k n i all : ℕ) (uss : List (List Datagram)) → place < k
    → all ≡ i + length (replicate n place ++ places_of k uss)
    → unwrap_or (position_from (other place) i (replicate n place ++ places_of k uss)) all ≡ i + n
front_is place k zero i all uss later counted = later_first place k i all uss later counted ∙ omega arith
front_is place k (suc n) i all uss later counted =
    rw (same_passes_not place) (front_is place k n (i + 1) all uss later (omega (arith, counted)) ∙ omega arith)

-- nothing was sent
none_sent : {O : Type 0} (told : O → OutState) (config : Config) (out : O) (rest : List O) (out_new : OutState) (outs_new : List OutState)
    → Hands [] (told out) out_new → HandsEach config [] (map told rest) outs_new → HandsEach config [] (told out ∷ map told rest) (out_new ∷ outs_new)
none_sent told config out rest out_new outs_new first more = ap (λ o. o ∷ outs_new) (first.idle refl) ∙ ap (λ os. told out ∷ os) more

pub sent-more : {O : Type 0} (told : O → OutState) (config : Config) (place : ℕ) (updates : List Datagram) (places : List ℕ) (count : ℕ)
    (out : O) (rest : List O) (out_new : OutState) (outs_new : List OutState)
    → count ≡ unwrap_or (position_from (other place) 0 places) (length places)
    → Hands (flat_map (by_doors config) (take count updates)) (told out) out_new
    → ((uss : List (List Datagram)) → drop count updates ≡ flat_map (λ us. us) uss → drop count places ≡ places_of (place + 1) uss
    → length uss ≤ length rest → HandsEach config uss (map told rest) outs_new)
    → (uss : List (List Datagram)) → updates ≡ flat_map (λ us. us) uss → places ≡ places_of place uss
    → length uss ≤ suc (length rest) → HandsEach config uss (told out ∷ map told rest) (out_new ∷ outs_new)
sent-more told config place updates places count out rest out_new outs_new counted first more [] us ps few =
    let none : count ≡ 0 = rw ps at counted in
    none_sent told config out rest out_new outs_new
    (subst (λ l. Hands (flat_map (by_doors config) l) (told out) out_new) (ap (λ n. take n updates) none) first)
    (more [] (ap (λ n. drop n updates) none ∙ us) (ap (λ n. drop n places) none ∙ ps) (omega arith))
sent-more told config place updates places count out rest out_new outs_new counted first more (own ∷ uss) us ps few =
    let n : count ≡ length own = (rw ps at counted) ∙ (front_is place (place + 1) (length own) 0 _ uss (omega arith) (omega arith) ∙ omega arith) in
    let taken : take count updates ≡ own = ap (λ k. take k updates) n ∙ ap (take (length own)) us ∙ take-append_seam own (flat_map (λ l. l) uss) in
    let left : drop count updates ≡ flat_map (λ l. l) uss = ap (λ k. drop k updates) n ∙ ap (drop (length own)) us ∙ drop-append_seam own (flat_map (λ l. l) uss) in
    let places_left : drop count places ≡ places_of (place + 1) uss =
    ap (λ k. drop k places) (n ∙ sym (length-replicate (length own) place)) ∙ ap (drop (length (replicate (length own) place))) ps
    ∙ drop-append_seam (replicate (length own) place) (places_of (place + 1) uss) in
    (subst (λ l. Hands (flat_map (by_doors config) l) (told out) out_new) taken first, more uss left places_left (omega (arith, few)))

pub sends-more : {O : Type 0} (told : O → OutState) (config : Config) (place : ℕ) (updates : List Datagram) (places : List ℕ) (count : ℕ)
    (own others : List Datagram) (other_places : List ℕ) (outs : List O) (out : O) (rest : List O) (out_new : OutState)
    (outs_new : List OutState)
    → outs ≡ out ∷ rest → own ≡ take count updates → others ≡ drop count updates → other_places ≡ drop count places
    → count ≡ unwrap_or (position_from (other place) 0 places) (length places)
    → Hands (flat_map (by_doors config) own) (told out) out_new
    → ((uss : List (List Datagram)) → others ≡ flat_map (λ us. us) uss → other_places ≡ places_of (place + 1) uss
    → length uss ≤ length rest → HandsEach config uss (map told rest) outs_new)
    → (uss : List (List Datagram)) → updates ≡ flat_map (λ us. us) uss → places ≡ places_of place uss
    → length uss ≤ length outs → HandsEach config uss (map told outs) (out_new ∷ outs_new)
sends-more told config place updates places count own others other_places outs out rest out_new outs_new parted taken left places_left counted first more uss
    us ps few =
    rw parted (sent-more told config place updates places count out rest out_new outs_new counted
    (subst (λ l. Hands (flat_map (by_doors config) l) (told out) out_new) taken first)
    (λ uss us ps few. more uss (left ∙ us) (places_left ∙ ps) few)
    uss us ps (omega (arith, ap length parted, few)))
