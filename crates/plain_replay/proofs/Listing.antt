-- Lists that loops make.
use Rattle.std.proofs.Common.{◌≡◌, ℕ, zero, suc, ◌+◌, ◌<◌, ◌≤◌, Bool, true, false, cond, List, [], ◌∷◌, ◌++◌, filter, flat_map, map, take, length, refl, ap, sym, ◌∙◌, subst, arith, get_or, append_assoc}
use Rattle.std.specs.List.{AllByRecursion}
use Rattle.std.proofs.lemmas.List.Elements.{filter-append}
use Rattle.std.proofs.lemmas.List.{take_more, flat_map_more, map_more}
use Rattle.pcp_base.specs.declared.leases.End.{End}
use Rattle.pcp_base.specs.Ends.{with_end, with_ends}

pub All-at : {X : Type 0} (P : X → Type 0) (xs : List X) (i : ℕ) (d : X) → i < length xs → AllByRecursion P xs → P (get_or xs i d)
All-at P [] i d low all = absurd (omega arith)
All-at P (x ∷ xs) zero d low all = all.0
All-at P (x ∷ xs) (suc i) d low all = All-at P xs i d (omega arith) all.1

-- one more of a list is mapped behind what was there
pub mapped_more : {X Y : Type 0} (f : X → Y) (ys : List Y) (xs : List X) (i : ℕ) (d : X) → i < length xs →
    (ys ++ map f (take i xs)) ++ f (get_or xs i d) ∷ [] ≡ ys ++ map f (take (i + 1) xs)
mapped_more f ys xs i d low = append_assoc ys (map f (take i xs)) (f (get_or xs i d) ∷ []) ∙ ap (λ zs. ys ++ zs) (sym (map_more f xs i d low))

pub flat_mapped_more : {X Y : Type 0} (f : X → List Y) (xs : List X) (i : ℕ) (d : X) → i < length xs →
    flat_map f (take i xs) ++ f (get_or xs i d) ≡ flat_map f (take (i + 1) xs)
flat_mapped_more f xs i d low = flat_map_more f [] (take i xs) (get_or xs i d) ∙ ap (flat_map f) (sym (take_more xs i d low))

pub with_ends-append : (es fs ends : List End) → with_ends (es ++ fs) ends ≡ with_ends es (with_ends fs ends)
with_ends-append [] fs ends = refl
with_ends-append (e ∷ es) fs ends = ap (with_end e) (with_ends-append es fs ends)

-- the last of what is left goes first
pub last_added : (p : End → Bool) (es : List End) (x : End) (ends : List End) → p x ≡ true →
    with_ends (filter p (es ++ x ∷ [])) ends ≡ with_ends (filter p es) (with_end x ends)
last_added p es x ends h =
    ap (λ zs. with_ends zs ends) (filter-append p es (x ∷ []))
    ∙ with_ends-append (filter p es) (filter p (x ∷ [])) ends
    ∙ ap (λ b. with_ends (filter p es) (with_ends (cond b (x ∷ []) []) ends)) h

pub last_left_out : (p : End → Bool) (es : List End) (x : End) (ends : List End) → p x ≡ false →
    with_ends (filter p (es ++ x ∷ [])) ends ≡ with_ends (filter p es) ends
last_left_out p es x ends h =
    ap (λ zs. with_ends zs ends) (filter-append p es (x ∷ []))
    ∙ with_ends-append (filter p es) (filter p (x ∷ [])) ends
    ∙ ap (λ b. with_ends (filter p es) (with_ends (cond b (x ∷ []) []) ends)) h
