-- Each step at the copies keeps the rule.
use Rattle.std.proofs.Common.{◌≡◌, ℕ, zero, suc, ◌≢◌, ⊎_elim, List, [], ◌∷◌, set, Option, Some, None, refl, sym, subst, ◌∙◌}
use Rattle.std.proofs.lemmas.List.{append-nil}
use mathlib.Core.Option.{some, some-injective, some-ne-none}
use mathlib.Core.List.{IsPrefix}
use lib.ListN.{get_elem?}
use Rattle.atomic_table.proofs.Lists.{at_set, at_snoc}
use Rattle.left_right.specs.Register.{Admits, TurnsAt, Forks, Merges}
use Rattle.lane_index.specs.declared.history.Reached.{Reached}
use Rattle.lane_index.specs.declared.replicas.Replica.{Replica}
use Rattle.lane_index.specs.Histories.{added_in}
use Rattle.lane_index.specs.Replicas.{IsReplica}
use Rattle.lane_index.specs.Shown.{HasReached, Covers, IsShown, reached_by, Finds, Shows, MayBeShown}
use Rattle.lane_index.proofs.HistoryLemmas.{prefix_trans, records-prefix}

covers_set : (copy : Replica) (views : List (Option Reached)) (seat : ℕ) (v : Option Reached)
    → ((j : ℕ) (u : Option Reached) → get_elem? views j ≡ some u → Covers copy u) → Covers copy v
    → (j : ℕ) (u : Option Reached) → get_elem? (set views seat v) j ≡ some u → Covers copy u
covers_set copy views seat v each mine j u e =
    ⊎_elim (λ (t : (j ≡ seat) × (v ≡ u)). subst (λ (z : Option Reached). Covers copy z) t.1 mine)
    (λ (t : (j ≢ seat) × (get_elem? views j ≡ some u)). each j u t.1) (at_set views seat j v u e)

reaches_itself : (copy : Replica) → HasReached copy (reached_by copy)
reaches_itself copy = record { book_is = refl; log = ([], append-nil copy.seen.log) }

pub admits : Admits IsShown None
admits copy views h = record {
  copy_is = h.copy_is;
  views = λ j u e. ⊎_elim (h.views j u) (λ (is : None ≡ u). subst (λ (z : Option Reached). Covers copy z) is tt) (at_snoc views None u j e);
}

pub enters : (seat : ℕ) (v : Option Reached) (copy : Replica) → TurnsAt IsShown seat v copy copy Finds
enters seat v copy views h at = (
  Some (reached_by copy),
  record { copy_is = h.copy_is; views = covers_set copy views seat (Some (reached_by copy)) h.views (reaches_itself copy) },
  (h.copy_is, h.views seat v at, refl),
)

still_covers : (old new : Replica) → MayBeShown old new → (v : Option Reached) → Covers old v → Covers new v
still_covers old new next None c = tt
still_covers old new next (Some r) c = record {
  book_is = c.book_is ∙ next.more.book_is;
  log = prefix_trans r.seen.log old.seen.log new.seen.log c.log next.more.log;
}

pub publishes : (seat : ℕ) (v : Option Reached) (old new : Replica) → MayBeShown old new → TurnsAt IsShown seat v old new Shows
publishes seat v old new next views h at = (
  Some (reached_by new),
  record {
    copy_is = next.copy_is;
    views = covers_set new views seat (Some (reached_by new)) (λ j u e. still_covers old new next u (h.views j u e)) (reaches_itself new);
  },
  (next.copy_is, refl),
)

pub follows_itself : (copy : Replica) → IsReplica copy.seen.book copy → MayBeShown copy copy
follows_itself copy is = record { copy_is = is; more = reaches_itself copy }

pub forks : (seat : ℕ) (v : Option Reached) → Forks IsShown seat v v v
forks seat v copy views h at = record {
  copy_is = h.copy_is;
  views = λ j u e. ⊎_elim (covers_set copy views seat v h.views (h.views seat v at) j u)
      (λ (is : v ≡ u). subst (λ (z : Option Reached). Covers copy z) is (h.views seat v at)) (at_snoc (set views seat v) v u j e);
}

pub merges : (seat : ℕ) (v : Option Reached) (other : ℕ) (w : Option Reached) → Merges IsShown seat v other w w None
merges seat v other w copy views h at apart there =
    let told : Covers copy w = ⊎_elim (λ (t : (other ≡ seat) × (w ≡ w)). absurd (apart t.0)) (λ (t : (other ≢ seat) × (get_elem? views other ≡ some w)). h.views other w t.1) (at_set views seat other w w there) in
    record { copy_is = h.copy_is; views = covers_set copy (set views seat w) other None (covers_set copy views seat w h.views told) tt }

pub starts : (copy : Replica) → IsReplica copy.seen.book copy → IsShown copy (None ∷ [])
starts copy is = record { copy_is = is; views = each }
  where
    each : (j : ℕ) (v : Option Reached) → get_elem? (None ∷ []) j ≡ some v → Covers copy v
    each zero v e = subst (λ (z : Option Reached). Covers copy z) (some-injective None v e) tt
    each (suc j) v e = absurd (some-ne-none v (sym e))

pub knows_no_more : (copy : Replica) (views : List (Option Reached)) → IsShown copy views
    → (i : ℕ) (r : Reached) → get_elem? views i ≡ some (Some r) → IsPrefix (added_in r.seen.log) (added_in copy.seen.log)
knows_no_more copy views h i r at = let reached : HasReached copy r = h.views i (Some r) at in records-prefix r.seen.log copy.seen.log reached.log
