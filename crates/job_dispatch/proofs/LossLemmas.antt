-- Losses that are put, and that wait.
use Rattle.std.proofs.Common.{◌≡◌, ℕ, zero, suc, ◌<◌, Bool, true, false, true≢false, List, [], ◌∷◌, ◌++◌, length, get_or, slice_set, Option, Some, None, refl, sym, ap, ◌∙◌, subst, inl, inr}
use Rattle.std.specs.List.{slice_get}
use Rattle.atomic_table.specs.Seated.{TableId}
use Rattle.pcp_base.specs.declared.addresses.Address.{Address}
use Rattle.pcp_base.specs.declared.configs.Config.{Config}
use Rattle.pcp_io.specs.declared.inboxes.InboxItem.TheVariants as Items
use Rattle.job_queue.specs.declared.jobs.Job.TheVariants as Jobs
use Rattle.job_queue.specs.declared.jobs.JobsRoute.{JobsRoute}
use Rattle.job_queue.specs.Queues.{IsJobFor, is_noise_job}
use Rattle.job_dispatch.specs.declared.ports.Port.{Port}
use Rattle.job_dispatch.specs.Dispatches.{AreLate, ArePorts, ChangesPort, HasLossFate, Ignored, IsLate, Joins, OffersLoss, OffersLossAt, Put, PutsLate, Waits, place_of_external}
use Rattle.job_dispatch.proofs.DispatchLemmas.{changes_at}
use Rattle.job_dispatch.proofs.DispatchingLemmas.{ports_after_late}

-- ---- a loss is a job of each queue, and no noise

pub loss_fits : (route : Option JobsRoute) → IsJobFor route Jobs.Lose
loss_fits None = tt
loss_fits (Some r) = tt

pub loss_is_quiet : (route : Option JobsRoute) → false ≡ is_noise_job route Jobs.Lose
loss_is_quiet None = refl
loss_is_quiet (Some r) = refl

-- ---- the port of a shard

pub offers_loss_at : (ports : List Port) (shard : ℕ) (port changed : Port) (put : Bool) → shard < length ports → port ≡ get_or ports shard port
    → OffersLoss (get_or ports shard port) changed put → OffersLossAt shard ports (slice_set ports shard changed) put
offers_loss_at ports shard port changed put within p offers = record {
  port = port;
  changed = changed;
  changes = changes_at ports shard port changed within p;
  offers = subst (λ (x : Port). OffersLoss x changed put) (sym p) offers;
}

set_same : {X : Type 0} (xs : List X) (i : ℕ) (x : X) → slice_get xs i ≡ Some x → slice_set xs i x ≡ xs
set_same [] i x e = refl
set_same {X} (y ∷ ys) zero x e = let same : y ≡ x = cc in ap (λ (z : X). z ∷ ys) (sym same)
set_same {X} (y ∷ ys) (suc i) x e = ap (λ (l : List X). y ∷ l) (set_same ys i x e)

-- a port that stays leaves all as they are
stays : (shard : ℕ) (port changed : Port) (old new : List Port) → ChangesPort shard port changed old new → changed ≡ port → new ≡ old
stays shard port changed old new c e = c.new_are ∙ (ap (λ (p : Port). slice_set old shard p) e ∙ set_same old shard port c.there)

-- what became of a loss
of_loss : (config : Config) (order : ℕ) (address : Address) (shard : ℕ) (port changed : Port) (old new : List Port) (put : Bool) → place_of_external config address ≡ Some shard
    → ChangesPort shard port changed old new → OffersLoss port changed put → HasLossFate config (Items.Lose order address) old new
of_loss config order address shard port changed old new put is c (inl h) noise =
    (Put shard Jobs.Lose, ((refl, is), (port, subst (λ (p : Port). ChangesPort shard port p old new) h.2 c, h.1), λ e. absurd (true≢false (sym e))), refl)
of_loss config order address shard port changed old new put is c (inr (inl h)) noise =
    (Waits shard, ((refl, is), (port, subst (λ (p : Port). ChangesPort shard port p old new) h.2 c, h.3, h.1)), refl)
of_loss config order address shard port changed old new put is c (inr (inr h)) noise =
    (Joins shard, ((refl, is), stays shard port changed old new c h.2, (port, c.there, h.1)), refl)

pub fate_of_loss : (config : Config) (order : ℕ) (address : Address) (shard : ℕ) (old new : List Port) (put : Bool) → place_of_external config address ≡ Some shard
    → OffersLossAt shard old new put → HasLossFate config (Items.Lose order address) old new
fate_of_loss config order address shard old new put is o = of_loss config order address shard o.port o.changed old new put is o.changes o.offers

pub loss_ignored : (config : Config) (order : ℕ) (address : Address) (ports : List Port) → place_of_external config address ≡ None → HasLossFate config (Items.Lose order address) ports ports
loss_ignored config order address ports none noise = (Ignored, (none, refl), refl)

-- ---- a loss that waited

late_changes : (shard : ℕ) (port changed : Port) (old new : List Port) (put : Bool) → ChangesPort shard port changed old new → PutsLate port changed put → put ≡ true → IsLate shard old new
late_changes shard port changed old new put c (inl h) is = (port, subst (λ (p : Port). ChangesPort shard port p old new) h.2 c, h.1)
late_changes shard port changed old new put c (inr h) is = absurd (true≢false (sym is ∙ h.0))

pub late_at : (ports : List Port) (shard : ℕ) (port changed : Port) (put : Bool) → shard < length ports → port ≡ get_or ports shard port
    → PutsLate (get_or ports shard port) changed put → put ≡ true → IsLate shard ports (slice_set ports shard changed)
late_at ports shard port changed put within p puts is =
    late_changes shard port changed ports (slice_set ports shard changed) put (changes_at ports shard port changed within p) (subst (λ (x : Port). PutsLate x changed put) (sym p) puts) is

-- ---- one after the other

late_push : (shards : List ℕ) (shard : ℕ) (a b c : List Port) → AreLate shards a b → IsLate shard b c → AreLate (shards ++ shard ∷ []) a c
late_push [] shard a b c is late = (c, subst (λ (l : List Port). IsLate shard l c) is late, refl)
late_push (x ∷ xs) shard a b c h late = (h.0, h.1, late_push xs shard h.0 b c h.2 late)

late_append : (xs ys : List ℕ) (a b c : List Port) → AreLate xs a b → AreLate ys b c → AreLate (xs ++ ys) a c
late_append [] ys a b c h k = subst (λ (l : List Port). AreLate ys l c) h k
late_append (x ∷ xs) ys a b c h k = (h.0, h.1, late_append xs ys h.0 b c h.2 k)

-- losses that waited were put, and the ports are the same queues' still
pub record HasPutLate (config : Config) (queues : List TableId) (old now : List Port) : Type 0 where
  pub shards : List ℕ
  pub late : AreLate shards old now
  pub ports : ArePorts config queues now

pub put_one : (config : Config) (queues : List TableId) (shard : ℕ) (a b c : List Port) → HasPutLate config queues a b → IsLate shard b c → HasPutLate config queues a c
put_one config queues shard a b c h late = record {
  shards = h.shards ++ shard ∷ [];
  late = late_push h.shards shard a b c h.late late;
  ports = ports_after_late config queues shard b c h.ports late;
}

pub put_same : (config : Config) (queues : List TableId) (a b c : List Port) → HasPutLate config queues a b → c ≡ b → HasPutLate config queues a c
put_same config queues a b c h e = subst (λ (l : List Port). HasPutLate config queues a l) (sym e) h

pub put_some : (config : Config) (queues : List TableId) (a b c : List Port) → HasPutLate config queues a b → ((shards : List ℕ) × AreLate shards b c) → ArePorts config queues c → HasPutLate config queues a c
put_some config queues a b c h more ports = record {
  shards = h.shards ++ more.0;
  late = late_append h.shards more.0 a b c h.late more.1;
  ports = ports;
}
