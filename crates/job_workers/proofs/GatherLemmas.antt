-- Jobs that are taken for a call.
use Rattle.std.proofs.Common.{◌≡◌, List, [], ◌∷◌, ◌++◌, map, sym, ap, ◌∙◌, subst, append_assoc}
use Rattle.std.specs.List.{AllByRecursion}
use Rattle.std.proofs.lemmas.List.{append-nil, map-append}
use Rattle.atomic_table.specs.Seated.{TableId}
use Rattle.pcp_base.specs.declared.datagrams.Datagram.{Datagram}
use Rattle.job_queue.specs.declared.jobs.Job.{Job}
use Rattle.job_queue.specs.declared.jobs.Job.TheVariants as Jobs
use Rattle.job_workers.specs.declared.workers.Next.{Next}
use Rattle.job_workers.specs.declared.workers.Next.TheVariants as Nexts
use Rattle.job_queue.specs.Queues.{TakerKnowledge, IsJobFor, MayBeEmpty}
use Rattle.job_workers.specs.Gatherings.{Gathers, behind}

-- so far datagrams were taken
pub record IsGathering (queue : TableId) (old now : TakerKnowledge) (batch : List Datagram) : Type 0 where
  pub taken : now ≡ record old { taken = old.taken ++ map Jobs.Packet batch }
  pub routed : AllByRecursion (IsJobFor old.route) (map Jobs.Packet batch)
  pub queue_is : now.queue ≡ queue

pub IsGathering-none : (queue : TableId) (t : TakerKnowledge) (batch : List Datagram) → t.queue ≡ queue → batch ≡ [] → IsGathering queue t t batch
IsGathering-none queue t batch is none =
    let empty : IsGathering queue t t [] = record {
      taken = ap (λ (l : List Job). record t { taken = l }) (sym (append-nil t.taken));
      routed = tt;
      queue_is = is;
    } in
    subst (λ (xs : List Datagram). IsGathering queue t t xs) (sym none) empty

all_push : (P : Job → Type 0) (xs : List Job) (x : Job) → AllByRecursion P xs → P x → AllByRecursion P (xs ++ x ∷ [])
all_push P [] x h p = (p, tt)
all_push P (y ∷ ys) x h p = (h.0, all_push P ys x h.1 p)

-- one job more
taken_on : (old now new : TakerKnowledge) (js : List Job) (job : Job) → now ≡ record old { taken = old.taken ++ js } → new ≡ record now { taken = now.taken ++ job ∷ [] } → new ≡ record old { taken = old.taken ++ (js ++ job ∷ []) }
taken_on old now new js job is next =
    next ∙ (ap (λ (t : TakerKnowledge). record t { taken = t.taken ++ job ∷ [] }) is
    ∙ ap (λ (l : List Job). record old { taken = l }) (append_assoc old.taken js (job ∷ [])))

pub IsGathering-push : (queue : TableId) (old now new : TakerKnowledge) (batch : List Datagram) (d : Datagram) → IsGathering queue old now batch
    → new ≡ record now { taken = now.taken ++ Jobs.Packet d ∷ [] } → IsJobFor now.route (Jobs.Packet d) → IsGathering queue old new (batch ++ d ∷ [])
IsGathering-push queue old now new batch d h next job =
    let all : map Jobs.Packet (batch ++ d ∷ []) ≡ map Jobs.Packet batch ++ Jobs.Packet d ∷ [] = map-append Jobs.Packet batch (d ∷ []) in
    let routed : IsJobFor old.route (Jobs.Packet d) = subst (λ (t : TakerKnowledge). IsJobFor t.route (Jobs.Packet d)) h.taken job in
    record {
      taken = taken_on old now new (map Jobs.Packet batch) (Jobs.Packet d) h.taken next ∙ ap (λ (js : List Job). record old { taken = old.taken ++ js }) (sym all);
      routed = subst (λ (js : List Job). AllByRecursion (IsJobFor old.route) js) (sym all) (all_push (IsJobFor old.route) (map Jobs.Packet batch) (Jobs.Packet d) h.routed routed);
      queue_is = ap (λ (t : TakerKnowledge). t.queue) next ∙ h.queue_is;
    }

-- the batch is full, or the queue was empty
pub gathered : (queue : TableId) (old now new : TakerKnowledge) (batch : List Datagram) (next : Next) → IsGathering queue old now batch → new ≡ now → behind next ≡ []
    → (next ≡ Nexts.Dry → MayBeEmpty new) → Gathers old new batch next
gathered queue old now new batch next h same none dry = record {
  taken = same ∙ (h.taken ∙ ap (λ (js : List Job). record old { taken = old.taken ++ js }) (sym (append-nil (map Jobs.Packet batch)) ∙ ap (λ (js : List Job). map Jobs.Packet batch ++ js) (sym none)));
  routed = h.routed;
  dry = dry;
}

-- a loss was taken
pub gathered_loss : (queue : TableId) (old now new : TakerKnowledge) (batch : List Datagram) → IsGathering queue old now batch → new ≡ record now { taken = now.taken ++ Jobs.Lose ∷ [] } → Gathers old new batch Nexts.Loss
gathered_loss queue old now new batch h next = record {
  taken = taken_on old now new (map Jobs.Packet batch) Jobs.Lose h.taken next;
  routed = h.routed;
  dry = λ is. absurd (let e : Nexts.Loss ≡ Nexts.Dry = is in cc);
}
