-- Ports after all that was done.
use Rattle.std.proofs.Common.{◌≡◌, ◌≢◌, ℕ, zero, suc, ◌+◌, ◌/◌, ◌≤◌, List, [], ◌∷◌, ◌++◌, fold, slice_set, Option, Some, None, refl, sym, ap, ◌∙◌, subst, append_assoc, arith}
use Rattle.std.specs.List.{slice_get}
use Rattle.std.proofs.lemmas.Bool.{eq-eqb, ne_eqb}
use Rattle.std.proofs.lemmas.List.{append-nil}
use Rattle.pcp_base.specs.declared.configs.Config.{Config}
use Rattle.pcp_io.specs.declared.inboxes.InboxItem.{InboxItem}
use Rattle.pcp_announce.specs.declared.doors.Group.{Group}
use Rattle.job_workers.specs.HouseCalls.{HouseCalls}
use Rattle.job_dispatch.specs.declared.ports.Port.{Port}
use Rattle.job_queue.specs.declared.jobs.Job.{Job}
use Rattle.job_queue.specs.declared.jobs.Job.TheVariants as Jobs
use Rattle.job_queue.specs.Queues.{PutterKnowledge}
use Rattle.job_dispatch.specs.declared.noise.NoiseCounts.{NoiseCounts}
use Rattle.job_dispatch.specs.Dispatches.{ChangesPort, Dispatched, Fate, Put, Full, Waits, Joins, Noise, Starved, Ignored, Given, Late, IsFate, IsLate, all_put_for, port_full, port_late, port_starved, port_waiting, port_with, put_by}
use Rattle.job_dispatch.specs.Dispatching.{DispatchState, DoesStep, DoesSteps}
use Rattle.job_dispatch.specs.Noise.{in_second}
use Rattle.job_dispatch.specs.PortsAfter.{ArePortsAfter, IsPortAfter, put_more, row_by_step, waits_by}

-- ---- none, and one after the other

none_more : (p : PutterKnowledge) → p ≡ put_more p []
none_more p = ap (λ (l : List Job). record p { put = l }) (sym (append-nil p.put))

pub are_none : (shard : ℕ) (ps : List Port) → ArePortsAfter shard [] ps ps
are_none shard [] = tt
are_none shard (p ∷ ps) = (record { putter = none_more p.putter; row = refl; waits = refl }, are_none (shard + 1) ps)

put_behind : (shard : ℕ) (put : Option Job) (rest : List Dispatched) (d : Dispatched) → put_by shard d ≡ put → all_put_for shard (d ∷ rest) ≡ all_put_for shard (d ∷ []) ++ all_put_for shard rest
put_behind shard None rest d e = rw e refl
put_behind shard (Some job) rest d e = rw e refl

follows : (shard : ℕ) (d : Dispatched) (rest : List Dispatched) (a b c : Port) → IsPortAfter shard (d ∷ []) a b → IsPortAfter shard rest b c → IsPortAfter shard (d ∷ rest) a c
follows shard d rest a b c x y = record {
  putter = y.putter ∙ (ap (λ (p : PutterKnowledge). put_more p (all_put_for shard rest)) x.putter
      ∙ ap (λ (l : List Job). record a.putter { put = l })
      (append_assoc a.putter.put (all_put_for shard (d ∷ [])) (all_put_for shard rest)
      ∙ ap (λ (l : List Job). a.putter.put ++ l) (sym (put_behind shard (put_by shard d) rest d refl))));
  row = y.row ∙ ap (λ r. fold (row_by_step shard) r rest) x.row;
  waits = y.waits ∙ ap (λ w. fold (waits_by shard) w rest) x.waits;
}

pub all_follow : (shard : ℕ) (d : Dispatched) (rest : List Dispatched) (xs bs cs : List Port) → ArePortsAfter shard (d ∷ []) xs bs → ArePortsAfter shard rest bs cs → ArePortsAfter shard (d ∷ rest) xs cs
all_follow shard d rest [] [] [] x y = tt
all_follow shard d rest [] [] (c ∷ cs) x y = absurd y
all_follow shard d rest [] (b ∷ bs) cs x y = absurd x
all_follow shard d rest (a ∷ xs) [] cs x y = absurd x
all_follow shard d rest (a ∷ xs) (b ∷ bs) [] x y = absurd y
all_follow shard d rest (a ∷ xs) (b ∷ bs) (c ∷ cs) x y = (follows shard d rest a b c x.0 y.0, all_follow (shard + 1) d rest xs bs cs x.1 y.1)

-- ---- one item

-- a fate that leaves a port as it is, for this shard
Leaves : ℕ → Dispatched → Type 0
Leaves shard d = (port : Port) → IsPortAfter shard (d ∷ []) port port

no_item : {X : Type 0} (i : ℕ) (x : X) → slice_get [] i ≡ Some x → ⊥
no_item i x e = cc

some_same : {X : Type 0} (x y : X) → Some x ≡ Some y → x ≡ y
some_same x y e = cc

leaves_rest : (shard : ℕ) (d : Dispatched) (ps : List Port) → ((n : ℕ) → shard ≤ n → Leaves n d) → ArePortsAfter shard (d ∷ []) ps ps
unfolding Leaves
leaves_rest shard d [] leaves = tt
leaves_rest shard d (p ∷ ps) leaves = (leaves shard (omega arith) p, leaves_rest (shard + 1) d ps (λ n h. leaves n (omega (arith, h))))

changes_one : (shard at : ℕ) (d : Dispatched) (ps : List Port) (port changed : Port) → slice_get ps at ≡ Some port → IsPortAfter (shard + at) (d ∷ []) port changed
    → ((n : ℕ) → n ≢ shard + at → Leaves n d) → ArePortsAfter shard (d ∷ []) ps (slice_set ps at changed)
unfolding Leaves
changes_one shard at d [] port changed there here leaves = absurd (no_item at port there)
changes_one shard zero d (p ∷ ps) port changed there here leaves =
    let same : shard + zero ≡ shard = omega arith in (
      subst (λ n. IsPortAfter n (d ∷ []) p changed) same (subst (λ (x : Port). IsPortAfter (shard + zero) (d ∷ []) x changed) (sym (some_same p port there)) here),
      leaves_rest (shard + 1) d ps (λ n h. leaves n (λ e. omega (arith, h, e))),
    )
changes_one shard (suc at) d (p ∷ ps) port changed there here leaves =
    let same : shard + suc at ≡ (shard + 1) + at = omega arith in (
      leaves shard (λ e. omega (arith, e)) p,
      changes_one (shard + 1) at d ps port changed there (subst (λ n. IsPortAfter n (d ∷ []) port changed) same here) (λ n h. leaves n (λ e. h (e ∙ same))),
    )

of_change : (at : ℕ) (d : Dispatched) (old new : List Port) (port changed : Port) → ChangesPort at port changed old new → IsPortAfter at (d ∷ []) port changed
    → ((n : ℕ) → n ≢ at → Leaves n d) → ArePortsAfter 0 (d ∷ []) old new
of_change at d old new port changed c here leaves =
    let same : at ≡ 0 + at = omega arith in
    subst (λ (l : List Port). ArePortsAfter 0 (d ∷ []) old l) (sym c.new_are)
    (changes_one 0 at d old port changed c.there (subst (λ n. IsPortAfter n (d ∷ []) port changed) same here) (λ n h. leaves n (λ e. h (e ∙ same))))

one_put : (p : PutterKnowledge) (job : Job) (js : List Job) → js ≡ job ∷ [] → record p { put = p.put ++ job ∷ [] } ≡ put_more p js
one_put p job js e = ap (λ (l : List Job). put_more p l) (sym e)

no_put : (p : PutterKnowledge) (js : List Job) → js ≡ [] → p ≡ put_more p js
no_put p js e = none_more p ∙ ap (λ (l : List Job). put_more p l) (sym e)

pub after_item : (config : Config) (noise : NoiseCounts) (item : InboxItem) (fate : Fate) (old new : List Port) → IsFate config noise item fate old new → ArePortsAfter 0 (Given item fate ∷ []) old new
unfolding Leaves
after_item config noise item (Put at job) old new f =
    of_change at (Given item (Put at job)) old new f.1.0 (port_with f.1.0 job) f.1.1
    (record { putter = one_put f.1.0.putter job (all_put_for at (Given item (Put at job) ∷ [])) (rw (eq-eqb at at refl) refl); row = refl; waits = refl })
    (λ n h port. record { putter = no_put port.putter (all_put_for n (Given item (Put at job) ∷ [])) (rw (ne_eqb at n (λ e. h (sym e))) refl); row = refl; waits = refl })
after_item config noise item (Full at job) old new f =
    of_change at (Given item (Full at job)) old new f.2.0 (port_full f.2.0) f.2.1
    (record { putter = none_more f.2.0.putter; row = rw (eq-eqb at at refl) refl; waits = refl })
    (λ n h port. record { putter = none_more port.putter; row = rw (ne_eqb at n (λ e. h (sym e))) refl; waits = refl })
after_item config noise item (Waits at) old new f =
    of_change at (Given item (Waits at)) old new f.1.0 (port_waiting f.1.0) f.1.1
    (record { putter = none_more f.1.0.putter; row = refl; waits = rw (eq-eqb at at refl) refl })
    (λ n h port. record { putter = none_more port.putter; row = refl; waits = rw (ne_eqb at n (λ e. h (sym e))) refl })
after_item config noise item (Joins at) old new f =
    subst (λ (l : List Port). ArePortsAfter 0 (Given item (Joins at) ∷ []) old l) (sym f.1)
    (leaves_rest 0 (Given item (Joins at)) old (λ n h port. record { putter = none_more port.putter; row = refl; waits = refl }))
after_item config noise item (Noise at job) old new f =
    subst (λ (l : List Port). ArePortsAfter 0 (Given item (Noise at job) ∷ []) old l) (sym f.2)
    (leaves_rest 0 (Given item (Noise at job)) old (λ n h port. record { putter = none_more port.putter; row = refl; waits = refl }))
after_item config noise item Starved old new f =
    of_change 0 (Given item Starved) old new f.1.0 (port_starved f.1.0) f.1.1
    (record { putter = none_more f.1.0.putter; row = refl; waits = refl })
    (λ n h port. record { putter = none_more port.putter; row = rw (ne_eqb 0 n (λ e. h (sym e))) refl; waits = refl })
after_item config noise item Ignored old new f =
    subst (λ (l : List Port). ArePortsAfter 0 (Given item Ignored ∷ []) old l) (sym f.1)
    (leaves_rest 0 (Given item Ignored) old (λ n h port. record { putter = none_more port.putter; row = refl; waits = refl }))

-- ---- a loss that waited

after_late : (at : ℕ) (old new : List Port) → IsLate at old new → ArePortsAfter 0 (Late at ∷ []) old new
unfolding Leaves
after_late at old new l =
    of_change at (Late at) old new l.0 (port_late l.0) l.1
    (record { putter = one_put l.0.putter Jobs.Lose (all_put_for at (Late at ∷ [])) (rw (eq-eqb at at refl) refl); row = refl; waits = rw (eq-eqb at at refl) refl })
    (λ n h port. record {
      putter = no_put port.putter (all_put_for n (Late at ∷ [])) (rw (ne_eqb at n (λ e. h (sym e))) refl);
      row = refl;
      waits = rw (ne_eqb at n (λ e. h (sym e))) refl;
    })

-- ---- all that was done

pub after_step : {P : Type 0} (house : HouseCalls P) (config : Config) (groups : List Group) (port : ℕ) (d : Dispatched) (a b : DispatchState P) → DoesStep house config groups port d a b
    → ArePortsAfter 0 (d ∷ []) a.ports b.ports
after_step house config groups port (Given item fate) a b does = after_item config (in_second a.noise (does.time / 1000)) item fate a.ports b.ports does.becomes
after_step house config groups port (Late at) a b does = after_late at a.ports b.ports does.0

-- What stands in the ports after all is what the steps say.
pub after_steps : {P : Type 0} (house : HouseCalls P) (config : Config) (groups : List Group) (port : ℕ) (ds : List Dispatched) (a b : DispatchState P) → DoesSteps house config groups port ds a b → ArePortsAfter 0 ds a.ports b.ports
after_steps house config groups port [] a b does = subst (λ (s : DispatchState _). ArePortsAfter 0 [] a.ports s.ports) (sym does) (are_none 0 a.ports)
after_steps house config groups port (d ∷ ds) a b does =
    all_follow 0 d ds a.ports does.0.ports b.ports (after_step house config groups port d a does.0 does.1) (after_steps house config groups port ds does.0 b does.2)
