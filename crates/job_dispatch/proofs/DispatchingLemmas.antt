-- What is done one after the other.
use Rattle.std.proofs.Common.{◌≡◌, ◌≢◌, ◌≤◌, ◌<◌, ◌^◌, ◌-◌, ℕ, ◌/◌, suc, zero, take, IfSome, ◌⊎◌, inl, inr, Bool, true, false, List, [], ◌∷◌, ◌++◌, length, map, slice_set, Option, Some, None, Result, Ok, Err, refl, sym, ap, ◌∙◌, subst, arith}
use Rattle.std.specs.List.{slice_get}
use Rattle.atomic_table.specs.Seated.{TableId}
use Rattle.pcp_base.specs.declared.configs.Config.{Config}
use Rattle.pcp_base.specs.declared.errors.Failed.{Failed}
use Rattle.pcp_io.specs.declared.inboxes.InboxItem.{InboxItem}
use Rattle.pcp_io.specs.declared.inboxes.Incoming.{Incoming}
use Rattle.pcp_io.specs.declared.inboxes.Incoming.TheVariants as Incomings
use Rattle.pcp_io.specs.declared.inboxes.InboxItem.TheVariants as Items
use Rattle.pcp_io.specs.Faults.{HasRisen}
use Rattle.pcp_io.specs.Takes.{IsNextItem, item_of}
use Rattle.pcp_announce.specs.declared.doors.Group.{Group}
use Rattle.job_workers.specs.HouseCalls.{HouseCalls}
use Rattle.job_dispatch.specs.declared.ports.Port.{Port}
use Rattle.job_dispatch.specs.declared.noise.NoiseCounts.{NoiseCounts}
use Rattle.job_dispatch.specs.Announcing.{AnnounceState, Announces}
use Rattle.job_dispatch.specs.Dispatches.{AreLate, ArePorts, ChangesPort, Dispatched, Fate, Put, Full, Waits, Joins, Noise, Starved, Ignored, Given, Late, HasFate, IsFate, IsLate, IsPort, NoneWaits, port_full, port_late, port_starved, port_waiting, port_with}
use Rattle.job_dispatch.specs.Dispatching.{DispatchState, DoesItem, DoesStep, DoesSteps, EndsByFault, EndsByStop, EndsDispatcher, IsItemTurn, RunsDispatcher, RunsItems}
use Rattle.job_dispatch.specs.PortsAfter.{ArePortsAfter}
use Rattle.job_dispatch.specs.Noise.{in_second}
use Rattle.job_dispatch.proofs.NoiseLemmas.{dropped_steps}
use Rattle.job_dispatch.proofs.PortLemmas.{after_steps}

length-slice_set : {X : Type 0} (xs : List X) (i : ℕ) (y : X) → length (slice_set xs i y) ≡ length xs
length-slice_set [] i y = refl
length-slice_set (x ∷ xs) zero y = refl
length-slice_set (x ∷ xs) (suc i) y = ap (λ n. suc n) (length-slice_set xs i y)

-- what stands at a place of a list of which one item was changed
get-set : {X : Type 0} (xs : List X) (i j : ℕ) (x y z : X) → slice_get xs i ≡ Some x → slice_get (slice_set xs i y) j ≡ Some z →
    ((j ≡ i) × (y ≡ z)) ⊎ (slice_get xs j ≡ Some z)
get-set [] i j x y z h k = absurd cc
get-set (w ∷ ws) zero zero x y z h k = inl (refl, cc)
get-set (w ∷ ws) zero (suc j) x y z h k = inr k
get-set (w ∷ ws) (suc i) zero x y z h k = inr k
get-set (w ∷ ws) (suc i) (suc j) x y z h k = elim (get-set ws i j x y z h k) [
  | inl p ↦ inl (ap (λ n. suc n) p.0, p.1)
  | inr p ↦ inr p
]

-- a changed port is an end of the same queue
record KeepsEnd (old new : Port) : Type 0 where
  pub queue_is : new.putter.queue ≡ old.putter.queue
  pub route_is : new.putter.route ≡ old.putter.route

ports_after_change : (config : Config) (queues : List TableId) (old new : List Port) (shard : ℕ) (port changed : Port)
    → ArePorts config queues old → ChangesPort shard port changed old new → KeepsEnd port changed → ArePorts config queues new
ports_after_change config queues old new shard port changed h c keeps =
    let all : ArePorts config queues (slice_set old shard changed) = record {
      count = h.count ∙ sym (length-slice_set old shard changed);
      each = λ at queue p there_queue there. elim (get-set old shard at port changed p c.there there) [
        | inl e ↦
            let was : IsPort config shard queue port = h.each shard queue port (subst (λ n. slice_get queues n ≡ Some queue) e.0 there_queue) c.there in
            let mine : IsPort config shard queue p = record {
              queue_is = subst (λ (x : Port). x.putter.queue ≡ queue) e.1 (keeps.queue_is ∙ was.queue_is);
              route_is = subst (λ (x : Port). x.putter.route ≡ Some (record { config = config; shard = shard })) e.1 (keeps.route_is ∙ was.route_is);
            } in
            subst (λ n. IsPort config n queue p) (sym e.0) mine
        | inr e ↦ h.each at queue p there_queue e
      ];
    } in
    subst (λ (ps : List Port). ArePorts config queues ps) (sym c.new_are) all

pub ports_after : (config : Config) (queues : List TableId) (noise : NoiseCounts) (item : InboxItem) (fate : Fate) (old new : List Port) → ArePorts config queues old → IsFate config noise item fate old new → ArePorts config queues new
ports_after config queues noise item (Put shard job) old new h f =
    ports_after_change config queues old new shard f.1.0 (port_with f.1.0 job) h f.1.1 (record { queue_is = refl; route_is = refl })
ports_after config queues noise item (Full shard job) old new h f =
    ports_after_change config queues old new shard f.2.0 (port_full f.2.0) h f.2.1 (record { queue_is = refl; route_is = refl })
ports_after config queues noise item (Waits shard) old new h f =
    ports_after_change config queues old new shard f.1.0 (port_waiting f.1.0) h f.1.1 (record { queue_is = refl; route_is = refl })
ports_after config queues noise item (Joins shard) old new h f = subst (λ (ps : List Port). ArePorts config queues ps) (sym f.1) h
ports_after config queues noise item (Noise shard job) old new h f = subst (λ (ps : List Port). ArePorts config queues ps) (sym f.2) h
ports_after config queues noise item Starved old new h f =
    ports_after_change config queues old new 0 f.1.0 (port_starved f.1.0) h f.1.1 (record { queue_is = refl; route_is = refl })
ports_after config queues noise item Ignored old new h f = subst (λ (ps : List Port). ArePorts config queues ps) (sym f.1) h

pub ports_after_late : (config : Config) (queues : List TableId) (shard : ℕ) (old new : List Port) → ArePorts config queues old → IsLate shard old new → ArePorts config queues new
ports_after_late config queues shard old new h l =
    ports_after_change config queues old new shard l.0 (port_late l.0) h l.1 (record { queue_is = refl; route_is = refl })

pub pass_after : {P : Type 0} (house : HouseCalls P) (groups : List Group) (port time : ℕ) (old new : AnnounceState P) → house.is_pass old.pass → Announces house groups port time old new → house.is_pass new.pass
pass_after house groups port time old new h a = a.told.stays.is h

-- ---- steps so far

pub record HasDispatched {P : Type 0} (house : HouseCalls P) (config : Config) (queues : List TableId) (groups : List Group) (port : ℕ) (old now : DispatchState P) : Type 0 where
  pub dispatched : List Dispatched
  pub does : DoesSteps house config groups port dispatched old now
  pub ports : ArePorts config queues now.ports
  pub pass : house.is_pass now.announcing.pass

pub HasDispatched-none : {P : Type 0} (house : HouseCalls P) (config : Config) (queues : List TableId) (groups : List Group) (port : ℕ) (a : DispatchState P)
    → ArePorts config queues a.ports → house.is_pass a.announcing.pass → HasDispatched house config queues groups port a a
HasDispatched-none house config queues groups port a ports pass = record { dispatched = []; does = refl; ports = ports; pass = pass }

pub steps-append : {P : Type 0} (house : HouseCalls P) (config : Config) (groups : List Group) (port : ℕ) (xs ys : List Dispatched) (a b c : DispatchState P)
    → DoesSteps house config groups port xs a b → DoesSteps house config groups port ys b c → DoesSteps house config groups port (xs ++ ys) a c
steps-append {P} house config groups port [] ys a b c is does = subst (λ (s : DispatchState P). DoesSteps house config groups port ys s c) is does
steps-append house config groups port (x ∷ xs) ys a b c h does = (h.0, h.1, steps-append house config groups port xs ys h.0 b c h.2 does)

one_step : {P : Type 0} (house : HouseCalls P) (config : Config) (groups : List Group) (port : ℕ) (d : Dispatched) (a b : DispatchState P)
    → DoesStep house config groups port d a b → DoesSteps house config groups port (d ∷ []) a b
one_step house config groups port d a b does = (b, does, refl)

-- losses that waited are steps
late_steps : {P : Type 0} (house : HouseCalls P) (config : Config) (groups : List Group) (port : ℕ) (shards : List ℕ) (a : DispatchState P) (ports : List Port)
    → AreLate shards a.ports ports → DoesSteps house config groups port (map Late shards) a (record a { ports = ports })
late_steps house config groups port [] a ports is = ap (λ (ps : List Port). record a { ports = ps }) is
late_steps house config groups port (s ∷ ss) a ports h =
    (record a { ports = h.0 }, (h.1, refl), late_steps house config groups port ss (record a { ports = h.0 }) ports h.2)

-- An item came behind answers to orders, by which the inbox has as much left.
item_behind : {P : Type 0} (house : HouseCalls P) (config : Config) (groups : List Group) (port : ℕ) (item : InboxItem) (fate : Fate) (b c : DispatchState P) (left : Option (List InboxItem)) (faults : ℕ)
    → left ≡ b.left → b.faults ≤ faults → DoesItem house config groups port item fate (record b { left = left; faults = faults }) c → DoesItem house config groups port item fate b c
item_behind house config groups port item fate b c left faults same later does = record {
  given = subst (λ (l : Option (List InboxItem)). IsNextItem l c.left (Some item)) same does.given;
  later = let more = does.later in omega (arith, later, more);
  time = does.time;
  announced = does.announced;
  becomes = does.becomes;
  noise = does.noise;
}

pub risen_behind : (a b c : ℕ) → a ≤ b → HasRisen b c → HasRisen a c
risen_behind a b c later (inl e) = inl (omega (arith, later, e))
risen_behind a b c later (inr e) = inr e

pub risen_before : (a b c : ℕ) → HasRisen a b → b ≤ c → HasRisen a c
risen_before a b c (inl e) later = inl (omega (arith, later, e))
risen_before a b c (inr e) later = inr (omega (arith, later, e))

-- losses that waited were put, and then an item came
pub turn_on : {P : Type 0} (house : HouseCalls P) (config : Config) (queues : List TableId) (groups : List Group) (port : ℕ) (a b c : DispatchState P)
    (ports : List Port) (left : Option (List InboxItem)) (faults : ℕ) (result : Result Bool Failed)
    → HasDispatched house config queues groups port a b → ((shards : List ℕ) × AreLate shards b.ports ports) → ArePorts config queues ports → left ≡ b.left → b.faults ≤ faults
    → IsItemTurn house config groups port (record b { ports = ports; left = left; faults = faults }) c result → result ≡ Ok true → HasDispatched house config queues groups port a c
turn_on {P} house config queues groups port a b c ports left faults (Ok true) h late are same later turn is =
    let mid : DispatchState P = record b { ports = ports } in
    let put = steps-append house config groups port h.dispatched (map Late late.0) a b mid h.does (late_steps house config groups port late.0 b ports late.1) in
    record {
      dispatched = (h.dispatched ++ map Late late.0) ++ Given turn.0 turn.1 ∷ [];
      does = steps-append house config groups port (h.dispatched ++ map Late late.0) (Given turn.0 turn.1 ∷ []) a mid c put
          (one_step house config groups port (Given turn.0 turn.1) mid c (item_behind house config groups port turn.0 turn.1 mid c left faults same later turn.2));
      ports = ports_after config queues (in_second b.noise (turn.2.time / 1000)) turn.0 turn.1 ports c.ports are turn.2.becomes;
      pass = pass_after house groups port _ b.announcing c.announcing h.pass turn.2.announced;
    }
turn_on house config queues groups port a b c ports left faults (Ok false) h late are same later turn is = absurd (let e : ◌≡◌ {A = Result Bool Failed} (Ok false) (Ok true) = is in cc)
turn_on house config queues groups port a b c ports left faults (Err fault) h late are same later turn is = absurd (let e : ◌≡◌ {A = Result Bool Failed} (Err fault) (Ok true) = is in cc)

-- the end
pub ends_by_stop : {P : Type 0} (house : HouseCalls P) (config : Config) (queues : List TableId) (groups : List Group) (port : ℕ) (a b c : DispatchState P)
    (ports : List Port) (left : Option (List InboxItem)) (faults : ℕ) (result : Result Bool Failed)
    → HasDispatched house config queues groups port a b → ((shards : List ℕ) × AreLate shards b.ports ports) → left ≡ b.left
    → IsItemTurn house config groups port (record b { ports = ports; left = left; faults = faults }) c result → result ≡ Ok false → RunsItems house config groups port a c (Ok tt)
ends_by_stop {P} house config queues groups port a b c ports left faults (Ok false) h late same turn is =
    let mid : DispatchState P = record b { ports = ports } in
    let ends : EndsByStop mid c = record { stop = subst (λ (l : Option (List InboxItem)). IsNextItem l c.left None) same turn.stop; same = turn.same } in
    record {
      dispatched = h.dispatched ++ map Late late.0;
      last = mid;
      does = steps-append house config groups port h.dispatched (map Late late.0) a b mid h.does (late_steps house config groups port late.0 b ports late.1);
      ends = ends;
    }
ends_by_stop house config queues groups port a b c ports left faults (Ok true) h late same turn is = absurd (let e : ◌≡◌ {A = Result Bool Failed} (Ok true) (Ok false) = is in cc)
ends_by_stop house config queues groups port a b c ports left faults (Err fault) h late same turn is = absurd (let e : ◌≡◌ {A = Result Bool Failed} (Err fault) (Ok false) = is in cc)

pub ends_by_fault : {P : Type 0} (house : HouseCalls P) (config : Config) (queues : List TableId) (groups : List Group) (port : ℕ) (a b c : DispatchState P)
    (ports : List Port) (left : Option (List InboxItem)) (faults : ℕ) (result : Result Bool Failed) (fault : Failed)
    → HasDispatched house config queues groups port a b → ((shards : List ℕ) × AreLate shards b.ports ports) → left ≡ b.left → b.faults ≤ faults
    → IsItemTurn house config groups port (record b { ports = ports; left = left; faults = faults }) c result → result ≡ Err fault → RunsItems house config groups port a c (Err fault)
ends_by_fault {P} house config queues groups port a b c ports left faults (Err f) fault h late same later turn is =
    let mid : DispatchState P = record b { ports = ports } in
    let ends : EndsByFault mid c = record {
      fault = risen_behind b.faults faults c.faults later turn.fault;
      same = (turn.same.0, turn.same.1, turn.same.2, turn.same.3 ∙ same);
    } in
    record {
      dispatched = h.dispatched ++ map Late late.0;
      last = mid;
      does = steps-append house config groups port h.dispatched (map Late late.0) a b mid h.does (late_steps house config groups port late.0 b ports late.1);
      ends = ends;
    }
ends_by_fault house config queues groups port a b c ports left faults (Ok true) fault h late same later turn is = absurd (let e : ◌≡◌ {A = Result Bool Failed} (Ok true) (Err fault) = is in cc)
ends_by_fault house config queues groups port a b c ports left faults (Ok false) fault h late same later turn is = absurd (let e : ◌≡◌ {A = Result Bool Failed} (Ok false) (Err fault) = is in cc)

-- ---- losses that are put at the end

ports_step : {P : Type 0} (house : HouseCalls P) (config : Config) (queues : List TableId) (groups : List Group) (port : ℕ) (d : Dispatched) (a b : DispatchState P)
    → ArePorts config queues a.ports → DoesStep house config groups port d a b → ArePorts config queues b.ports
ports_step house config queues groups port (Given item fate) a b h does = ports_after config queues (in_second a.noise (does.time / 1000)) item fate a.ports b.ports h does.becomes
ports_step house config queues groups port (Late shard) a b h does = ports_after_late config queues shard a.ports b.ports h does.0

ports_steps : {P : Type 0} (house : HouseCalls P) (config : Config) (queues : List TableId) (groups : List Group) (port : ℕ) (ds : List Dispatched) (a b : DispatchState P)
    → ArePorts config queues a.ports → DoesSteps house config groups port ds a b → ArePorts config queues b.ports
ports_steps {P} house config queues groups port [] a b h does = subst (λ (s : DispatchState P). ArePorts config queues s.ports) (sym does) h
ports_steps house config queues groups port (d ∷ ds) a b h does =
    ports_steps house config queues groups port ds does.0 b (ports_step house config queues groups port d a does.0 h does.1) does.2

-- it ended so still, behind these losses and answers to orders
ends_behind : {P : Type 0} (last b : DispatchState P) (ports : List Port) (left : Option (List InboxItem)) (faults : ℕ) (result : Result (Unit {0}) Failed)
    → EndsDispatcher last b result → left ≡ b.left → b.faults ≤ faults
    → EndsDispatcher (record last { ports = ports }) (record b { ports = ports; left = left; faults = faults }) result
ends_behind last b ports left faults (Ok done) ends same later = record {
  stop = subst (λ (l : Option (List InboxItem)). IsNextItem last.left l None) (sym same) ends.stop;
  same = (refl, ends.same.1, ends.same.2);
}
ends_behind last b ports left faults (Err fault) ends same later = record {
  fault = risen_before last.faults b.faults faults ends.fault later;
  same = (refl, ends.same.1, ends.same.2, same ∙ ends.same.3);
}

ended : {P : Type 0} (last b : DispatchState P) (result : Result (Unit {0}) Failed) → EndsDispatcher last b result → (b.ports ≡ last.ports) × (b.noise ≡ last.noise)
ended last b (Ok done) ends = (ends.same.0, ends.same.1)
ended last b (Err fault) ends = (ends.same.0, ends.same.1)

-- the ports are the same queues' still
pub ports_kept : {P : Type 0} (house : HouseCalls P) (config : Config) (queues : List TableId) (groups : List Group) (port : ℕ) (a b : DispatchState P) (result : Result (Unit {0}) Failed)
    → ArePorts config queues a.ports → RunsItems house config groups port a b result → ArePorts config queues b.ports
ports_kept house config queues groups port a b result h runs =
    let is = ended runs.last b result runs.ends in
    subst (λ (ps : List Port). ArePorts config queues ps) (sym is.0) (ports_steps house config queues groups port runs.dispatched a runs.last h runs.does)

pub ends_late : {P : Type 0} (house : HouseCalls P) (config : Config) (groups : List Group) (port : ℕ) (a b : DispatchState P)
    (ports : List Port) (left : Option (List InboxItem)) (faults : ℕ) (result : Result (Unit {0}) Failed)
    → RunsItems house config groups port a b result → ((shards : List ℕ) × AreLate shards b.ports ports) → NoneWaits ports → left ≡ b.left → b.faults ≤ faults
    → RunsDispatcher house config groups port a (record b { ports = ports; left = left; faults = faults }) result
ends_late {P} house config groups port a b ports left faults result runs late none same later =
    let is = ended runs.last b result runs.ends in
    let end : DispatchState P = record runs.last { ports = ports } in
    let does : DoesSteps house config groups port (runs.dispatched ++ map Late late.0) a end =
    steps-append house config groups port runs.dispatched (map Late late.0) a runs.last end runs.does
    (late_steps house config groups port late.0 runs.last ports (subst (λ (ps : List Port). AreLate late.0 ps ports) is.0 late.1)) in
    record {
      dispatched = runs.dispatched ++ map Late late.0;
      last = end;
      does = does;
      ends = ends_behind runs.last b ports left faults result runs.ends same later;
      ports = after_steps house config groups port (runs.dispatched ++ map Late late.0) a end does;
      dropped = ap (λ (n : NoiseCounts). n.dropped) is.1 ∙ dropped_steps house config groups port (runs.dispatched ++ map Late late.0) a end does;
      none_waits = none;
    }

-- ---- one item

-- an item that isn't a stop was announced and handed on
pub item_turn : {P : Type 0} (house : HouseCalls P) (config : Config) (groups : List Group) (port : ℕ) (old new : DispatchState P) (incoming : Incoming) (room : List ℕ) (time : ℕ)
    → IsNextItem old.left new.left (item_of incoming room) → old.faults ≤ new.faults → incoming ≢ Incomings.Stop → Announces house groups port time old.announcing new.announcing
    → IfSome (item_of incoming room) (λ item. HasFate config item old.ports new.ports (in_second old.noise (time / 1000)) new.noise)
    → (item : InboxItem) × (fate : Fate) × DoesItem house config groups port item fate old new
item_turn house config groups port old new (Incomings.Packet peer at door n) room time next later on announced h =
    (Items.Packet (record { peer = peer; port = at; door = door; octets = take n room }), h.0, record { given = next; later = later; time = time; announced = announced; becomes = h.1; noise = h.2 })
item_turn house config groups port old new (Incomings.Lose order address) room time next later on announced h =
    (Items.Lose order address, h.0, record { given = next; later = later; time = time; announced = announced; becomes = h.1; noise = h.2 })
item_turn house config groups port old new (Incomings.Status order) room time next later on announced h =
    (Items.Status order, h.0, record { given = next; later = later; time = time; announced = announced; becomes = h.1; noise = h.2 })
item_turn house config groups port old new Incomings.Quiet room time next later on announced h =
    (Items.Quiet, h.0, record { given = next; later = later; time = time; announced = announced; becomes = h.1; noise = h.2 })
item_turn house config groups port old new Incomings.Stop room time next later on announced h = absurd (on refl)

-- the same, where the second was begun before, and orders were answered behind the take
pub item_turn_begun : {P : Type 0} (house : HouseCalls P) (config : Config) (groups : List Group) (port : ℕ) (old new : DispatchState P) (incoming : Incoming) (room : List ℕ) (time : ℕ) (begun : NoiseCounts)
    (left : Option (List InboxItem))
    → begun ≡ in_second old.noise (time / 1000) → new.left ≡ left
    → IsNextItem old.left left (item_of incoming room) → old.faults ≤ new.faults → incoming ≢ Incomings.Stop → Announces house groups port time old.announcing new.announcing
    → IfSome (item_of incoming room) (λ item. HasFate config item old.ports new.ports begun new.noise) → (item : InboxItem) × (fate : Fate) × DoesItem house config groups port item fate old new
item_turn_begun house config groups port old new incoming room time begun left is same next later on announced h =
    item_turn house config groups port old new incoming room time (subst (λ (l : Option (List InboxItem)). IsNextItem old.left l (item_of incoming room)) (sym same) next) later on announced
    (subst (λ (n : NoiseCounts). IfSome (item_of incoming room) (λ (item : InboxItem). HasFate config item old.ports new.ports n new.noise)) is h)
