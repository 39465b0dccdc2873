-- Seats before the threads begin, and what is left of them at the end.
use Rattle.std.proofs.Common.{◌≡◌, ℕ, ◌+◌, ◌-◌, ◌<◌, List, [], ◌∷◌, ◌++◌, length, map, Option, Some, Result, Ok, Err, IfOk, false, refl, sym, ap, ◌∙◌, subst, append_assoc, arith}
use Rattle.std.proofs.lemmas.List.{append-nil}
use Rattle.atomic_table.specs.Seated.{TableId}
use Rattle.pcp_base.specs.declared.configs.Config.{Config}
use Rattle.pcp_io.specs.Times.{Times}
use Rattle.job_workers.specs.declared.tallies.TallyRow.{TallyRow}
use Rattle.job_workers.specs.declared.workers.Desk.{Desk}
use Rattle.job_workers.specs.HouseCalls.{HouseCalls}
use Rattle.job_workers.specs.Stations.{OutState}
use Rattle.job_workers.specs.Tallies.{joined_rows, no_jobs}
use Rattle.job_dispatch.specs.declared.ports.Port.{Port}
use Rattle.request_workers.specs.declared.seats.Seat.{Seat}
use Rattle.request_workers.specs.Seats.{AddsSeats, AreLeft, ArePasses, AreSeats, Ending, FinishesAll, IsEnding, IsSeat, IsSeated, Seats}

pub empty_of : {X : Type 0} (xs : List X) → length xs ≡ 0 → xs ≡ []
empty_of [] e = refl
empty_of (x ∷ xs) e = absurd (omega (arith, e))

-- ---- seats

one_more_seat : (config : Config) (shard count : ℕ) (old mid new : List Seat) (seat : Seat) → IsSeat config shard seat → mid ≡ old ++ seat ∷ [] → 0 < count
    → AddsSeats config (shard + 1) (count - 1) mid new → AddsSeats config shard count old new
one_more_seat config shard count old mid new seat is added some h = record {
  added = seat ∷ h.added;
  new_is = h.new_is ∙ ap (λ (l : List Seat). l ++ h.added) added ∙ append_assoc old (seat ∷ []) h.added;
  count_is = omega (arith, h.count_is, some);
  seats = (is, h.seats);
}

-- where the rest is added too
pub seats_added : {T E : Type 0} (r : Result T E) (config : Config) (shard count : ℕ) (old mid new : List Seat) (seat : Seat) → IsSeat config shard seat → mid ≡ old ++ seat ∷ [] → 0 < count
    → IfOk r (λ x. AddsSeats config (shard + 1) (count - 1) mid new) → IfOk r (λ x. AddsSeats config shard count old new)
seats_added (Ok u) config shard count old mid new seat is added some h = one_more_seat config shard count old mid new seat is added some h
seats_added (Err e) config shard count old mid new seat is added some h = tt

-- ---- passes at desks

pub seats_none : {P : Type 0} (house : HouseCalls P) (shard : ℕ) (ps : List P) (qs : List TableId) (ds : List (Desk P)) (os : List Port) → ps ≡ [] → Seats house shard ps qs qs ds ds os os
seats_none house shard ps qs ds os none = record {
  queues = [];
  desks = [];
  ports = [];
  queues_are = sym (append-nil qs);
  desks_are = sym (append-nil ds);
  ports_are = sym (append-nil os);
  passes_are = sym none;
  seated = tt;
}

is_seated : {P : Type 0} (house : HouseCalls P) (shard : ℕ) (p : P) (seat : Seat) (desk : Desk P) (port : Port)
    → house.is_pass p → house.place_of p ≡ shard → IsSeat house.config shard seat
    → desk.pass ≡ p → desk.taker ≡ seat.taker → desk.row ≡ no_jobs → desk.batch ≡ seat.batch → port.putter ≡ seat.putter → port.row ≡ no_jobs → port.waits ≡ false
    → IsSeated house shard seat.queue desk port
is_seated house shard p seat desk port is at s pass taker row batch putter counted waits =
    let place : house.place_of desk.pass ≡ shard = ap house.place_of pass ∙ at in
    record {
      desk_is = record {
        pass_is = subst (λ x. house.is_pass x) (sym pass) is;
        queue_is = ap (λ t. t.queue) taker ∙ s.ends.taker_of;
        route_is = ap (λ t. t.route) taker ∙ (s.ends.taker_route ∙ ap (λ n. Some (record { config = house.config; shard = n })) (sym place));
      };
      place = place;
      batch = batch ∙ s.batch;
      row = row;
      taken = ap (λ t. t.taken) taker ∙ s.ends.taken;
      port_is = record {
        queue_is = ap (λ t. t.queue) putter ∙ s.ends.putter_of;
        route_is = ap (λ t. t.route) putter ∙ s.ends.putter_route;
      };
      put = ap (λ t. t.put) putter ∙ s.ends.put;
      counted = counted;
      waits = waits;
    }

-- a pass and a seat, and the others
pub seats_more : {P : Type 0} (house : HouseCalls P) (shard : ℕ) (all ps : List P) (p : P) (all_seats seats : List Seat) (seat : Seat) (desk : Desk P) (port : Port)
    (qs qs1 qs2 : List TableId) (ds ds1 ds2 : List (Desk P)) (os os1 os2 : List Port)
    → ArePasses house shard all → all ≡ p ∷ ps → AreSeats house.config shard all_seats → all_seats ≡ seat ∷ seats
    → desk.pass ≡ p → desk.taker ≡ seat.taker → desk.row ≡ no_jobs → desk.batch ≡ seat.batch → port.putter ≡ seat.putter → port.row ≡ no_jobs → port.waits ≡ false
    → qs1 ≡ qs ++ seat.queue ∷ [] → ds1 ≡ ds ++ desk ∷ [] → os1 ≡ os ++ port ∷ []
    → Seats house (shard + 1) ps qs1 qs2 ds1 ds2 os1 os2 → Seats house shard all qs qs2 ds ds2 os os2
seats_more {P} house shard all ps p all_seats seats seat desk port qs qs1 qs2 ds ds1 ds2 os os1 os2 h e s es pass taker row batch putter counted waits eq ed eo rest =
    let first : ArePasses house shard (p ∷ ps) = subst (λ (l : List P). ArePasses house shard l) e h in
    let seat_is : AreSeats house.config shard (seat ∷ seats) = subst (λ (l : List Seat). AreSeats house.config shard l) es s in
    record {
      queues = seat.queue ∷ rest.queues;
      desks = desk ∷ rest.desks;
      ports = port ∷ rest.ports;
      queues_are = rest.queues_are ∙ (ap (λ (l : List TableId). l ++ rest.queues) eq ∙ append_assoc qs (seat.queue ∷ []) rest.queues);
      desks_are = rest.desks_are ∙ (ap (λ (l : List (Desk P)). l ++ rest.desks) ed ∙ append_assoc ds (desk ∷ []) rest.desks);
      ports_are = rest.ports_are ∙ (ap (λ (l : List Port). l ++ rest.ports) eo ∙ append_assoc os (port ∷ []) rest.ports);
      passes_are = ap (λ (l : List P). desk.pass ∷ l) rest.passes_are ∙ (ap (λ x. x ∷ ps) pass ∙ sym e);
      seated = (is_seated house shard p seat desk port first.0.0 first.0.1 seat_is.0 pass taker row batch putter counted waits, rest.seated);
    }

-- ---- what is left

pub finishes_none : {P O T : Type 0} (f : O → OutState) (g : T → Option Times) (house : HouseCalls P) (qs : List TableId) (ds : List (Desk P)) (ps : List Port)
    (outs : List O) (clocks : List T) (passes : List P) (rows : List TallyRow)
    → length qs ≡ 0 → AreLeft house qs ds ps → length outs ≡ length qs → length clocks ≡ length qs
    → FinishesAll house ds ps (map f outs) (map f outs) (map g clocks) (map g clocks) passes passes rows rows
finishes_none f g house [] [] [] [] [] passes rows e h a b = record {
  endings = [];
  each = tt;
  desks_are = refl;
  ports_are = refl;
  outs_were = refl;
  outs_are = refl;
  times_were = refl;
  times_are = refl;
  passes_are = sym (append-nil passes);
  rows_are = sym (append-nil rows);
}
finishes_none f g house [] [] [] [] (t ∷ ts) passes rows e h a b = absurd (omega (arith, b))
finishes_none f g house [] [] [] (o ∷ os) clocks passes rows e h a b = absurd (omega (arith, a))
finishes_none f g house [] [] (p ∷ ps) outs clocks passes rows e h a b = absurd h
finishes_none f g house [] (d ∷ ds) ps outs clocks passes rows e h a b = absurd h
finishes_none f g house (q ∷ qs) ds ps outs clocks passes rows e h a b = absurd (omega (arith, e))

finishes_first : {P : Type 0} (house : HouseCalls P) (d done : Desk P) (p : Port) (ds : List (Desk P)) (ps : List Port) (o o' : OutState) (os os' : List OutState) (t t' : Option Times) (ts ts' : List (Option Times))
    (passes mid passes' : List P) (rows row_mid rows' : List TallyRow) (row : TallyRow)
    → IsEnding house (record { left = record { desk = d; out = o; times = t }; port = p; done = record { desk = done; out = o'; times = t' } })
    → mid ≡ passes ++ done.pass ∷ [] → row_mid ≡ rows ++ row ∷ [] → row ≡ joined_rows done.row p.row
    → FinishesAll house ds ps os os' ts ts' mid passes' row_mid rows'
    → FinishesAll house (d ∷ ds) (p ∷ ps) (o ∷ os) (o' ∷ os') (t ∷ ts) (t' ∷ ts') passes passes' rows rows'
finishes_first {P} house d done p ds ps o o' os os' t t' ts ts' passes mid passes' rows row_mid rows' row h em er joined rest =
    let e : Ending P = record { left = record { desk = d; out = o; times = t }; port = p; done = record { desk = done; out = o'; times = t' } } in
    let rest_passes : List P = map (λ (x : Ending P). x.done.desk.pass) rest.endings in
    let rest_rows : List TallyRow = map (λ (x : Ending P). joined_rows x.done.desk.row x.port.row) rest.endings in
    record {
      endings = e ∷ rest.endings;
      each = (h, rest.each);
      desks_are = ap (λ (l : List (Desk P)). d ∷ l) rest.desks_are;
      ports_are = ap (λ (l : List Port). p ∷ l) rest.ports_are;
      outs_were = ap (λ (l : List OutState). o ∷ l) rest.outs_were;
      outs_are = ap (λ (l : List OutState). o' ∷ l) rest.outs_are;
      times_were = ap (λ (l : List (Option Times)). t ∷ l) rest.times_were;
      times_are = ap (λ (l : List (Option Times)). t' ∷ l) rest.times_are;
      passes_are = rest.passes_are ∙ (ap (λ (l : List P). l ++ rest_passes) em ∙ append_assoc passes (done.pass ∷ []) rest_passes);
      rows_are = rest.rows_are ∙ (ap (λ (l : List TallyRow). l ++ rest_rows) (er ∙ ap (λ (x : TallyRow). rows ++ x ∷ []) joined) ∙ append_assoc rows (joined_rows done.row p.row ∷ []) rest_rows);
    }

-- the first external address, and the others
pub finishes_more : {P O T : Type 0} (f : O → OutState) (g : T → Option Times) (house : HouseCalls P) (all_desks ds : List (Desk P)) (d done : Desk P) (all_ports ps : List Port) (p : Port)
    (outs os : List O) (o : O) (o' : OutState) (os' : List OutState) (clocks ts : List T) (t : T) (t' : Option Times) (ts' : List (Option Times))
    (passes mid passes' : List P) (rows row_mid rows' : List TallyRow) (row : TallyRow)
    → all_desks ≡ d ∷ ds → all_ports ≡ p ∷ ps → outs ≡ o ∷ os → clocks ≡ t ∷ ts
    → IsEnding house (record { left = record { desk = d; out = f o; times = g t }; port = p; done = record { desk = done; out = o'; times = t' } })
    → mid ≡ passes ++ done.pass ∷ [] → row_mid ≡ rows ++ row ∷ [] → row ≡ joined_rows done.row p.row
    → FinishesAll house ds ps (map f os) os' (map g ts) ts' mid passes' row_mid rows'
    → FinishesAll house all_desks all_ports (map f outs) (o' ∷ os') (map g clocks) (t' ∷ ts') passes passes' rows rows'
finishes_more f g house all_desks ds d done all_ports ps p outs os o o' os' clocks ts t t' ts' passes mid passes' rows row_mid rows' row ed ep eo et h em er joined rest =
    rw (ed, ep, eo, et)
    (finishes_first house d done p ds ps (f o) o' (map f os) os' (g t) t' (map g ts) ts' passes mid passes' rows row_mid rows' row h em er joined rest)
