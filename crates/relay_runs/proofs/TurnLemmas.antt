-- Turns of a relay's loop, one after the other.
use Rattle.std.proofs.Common.{◌≡◌, ◌≢◌, ℕ, ◌≤◌, true, false, List, [], ◌∷◌, ◌++◌, map, Option, None, Some, refl, sym, ap, ◌∙◌, subst, inl, inr, append_assoc, arith}
use Rattle.std.specs.Prelude.{IfSome, IsOk, OnOk, Result, Ok, Err, take}
use Rattle.std.proofs.lemmas.List.{append-nil, map-append}
use Rattle.pcp_base.specs.declared.addresses.Address.{Address}
use Rattle.pcp_base.specs.declared.datagrams.Datagram.{Datagram}
use Rattle.pcp_base.specs.Tables.{same_address}
use Rattle.pcp_base.specs.declared.errors.Memory.{Memory}
use Rattle.pcp_io.specs.declared.inboxes.InboxItem.{InboxItem}
use Rattle.pcp_io.specs.declared.inboxes.InboxItem.TheVariants.{Packet, Lose, Status, Quiet}
use Rattle.pcp_io.specs.declared.inboxes.Incoming.{Incoming}
use Rattle.pcp_io.specs.declared.inboxes.Incoming.TheVariants as Incomings
use Rattle.pcp_io.specs.Faults.{HasRisen}
use Rattle.pcp_io.specs.Takes.{IsNextItem, item_of}
use Rattle.pcp_io.specs.Times.{Times, IsTimeNow}
use Rattle.proxy_core.specs.declared.outs.ProxyOut.{ProxyOut}
use Rattle.proxy_core.specs.Runs.{Event}
use Rattle.proxy_core.specs.Runs.Event.{Client, Server, Tick}
use Rattle.tool_commands.specs.declared.statuses.ToolStatus.{ToolStatus}
use Rattle.tool_commands.specs.declared.statuses.ToolStatus.TheVariants as Statuses
use Rattle.relay_runs.specs.Ends.{EndsRelay, Links, Outs, Relays, TellsTimes, left_with}
use Rattle.relay_runs.specs.Handing.{Hands, Told}
use Rattle.relay_runs.specs.Machines.{Machine, next, run}
use Rattle.relay_runs.specs.Sending.{announced, down_by, down_for, down_for_all, up_by, up_for, up_for_all}
use Rattle.relay_runs.specs.Steps.{Does, IsTurn, StandsStill, Starves, Takes}
use Rattle.relay_runs.specs.Turns.{IsPacket, Turn, event_of, events_of, packet_event, turn_events}
use Rattle.relay_runs.proofs.HandLemmas.{Hands-append, Hands-none}

-- ---- packets

event-server : (server : Address) (d : Datagram) (now : ℕ) → same_address d.peer server ≡ true → packet_event server d now ≡ Server d now
event-server server d now e = rw e refl

event-client : (server : Address) (d : Datagram) (now : ℕ) → same_address d.peer server ≡ false → packet_event server d now ≡ Client d now
event-client server d now e = rw e refl

-- ---- items and times

left-next : (old new : Option (List InboxItem)) (item : InboxItem) → IsNextItem old new (Some item) → old ≡ left_with (item ∷ []) new
left-next None new item h = rw h refl
left-next (Some []) new item h = absurd (cc (h.0))
left-next (Some (i ∷ rest)) new item h = rw h.1 (cc (h.0))

left-append : (xs ys : List InboxItem) (now : Option (List InboxItem)) → left_with xs (left_with ys now) ≡ left_with (xs ++ ys) now
left-append xs ys None = refl
left-append xs ys (Some rest) = ap Some (sym (append_assoc xs ys rest))

times-push : (times : List ℕ) (time : ℕ) (a b c : Option Times) → TellsTimes times a b → IsTimeNow b c time → TellsTimes (times ++ time ∷ []) a c
times-push [] time a b c is tells = (c, subst (λ (t : Option Times). IsTimeNow t c time) is tells, refl)
times-push (x ∷ xs) time a b c h tells = (h.0, h.1, times-push xs time h.0 b c h.2 tells)

events-push : (server : Address) (turns : List Turn) (turn : Turn) → events_of server (turns ++ turn ∷ []) ≡ events_of server turns ++ turn_events server turn
events-push server [] turn = append-nil (turn_events server turn)
events-push server (t ∷ ts) turn =
    ap (λ (es : List Event). turn_events server t ++ es) (events-push server ts turn)
    ∙ sym (append_assoc (turn_events server t) (events_of server ts) (turn_events server turn))

items-push : (turns : List Turn) (turn : Turn) (a b c : Links) → a.left ≡ left_with (map (λ (t : Turn). t.item) turns) b.left → Takes turn b c
    → a.left ≡ left_with (map (λ (t : Turn). t.item) (turns ++ turn ∷ [])) c.left
items-push turns turn a b c h takes =
    h ∙ ap (left_with (map (λ (t : Turn). t.item) turns)) (left-next b.left c.left turn.item takes.given)
    ∙ left-append (map (λ (t : Turn). t.item) turns) (turn.item ∷ []) c.left
    ∙ ap (λ (is : List InboxItem). left_with is c.left) (sym (map-append (λ (t : Turn). t.item) turns (turn ∷ [])))

times-more : (turns : List Turn) (turn : Turn) (a b c : Links) → TellsTimes (map (λ (t : Turn). t.time) turns) a.times b.times → Takes turn b c
    → TellsTimes (map (λ (t : Turn). t.time) (turns ++ turn ∷ [])) a.times c.times
times-more turns turn a b c h takes =
    subst (λ (ts : List ℕ). TellsTimes ts a.times c.times) (sym (map-append (λ (t : Turn). t.time) turns (turn ∷ [])))
    (times-push (map (λ (t : Turn). t.time) turns) turn.time a.times b.times c.times h takes.time)

stop-left : (old new : Option (List InboxItem)) → IsNextItem old new None → (new ≡ old) × IfSome new (λ items. items ≡ [])
stop-left None new h = (h, rw h tt)
stop-left (Some []) new h = (h.1, rw h.1 refl)
stop-left (Some (i ∷ rest)) new h = absurd (cc (h.0))

risen-after : (before mid now : ℕ) → before ≤ mid → HasRisen mid now → HasRisen before now
risen-after before mid now later (inl a) = inl (omega (arith, later, a))
risen-after before mid now later (inr b) = inr b

module _ {S : Type 0} (m : Machine S) where
  -- ---- events one after the other

  run-append : (r : S) (xs ys : List Event) → run m r (xs ++ ys) ≡ run m (run m r xs) ys
  run-append r [] ys = refl
  run-append r (x ∷ xs) ys = run-append (next m r x) xs ys

  down-append : (r : S) (xs ys : List Event) → down_for_all m r (xs ++ ys) ≡ down_for_all m r xs ++ down_for_all m (run m r xs) ys
  down-append r [] ys = refl
  down-append r (x ∷ xs) ys =
      ap (λ (ds : List Datagram). down_for m r x ++ ds) (down-append (next m r x) xs ys)
      ∙ sym (append_assoc (down_for m r x) (down_for_all m (next m r x) xs) (down_for_all m (run m (next m r x) xs) ys))

  up-append : (server : Address) (r : S) (xs ys : List Event) → up_for_all m server r (xs ++ ys) ≡ up_for_all m server r xs ++ up_for_all m server (run m r xs) ys
  up-append server r [] ys = refl
  up-append server r (x ∷ xs) ys =
      ap (λ (ds : List Datagram). up_for m server r x ++ ds) (up-append server (next m r x) xs ys)
      ∙ sym (append_assoc (up_for m server r x) (up_for_all m server (next m r x) xs) (up_for_all m server (run m (next m r x) xs) ys))

  Does-none : (server : Address) (r : S) (a : Outs) → Does m server [] r r a a
  Does-none server r a = record { relay = refl; down = Hands-none a.down; up = Hands-none a.up }

  Does-append : (server : Address) (xs ys : List Event) (r s t : S) (a b c : Outs) → Does m server xs r s a b → Does m server ys s t b c → Does m server (xs ++ ys) r t a c
  Does-append server xs ys r s t a b c p q = record {
    relay = q.relay ∙ ap (λ (x : S). run m x ys) p.relay ∙ sym (run-append r xs ys);
    down = subst (λ (ds : List Datagram). Hands ds a.down c.down) (sym (down-append r xs ys))
        (Hands-append _ _ a.down b.down c.down p.down (subst (λ (x : S). Hands (down_for_all m x ys) b.down c.down) p.relay q.down));
    up = subst (λ (ds : List Datagram). Hands ds a.up c.up) (sym (up-append server r xs ys))
        (Hands-append _ _ a.up b.up c.up p.up (subst (λ (x : S). Hands (up_for_all m server x ys) b.up c.up) p.relay q.up));
  }

  pub Does-tick : (server : Address) (r s : S) (now : ℕ) (told : Option (List ℕ)) (a b : Outs) → m.on_tick r now ≡ record { state = s; out = told }
      → Hands (announced told) a.down b.down → b.up ≡ a.up → Does m server (Tick now ∷ []) r s a b
  Does-tick server r s now told a b e down same = record {
    relay = sym (ap (λ x. x.state) e);
    down = subst (λ (ds : List Datagram). Hands ds a.down b.down)
        (sym (append-nil (announced (m.on_tick r now).out) ∙ ap (λ x. announced x.out) e)) down;
    up = subst (λ (told : Told). Hands [] a.up told) (sym same) (Hands-none a.up);
  }

  -- ---- packets

  pub Does-server : (server : Address) (d : Datagram) (now : ℕ) (r s : S) (out : ProxyOut) (a b : Outs) → same_address d.peer server ≡ true
      → m.on_server r d now ≡ record { state = s; out = out } → Hands (down_by out) a.down b.down → Hands (up_by server out) a.up b.up
      → Does m server (packet_event server d now ∷ []) r s a b
  Does-server server d now r s out a b same e down up =
      subst (λ (x : Event). Does m server (x ∷ []) r s a b) (sym (event-server server d now same)) (record {
        relay = sym (ap (λ x. x.state) e);
        down = subst (λ (ds : List Datagram). Hands ds a.down b.down)
            (sym (append-nil (down_by (m.on_server r d now).out) ∙ ap (λ x. down_by x.out) e)) down;
        up = subst (λ (ds : List Datagram). Hands ds a.up b.up)
            (sym (append-nil (up_by server (m.on_server r d now).out) ∙ ap (λ x. up_by server x.out) e)) up;
      })

  pub Does-client : (server : Address) (d : Datagram) (now : ℕ) (r s : S) (out : ProxyOut) (a b : Outs) → same_address d.peer server ≡ false
      → m.on_client r d now ≡ record { state = s; out = out } → Hands (down_by out) a.down b.down → Hands (up_by server out) a.up b.up
      → Does m server (packet_event server d now ∷ []) r s a b
  Does-client server d now r s out a b other e down up =
      subst (λ (x : Event). Does m server (x ∷ []) r s a b) (sym (event-client server d now other)) (record {
        relay = sym (ap (λ x. x.state) e);
        down = subst (λ (ds : List Datagram). Hands ds a.down b.down)
            (sym (append-nil (down_by (m.on_client r d now).out) ∙ ap (λ x. down_by x.out) e)) down;
        up = subst (λ (ds : List Datagram). Hands ds a.up b.up)
            (sym (append-nil (up_by server (m.on_client r d now).out) ∙ ap (λ x. up_by server x.out) e)) up;
      })

  -- ---- the run so far

  pub record HasRun (server : Address) (start now : S) (old new : Links) : Type 0 where
    pub turns : List Turn
    pub does : Does m server (events_of server turns) start now old.outs new.outs
    pub items : old.left ≡ left_with (map (λ (t : Turn). t.item) turns) new.left
    pub times : TellsTimes (map (λ (t : Turn). t.time) turns) old.times new.times
    pub later : old.faults ≤ new.faults

  pub HasRun-none : (server : Address) (start : S) (links : Links) → HasRun server start start links links
  HasRun-none server start links = record {
    turns = [];
    does = Does-none server start links.outs;
    items = none links.left;
    times = refl;
    later = omega arith;
  }
    where
      none : (left : Option (List InboxItem)) → left ≡ left_with [] left
      none None = refl
      none (Some items) = refl

  turn_on : (server : Address) (start before after : S) (a b c : Links) → HasRun server start before a b → IsTurn m server before after None b c → HasRun server start after a c
  turn_on server start before after a b c h turn = record {
    turns = h.turns ++ turn.0 ∷ [];
    does = subst (λ (es : List Event). Does m server es start after a.outs c.outs) (sym (events-push server h.turns turn.0))
        (Does-append server _ _ start before after a.outs b.outs c.outs h.does turn.2);
    items = items-push h.turns turn.0 a b c h.items turn.1;
    times = times-more h.turns turn.0 a b c h.times turn.1;
    later = omega (arith, h.later, turn.1.later);
  }

  -- what was done, where nothing more is sent
  relays-still : (server : Address) (start now : S) (a b c : Links) (h : HasRun server start now a b) → StandsStill b c → c.left ≡ b.left
      → Relays m server start h.turns (events_of server h.turns) a c
  relays-still server start now a b c h still left = record {
    items = h.items ∙ ap (left_with (map (λ (t : Turn). t.item) h.turns)) (sym left);
    times = subst (λ (ts : Option Times). TellsTimes (map (λ (t : Turn). t.time) h.turns) a.times ts) (sym still.times) h.times;
    down = subst (λ (o : Outs). Hands (down_for_all m start (events_of server h.turns)) a.outs.down o.down) (sym still.outs) h.does.down;
    up = subst (λ (o : Outs). Hands (up_for_all m server start (events_of server h.turns)) a.outs.up o.up) (sym still.outs) h.does.up;
  }

  turn_ends : (status : ToolStatus) (server : Address) (start before after : S) (a b c : Links) → HasRun server start before a b
      → IsTurn m server before after (Some status) b c → EndsRelay m server start status a c
  turn_ends Statuses.Done server start before after a b c h turn =
      let left = stop-left b.left c.left turn.0 in
      record { turns = h.turns; relays = relays-still server start before a b c h turn.1 left.0; stop = left.1 }
  turn_ends Statuses.LinkFault server start before after a b c h turn =
      record { turns = h.turns; relays = relays-still server start before a b c h turn.2 turn.0; fault = risen-after _ _ _ h.later turn.1 }
  turn_ends Statuses.Memory server start before after a b c h s = record {
    turns = h.turns;
    last = s.turn;
    relays = record {
      items = items-push h.turns s.turn a b c h.items s.takes;
      times = times-more h.turns s.turn a b c h.times s.takes;
      down = both.down;
      up = both.up;
    };
    packet = s.packet;
  }
    where
      both : Does m server (events_of server h.turns ++ Tick s.turn.time ∷ []) start s.ticked a.outs c.outs
      both = Does-append server _ _ start before s.ticked a.outs b.outs c.outs h.does s.does
  turn_ends Statuses.WordsRefused server start before after a b c h turn = absurd turn
  turn_ends Statuses.WriteFault server start before after a b c h turn = absurd turn
  turn_ends Statuses.EntropyFault server start before after a b c h turn = absurd turn
  turn_ends Statuses.Silence server start before after a b c h turn = absurd turn
  turn_ends (Statuses.Refused code) server start before after a b c h turn = absurd turn
  turn_ends Statuses.OrderRefused server start before after a b c h turn = absurd turn
  turn_ends Statuses.Turns server start before after a b c h turn = absurd turn
  turn_ends Statuses.Stopped server start before after a b c h turn = absurd turn

  -- ---- one turn

  did_item : (server : Address) (r s t : S) (now : ℕ) (a b : Links) (mid : Outs) (item : InboxItem) → IsNextItem a.left b.left (Some item) → IsTimeNow a.times b.times now
      → a.faults ≤ b.faults → Does m server (Tick now ∷ []) r s a.outs mid → Does m server (event_of server item now) s t mid b.outs → IsTurn m server r t None a b
  did_item server r s t now a b mid item given time later tick does = (
    record { item = item; time = now },
    record { given = given; time = time; later = later },
    Does-append server (Tick now ∷ []) (event_of server item now) r s t a.outs mid b.outs tick does,
  )

  pub starves : (server : Address) (r s : S) (incoming : Incoming) (room : List ℕ) (now : ℕ) (a b : Links) (mid : Outs) → incoming ≢ Incomings.Stop
      → IsNextItem a.left b.left (item_of incoming room) → IsTimeNow a.times b.times now → a.faults ≤ b.faults → IfSome (item_of incoming room) IsPacket
      → Does m server (Tick now ∷ []) r s a.outs mid → b.outs ≡ mid → Starves m server r a b
  starves server r s (Incomings.Packet peer port door k) room now a b mid on given time later packet does same = record {
    turn = record { item = Packet (record { peer = peer; port = port; door = door; octets = take k room }); time = now };
    takes = record { given = given; time = time; later = later };
    packet = tt;
    ticked = s;
    does = subst (λ (outs : Outs). Does m server (Tick now ∷ []) r s a.outs outs) (sym same) does;
  }
  starves server r s (Incomings.Lose order address) room now a b mid on given time later packet does same = absurd packet
  starves server r s (Incomings.Status order) room now a b mid on given time later packet does same = absurd packet
  starves server r s Incomings.Quiet room now a b mid on given time later packet does same = absurd packet
  starves server r s Incomings.Stop room now a b mid on given time later packet does same = absurd (on refl)

  pub goes_on : (server : Address) (r s t : S) (incoming : Incoming) (room : List ℕ) (now : ℕ) (result : Result (Unit {0}) Memory) (a b : Links) (mid : Outs) → incoming ≢ Incomings.Stop
      → IsNextItem a.left b.left (item_of incoming room) → IsTimeNow a.times b.times now → a.faults ≤ b.faults → Does m server (Tick now ∷ []) r s a.outs mid → IsOk result
      → IfSome (item_of incoming room) (λ item. OnOk result (Does m server (event_of server item now) s t mid b.outs)) → IsTurn m server r t None a b
  goes_on server r s t incoming room now (Err e) a b mid on given time later tick ok does = absurd cc
  goes_on server r s t (Incomings.Packet peer port door k) room now (Ok u) a b mid on given time later tick ok does =
      did_item server r s t now a b mid (Packet (record { peer = peer; port = port; door = door; octets = take k room })) given time later tick does
  goes_on server r s t (Incomings.Lose order address) room now (Ok u) a b mid on given time later tick ok does = did_item server r s t now a b mid (Lose order address) given time later tick does
  goes_on server r s t (Incomings.Status order) room now (Ok u) a b mid on given time later tick ok does = did_item server r s t now a b mid (Status order) given time later tick does
  goes_on server r s t Incomings.Quiet room now (Ok u) a b mid on given time later tick ok does = did_item server r s t now a b mid Quiet given time later tick does
  goes_on server r s t Incomings.Stop room now (Ok u) a b mid on given time later tick ok does = absurd (on refl)

  -- ---- the loop

  pub turn_goes : (ended : Option ToolStatus) (server : Address) (start before after : S) (a b c : Links) → ended ≡ None → HasRun server start before a b
      → IsTurn m server before after ended b c → HasRun server start after a c
  turn_goes ended server start before after a b c is h turn = turn_on server start before after a b c h (rw is at turn)

  pub turn_ended : (ended : Option ToolStatus) (status : ToolStatus) (server : Address) (start before after : S) (a b c : Links) → ended ≡ Some status → HasRun server start before a b
      → IsTurn m server before after ended b c → EndsRelay m server start status a c
  turn_ended ended status server start before after a b c is h turn = turn_ends status server start before after a b c h (rw is at turn)
