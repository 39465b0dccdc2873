-- A client that takes two replies with a loss between their sendings finds the second epoch invalid.
use Rattle.std.specs.Prelude.{map}
use Rattle.std.specs.List.{AllByRecursion}
use Rattle.std.proofs.Common.{◌≡◌, ◌∙◌, ℕ, ◌+◌, ◌*◌, ◌/◌, ◌≤◌, false, List, [], ◌∷◌, Option, Some, None, refl, ap, subst, arith}
use Rattle.pcp_base.proofs.Members.{All-IsIn, IsIn-from_Contains}
use Rattle.pcp_base.specs.declared.configs.External.{External}
use Rattle.pcp_base.specs.States.{State}
use Rattle.pcp_options.specs.declared.responses.Response.{Response}
use Rattle.pcp_options.specs.ReadResponses.{response_of}
use Rattle.lease_core.specs.Laws.{DecisionsChangeLeases}
use Rattle.lease_histories.specs.PlainHouses.{PlainShard, shards_begun}
use Rattle.client_core.specs.declared.epochs.HeardEpoch.{HeardEpoch}
use Rattle.client_core.specs.declared.meanings.EpochFound.TheVariants as Epochs
use Rattle.client_core.specs.declared.meanings.Meaning.{Meaning}
use Rattle.client_core.specs.declared.meanings.Meaning.TheVariants.{Says}
use Rattle.client_core.specs.declared.meanings.Notice.{Notice}
use Rattle.client_core.specs.Clients.{ClientView, heard_with, counted, epoch_found, meaning_of, heard_epoch_at}
use Rattle.client_core.specs.EpochTests.{LossesAreHeard, heard_epoch, is_valid, is_valid_after}
use Rattle.proxy_core.specs.declared.epochs.Heard.{Heard}
use Rattle.loss_world.specs.Disclosure.{ClientsHaveOrigins, HasBoundOrigin, LossesAreFound, RelaysHaveOrigins, RepliesHaveOrigins}
use Rattle.loss_world.specs.Packets.{Loss, Origin, datagram_of, seconds}
use Rattle.loss_world.specs.Steps.{happens, run}
use Rattle.loss_world.specs.Worlds.{Beginning, ClientTerms, Event, IsBeginning, RelayTerms, World, begun, client_begun, relay_begun}
use Rattle.loss_world.proofs.Invariants.{HasOrigin, HeardBy, IsApart, HostHeard, IsBound, IsClientHost, IsOrigin, IsPacket, IsRelay, TellsBy}
use Rattle.loss_world.proofs.Saying.{said}
use Rattle.loss_world.proofs.WorldSteps.{IsWorld, next-world}

-- ---- the beginning, and every run

shards-past : (m : ℕ) (xs : List External) (ss : List State) → AllByRecursion (λ s. s.last ≤ m) ss → AllByRecursion (λ (s : PlainShard). s.last ≤ m) (shards_begun xs ss)
shards-past m [] ss h = tt
shards-past m (x ∷ xs) [] h = tt
shards-past m (x ∷ xs) (s ∷ ss) h = (h.0, shards-past m xs ss h.1)

relays-begin : (clock : ℕ) (ts : List RelayTerms) → AllByRecursion (IsRelay clock []) (map relay_begun ts)
relays-begin clock [] = tt
relays-begin clock (t ∷ ts) = (record { last = omega arith; origin = tt; heard = tt }, relays-begin clock ts)

clients-begin : (clock : ℕ) (ts : List ClientTerms) → AllByRecursion (IsClientHost clock []) (map client_begun ts)
clients-begin clock [] = tt
clients-begin clock (t ∷ ts) = (record { last = omega arith; origin = tt; heard = tt }, clients-begin clock ts)

pub begin-world : (b : Beginning) → IsBeginning b → IsWorld (begun b)
begin-world b h = record {
  house = shards-past (seconds b.clock) b.config.externals b.openings h.past;
  losses = tt;
  relays = relays-begin b.clock b.relays;
  clients = clients-begin b.clock b.clients;
  bag = tt;
}

runs : DecisionsChangeLeases → (events : List Event) (w : World) → IsWorld w → IsWorld (run w events)
runs law [] w h = h
runs law (e ∷ es) w h = runs law es (happens w e) (next-world law w e h)

-- ---- the second epoch

found : (c : ClientView) (now epoch : ℕ) (word : Notice) (m : Meaning) (first : HeardEpoch) → m ≡ Says epoch word → c.heard ≡ Some first → is_valid_after first (heard_epoch_at epoch now) ≡ false →
    (heard_with c now m).epoch ≡ Epochs.Invalid
found c now epoch word m first says heard bad =
    ap (λ (x : Meaning). (heard_with c now x).epoch) says
    ∙ ap (λ (h : Option HeardEpoch). epoch_found (is_valid h (heard_epoch_at epoch now))) heard
    ∙ ap epoch_found bad

told-by : (o : Option Origin) (x : Origin) (octets : List ℕ) (sent : ℕ) (r : Response) → o ≡ Some x → TellsBy o octets sent → response_of octets ≡ Some r → IsBound x r.epoch sent
told-by None x octets sent r e h read = absurd cc
told-by (Some o) x octets sent r e h read = let same : o ≡ x = cc in subst (λ y. IsBound y r.epoch sent) same (h r read)

origin-by : (o : Option Origin) (x : Origin) (clock : ℕ) (losses : List Loss) → o ≡ Some x → HasOrigin clock losses o → IsOrigin clock losses x
origin-by None x clock losses e h = absurd cc
origin-by (Some o) x clock losses e h = let same : o ≡ x = cc in subst (IsOrigin clock losses) same h

pub every-world : DecisionsChangeLeases → (b : Beginning) (events : List Event) → IsBeginning b → IsWorld (run (begun b) events)
every-world law b events is = runs law events (begun b) (begin-world b is)

pub losses-found : DecisionsChangeLeases → LossesAreHeard → LossesAreFound
losses-found law heard b events host p is h =
    let w = run (begun b) events in
    let world = runs law events (begun b) (begin-world b is) in
    let client = All-IsIn (IsClientHost w.clock w.losses) w.clients host world.clients (IsIn-from_Contains w.clients host h.client) in
    let packet = All-IsIn (IsPacket w.clock w.losses) w.bag p world.bag (IsIn-from_Contains w.bag p h.packet) in
    let spoken = said host.client (datagram_of p) h.epoch h.word h.says in
    let bound = told-by p.origin h.origin p.out.octets p.sent spoken.response h.from packet.told spoken.read in
    let first = origin-by host.origin h.first_origin w.clock w.losses h.first_from client.origin in
    let next = origin-by p.origin h.origin w.clock w.losses h.from packet.origin in
    let one = All-IsIn (IsApart h.first_origin) w.losses h.loss first.apart (IsIn-from_Contains w.losses h.loss h.among) in
    let two = All-IsIn (IsApart h.origin) w.losses h.loss next.apart (IsIn-from_Contains w.losses h.loss h.among) in
    let lost = one.behind h.behind_first in
    let since = two.before h.before_second in
    let last = client.last in
    let now = h.now in
    let at = h.heard_at in
    let sent = packet.sent in
    let came = bound.sent in
    let most = bound.most in
    let same = spoken.epoch_is in
    let clock : counted host.client w.clock ≡ w.clock = omega (arith, last) in
    let late : h.epoch ≤ h.gap + h.d = omega (arith, lost, since, now, at, sent, came, most, same) in
    let second_is : counted host.client w.clock / 1000 ≡ h.first.seconds + h.gap = ap (λ n. n / 1000) clock ∙ now in
    let bad : is_valid_after h.first (heard_epoch_at h.epoch (counted host.client w.clock)) ≡ false =
    ap (λ n. is_valid_after h.first (heard_epoch h.epoch n)) second_is ∙ heard h.first.server h.epoch h.first.seconds h.d h.gap late h.high in
    found host.client (counted host.client w.clock) h.epoch h.word (meaning_of host.client (datagram_of p)) h.first h.says h.heard bad

replies : (w : World) (o : Option Origin) (octets : List ℕ) (sent : ℕ) (r : Response) → HasOrigin w.clock w.losses o → TellsBy o octets sent → response_of octets ≡ Some r → HasBoundOrigin o r.epoch sent
replies w None octets sent r is h read = absurd cc
replies w (Some o) octets sent r is h read =
    let b = h r read in
    record { origin = o; has = refl; sent_before = b.sent; most = b.most }

pub replies-have-origins : DecisionsChangeLeases → RepliesHaveOrigins
replies-have-origins law b events p r is among read =
    let w = run (begun b) events in
    let world = every-world law b events is in
    let packet = All-IsIn (IsPacket w.clock w.losses) w.bag p world.bag (IsIn-from_Contains w.bag p among) in
    replies w p.origin p.out.octets p.sent r packet.origin packet.told read

heard-from : (o : Option Origin) (heard : Option HeardEpoch) (t : HeardEpoch) → heard ≡ Some t → HostHeard o heard
    → HasBoundOrigin o t.server (1000 * t.seconds + 999)
heard-from None None t e h = absurd cc
heard-from None (Some x) t e h = absurd h
heard-from (Some o) None t e h = absurd cc
heard-from (Some o) (Some x) t e h =
    let same : x ≡ t = cc in
    subst (λ (y : HeardEpoch). HasBoundOrigin (Some o) y.server (1000 * y.seconds + 999)) same
    (record { origin = o; has = refl; sent_before = h.sent; most = h.most })

pub clients-have-origins : DecisionsChangeLeases → ClientsHaveOrigins
clients-have-origins law b events host t is among heard =
    let w = run (begun b) events in
    let world = every-world law b events is in
    let client = All-IsIn (IsClientHost w.clock w.losses) w.clients host world.clients (IsIn-from_Contains w.clients host among) in
    heard-from host.origin host.client.heard t heard client.heard

relay-from : (o : Option Origin) (heard : Option Heard) (t : Heard) (last : ℕ) → heard ≡ Some t → HeardBy o heard last
    → HasBoundOrigin o t.epoch t.at_ms
relay-from None None t last e h = absurd cc
relay-from None (Some x) t last e h = absurd h
relay-from (Some o) None t last e h = absurd cc
relay-from (Some o) (Some x) t last e h =
    let same : x ≡ t = cc in
    subst (λ (y : Heard). HasBoundOrigin (Some o) y.epoch y.at_ms) same
    (record { origin = o; has = refl; sent_before = h.0.sent; most = h.0.most })

pub relays-have-origins : DecisionsChangeLeases → RelaysHaveOrigins
relays-have-origins law b events host t is among heard =
    let w = run (begun b) events in
    let world = every-world law b events is in
    let relay = All-IsIn (IsRelay w.clock w.losses) w.relays host world.relays (IsIn-from_Contains w.relays host among) in
    relay-from host.origin host.relay.heard t host.relay.last heard relay.heard
