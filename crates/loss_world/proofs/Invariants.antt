-- What holds in every world that can come to be, of the packets, the relays and the clients (our own), and that it is kept.
use Rattle.std.specs.Prelude.{⊤}
use Rattle.std.specs.List.{AllByRecursion}
use Rattle.std.proofs.Common.{◌≡◌, ℕ, ◌+◌, ◌-◌, ◌*◌, ◌<◌, ◌≤◌, List, ◌∷◌, length, Option, Some, None, arith}
use Rattle.pcp_options.specs.declared.responses.Response.{Response}
use Rattle.pcp_options.specs.ReadResponses.{response_of}
use Rattle.client_core.specs.declared.epochs.HeardEpoch.{HeardEpoch}
use Rattle.proxy_core.specs.declared.epochs.Heard.{Heard}
use Rattle.loss_world.specs.Packets.{Loss, Origin, Packet, seconds}
use Rattle.loss_world.specs.Worlds.{ClientHost, RelayHost}

-- An origin and a loss: what was sent behind the loss tells an epoch that is no longer than since then.
pub record IsApart (o : Origin) (l : Loss) : Type 0 where
  pub before : l.number < o.losses → l.moment + o.epoch ≤ seconds o.sent
  pub behind : o.losses ≤ l.number → seconds o.sent ≤ l.moment

-- an origin was sent before now, by these losses
pub record IsOrigin (clock : ℕ) (losses : List Loss) (o : Origin) : Type 0 where
  pub sent : o.sent ≤ clock
  pub count : o.losses ≤ length losses
  pub apart : AllByRecursion (IsApart o) losses

abbrev pub HasOrigin : ℕ → List Loss → Option Origin → Type 0
HasOrigin clock losses None = ⊤
HasOrigin clock losses (Some o) = IsOrigin clock losses o

-- An epoch that is told at a time is at most that of its origin and the seconds since. What has no origin is no response.
pub record IsBound (o : Origin) (epoch now : ℕ) : Type 0 where
  pub sent : o.sent ≤ now
  pub most : epoch ≤ o.epoch + (seconds now - seconds o.sent)

abbrev pub TellsBy : Option Origin → List ℕ → ℕ → Type 0
TellsBy None octets now = response_of octets ≡ None
TellsBy (Some o) octets now = (r : Response) → response_of octets ≡ Some r → IsBound o r.epoch now

pub record IsPacket (clock : ℕ) (losses : List Loss) (p : Packet) : Type 0 where
  pub sent : p.sent ≤ clock
  pub origin : HasOrigin clock losses p.origin
  pub told : TellsBy p.origin p.out.octets p.sent

abbrev pub HeardBy : Option Origin → Option Heard → ℕ → Type 0
HeardBy None None last = ⊤
HeardBy None (Some h) last = ⊥
HeardBy (Some o) None last = ⊤
HeardBy (Some o) (Some h) last = IsBound o h.epoch h.at_ms × (h.at_ms ≤ last)

pub record IsRelay (clock : ℕ) (losses : List Loss) (h : RelayHost) : Type 0 where
  pub last : h.relay.last ≤ clock
  pub origin : HasOrigin clock losses h.origin
  pub heard : HeardBy h.origin h.relay.heard h.relay.last

-- what a client heard is bound so up to the last millisecond of its second
abbrev pub HostHeard : Option Origin → Option HeardEpoch → Type 0
HostHeard None None = ⊤
HostHeard None (Some t) = ⊥
HostHeard (Some o) None = ⊤
HostHeard (Some o) (Some t) = IsBound o t.server (1000 * t.seconds + 999)

pub record IsClientHost (clock : ℕ) (losses : List Loss) (h : ClientHost) : Type 0 where
  pub last : h.client.last ≤ clock
  pub origin : HasOrigin clock losses h.origin
  pub heard : HostHeard h.origin h.client.heard

-- ---- time passes, and losses come

-- what was an origin is one still
pub record IsLater (clock later : ℕ) (losses more : List Loss) : Type 0 where
  pub clock_is : clock ≤ later
  pub origins : (o : Origin) → IsOrigin clock losses o → IsOrigin later more o

pub passes : (clock ms : ℕ) (losses : List Loss) → IsLater clock (clock + ms) losses losses
passes clock ms losses = record {
  clock_is = omega arith;
  origins = λ o h. let sent = h.sent in record { sent = omega (arith, sent); count = h.count; apart = h.apart };
}

pub loses : (clock : ℕ) (losses : List Loss) (l : Loss) → l.number ≡ length losses → l.moment ≡ seconds clock → IsLater clock clock losses (l ∷ losses)
loses clock losses l number moment = record {
  clock_is = omega arith;
  origins = λ o h. let sent = h.sent in let count = h.count in record {
    sent = h.sent;
    count = omega (arith, count);
    apart = (
      record {
        before = λ less. absurd (omega (arith, less, number, count));
        behind = λ more. omega (arith, sent, moment);
      },
      h.apart,
    );
  };
}

has-later : (clock later : ℕ) (losses more : List Loss) (o : Option Origin) → IsLater clock later losses more → HasOrigin clock losses o → HasOrigin later more o
has-later clock later losses more None l h = tt
has-later clock later losses more (Some o) l h = l.origins o h

pub packet-later : (clock later : ℕ) (losses more : List Loss) → IsLater clock later losses more → (p : Packet) → IsPacket clock losses p → IsPacket later more p
packet-later clock later losses more l p h =
    let sent = h.sent in
    let on = l.clock_is in
    record { sent = omega (arith, sent, on); origin = has-later clock later losses more p.origin l h.origin; told = h.told }

pub relay-later : (clock later : ℕ) (losses more : List Loss) → IsLater clock later losses more → (r : RelayHost) → IsRelay clock losses r → IsRelay later more r
relay-later clock later losses more l r h =
    let last = h.last in
    let on = l.clock_is in
    record { last = omega (arith, last, on); origin = has-later clock later losses more r.origin l h.origin; heard = h.heard }

pub client-later : (clock later : ℕ) (losses more : List Loss) → IsLater clock later losses more → (c : ClientHost) → IsClientHost clock losses c → IsClientHost later more c
client-later clock later losses more l c h =
    let last = h.last in
    let on = l.clock_is in
    record { last = omega (arith, last, on); origin = has-later clock later losses more c.origin l h.origin; heard = h.heard }
