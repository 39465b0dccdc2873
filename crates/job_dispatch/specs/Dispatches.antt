-- What the dispatcher does (our own): the items of the inbox one after the other, each to the queue
-- of its external address, losses that waited for room in theirs, and announcements in between.
use Rattle.std.specs.Prelude.{◌≡◌, ℕ, ◌==◌, ◌<◌, ◌⊎◌, Bool, true, false, List, [], ◌∷◌, ◌++◌, length, filter_map, slice_set, Option, Some, None, if◌then◌else◌}
use Rattle.std.specs.List.{AllByRecursion, position_from, slice_get}
use Rattle.atomic_table.specs.Seated.{TableId}
use Rattle.pcp_base.specs.declared.addresses.Address.{Address}
use Rattle.pcp_base.specs.declared.configs.Config.{Config}
use Rattle.pcp_base.specs.declared.datagrams.Datagram.{Datagram}
use Rattle.pcp_base.specs.Tables.{same_address}
use Rattle.pcp_io.specs.declared.inboxes.InboxItem.{InboxItem}
use Rattle.pcp_io.specs.declared.inboxes.InboxItem.TheVariants as Items
use Rattle.lease_histories.specs.Routes.{route_of}
use Rattle.job_dispatch.specs.declared.sifting.Sifted.{Sifted}
use Rattle.job_dispatch.specs.declared.ports.Port.{Port}
use Rattle.job_queue.specs.declared.jobs.Job.{Job}
use Rattle.job_queue.specs.declared.jobs.Job.TheVariants as Jobs
use Rattle.job_queue.specs.Queues.{WasFull, is_noise_job}
use Rattle.job_workers.specs.Tallies.{row_full, row_starved}
use Rattle.job_dispatch.specs.declared.noise.NoiseCounts.{NoiseCounts}
use Rattle.job_dispatch.specs.Noise.{IsTooMuch, noise_dropped, noise_put}

-- the index of the external address
abbrev pub place_of_external : Config → Address → Option ℕ
place_of_external config address =
    position_from (λ external. same_address external.address address) 0 config.externals

-- a datagram that came by this door from this peer
abbrev pub came : Address → ℕ → ℕ → List ℕ → Datagram
came peer port door octets =
    record { peer = peer; port = port; door = door; octets = octets }

-- ---- what becomes of an item

pub data Fate : Type 0 where
  -- the job was put into the queue of this shard
  Put : ℕ → Job → Fate
  -- it was dropped, since that queue was full
  Full : ℕ → Job → Fate
  -- the loss waits for room in the queue of this shard, which was full
  Waits : ℕ → Fate
  -- one waits for that shard already, and is put for both
  Joins : ℕ → Fate
  -- it was dropped, since it is noise, of which that queue had much, or this second
  Noise : ℕ → Job → Fate
  -- it was dropped for want of memory, before it was known where it goes
  Starved : Fate
  -- it asks nothing of a shard
  Ignored : Fate

-- the job that an item is, and its shard
abbrev pub IsJobOf : Config → InboxItem → ℕ → Job → Type 0
IsJobOf config (Items.Packet d) shard job = (job ≡ Jobs.Packet d) × (shard ≡ route_of config d)
IsJobOf config (Items.Lose order address) shard job =
    (job ≡ Jobs.Lose) × (place_of_external config address ≡ Some shard)
IsJobOf config (Items.Status order) shard job = ⊥
IsJobOf config Items.Quiet shard job = ⊥

-- it is no job: a quiet, a status, or a loss of an address that isn't external
abbrev pub IsNoJob : Config → InboxItem → Type 0
IsNoJob config (Items.Packet d) = ⊥
IsNoJob config (Items.Lose order address) = place_of_external config address ≡ None
IsNoJob config (Items.Status order) = Unit {0}
IsNoJob config Items.Quiet = Unit {0}

abbrev pub IsPacket : InboxItem → Type 0
IsPacket (Items.Packet d) = Unit {0}
IsPacket (Items.Lose order address) = ⊥
IsPacket (Items.Status order) = ⊥
IsPacket Items.Quiet = ⊥

-- ---- the ends and rows of all shards

abbrev pub port_with : Port → Job → Port
port_with port job =
    record port { putter = record port.putter { put = port.putter.put ++ job ∷ [] } }

abbrev pub port_waiting : Port → Port
port_waiting port = record port { waits = true }

-- the loss that waited was put
abbrev pub port_late : Port → Port
port_late port = record port {
  putter = record port.putter { put = port.putter.put ++ Jobs.Lose ∷ [] };
  waits = false;
}

abbrev pub port_full : Port → Port
port_full port = record port { row = row_full port.row }

abbrev pub port_starved : Port → Port
port_starved port = record port { row = row_starved port.row }

-- whether a job for this shard is noise
abbrev pub is_noise_for : Config → ℕ → Job → Bool
is_noise_for config shard job = is_noise_job (Some (record { config = config; shard = shard })) job

-- only the port of this shard changes, from the one to the other
pub record ChangesPort (shard : ℕ) (port changed : Port) (old new : List Port) : Type 0 where
  pub there : slice_get old shard ≡ Some port
  pub new_are : new ≡ slice_set old shard changed

-- a loss is put at once only where none waits
abbrev pub MayPut : Port → Job → Type 0
MayPut port (Jobs.Packet d) = Unit {0}
MayPut port Jobs.Lose = port.waits ≡ false

-- what became of an item, where this noise was counted in this second
abbrev pub IsFate : Config → NoiseCounts → InboxItem → Fate → List Port → List Port → Type 0
IsFate config noise item (Put shard job) old new =
    IsJobOf config item shard job
    × ((port : Port) × ChangesPort shard port (port_with port job) old new × MayPut port job)
    × (is_noise_for config shard job ≡ true → noise.put < 1000)
IsFate config noise item (Full shard job) old new =
    IsJobOf config item shard job × IsPacket item
    × ((port : Port) × ChangesPort shard port (port_full port) old new × WasFull [] port.putter.put)
IsFate config noise item (Waits shard) old new =
    IsJobOf config item shard Jobs.Lose
    × ((port : Port) × ChangesPort shard port (port_waiting port) old new
    × WasFull [] port.putter.put × (port.waits ≡ false))
IsFate config noise item (Joins shard) old new =
    IsJobOf config item shard Jobs.Lose × (new ≡ old)
    × ((port : Port) × (slice_get old shard ≡ Some port) × (port.waits ≡ true))
IsFate config noise item (Noise shard job) old new =
    IsJobOf config item shard job × (is_noise_for config shard job ≡ true) × (new ≡ old)
    × ((port : Port) × (slice_get old shard ≡ Some port) × IsTooMuch noise port.putter)
IsFate config noise item Starved old new =
    IsPacket item × ((port : Port) × ChangesPort 0 port (port_starved port) old new)
IsFate config noise item Ignored old new = IsNoJob config item × (new ≡ old)

-- what is counted of noise then
abbrev pub noise_by_fate : Config → NoiseCounts → Fate → NoiseCounts
noise_by_fate config noise (Put shard job) =
    if is_noise_for config shard job then noise_put noise else noise
noise_by_fate config noise (Full shard job) = noise
noise_by_fate config noise (Waits shard) = noise
noise_by_fate config noise (Joins shard) = noise
noise_by_fate config noise (Noise shard job) = noise_dropped noise
noise_by_fate config noise Starved = noise
noise_by_fate config noise Ignored = noise

-- a job was offered to its queue, and counted if it is noise
abbrev pub Offers : Bool → Job → Port → Port → NoiseCounts → NoiseCounts → Type 0
Offers is_noise job old new noise counted =
    ((new ≡ port_with old job) × (counted ≡ (if is_noise then noise_put noise else noise)))
    ⊎ ((new ≡ port_full old) × WasFull [] old.putter.put × (counted ≡ noise))

-- the end of this queue, whose jobs are for this shard
pub record IsPort (config : Config) (shard : ℕ) (queue : TableId) (port : Port) : Type 0 where
  pub queue_is : port.putter.queue ≡ queue
  pub route_is : port.putter.route ≡ Some (record { config = config; shard = shard })

-- the ends of all queues, in the order of the shards
pub record ArePorts (config : Config) (queues : List TableId) (ports : List Port) : Type 0 where
  pub count : length queues ≡ length ports
  pub each : (shard : ℕ) (queue : TableId) (port : Port) → slice_get queues shard ≡ Some queue →
      slice_get ports shard ≡ Some port → IsPort config shard queue port

-- a job was offered to the queue of this shard
pub record OffersAt (is_noise : Bool) (shard : ℕ) (job : Job) (old new : List Port)
    (noise counted : NoiseCounts) : Type 0 where
  pub port : Port
  pub changed : Port
  pub changes : ChangesPort shard port changed old new
  pub offers : Offers is_noise job port changed noise counted

-- a loss was put, waits at its full queue, or one waited already
abbrev pub OffersLoss : Port → Port → Bool → Type 0
OffersLoss old new put =
    ((put ≡ true) × (old.waits ≡ false) × (new ≡ port_with old Jobs.Lose))
    ⊎ (((put ≡ false) × (old.waits ≡ false) × (new ≡ port_waiting old) × WasFull [] old.putter.put)
    ⊎ ((put ≡ false) × (old.waits ≡ true) × (new ≡ old)))

-- so of this shard
pub record OffersLossAt (shard : ℕ) (old new : List Port) (put : Bool) : Type 0 where
  pub port : Port
  pub changed : Port
  pub changes : ChangesPort shard port changed old new
  pub offers : OffersLoss port changed put

-- a loss that waited was put, or nothing changed
abbrev pub PutsLate : Port → Port → Bool → Type 0
PutsLate old new put =
    ((put ≡ true) × (old.waits ≡ true) × (new ≡ port_late old)) ⊎ ((put ≡ false) × (new ≡ old))

-- what was sifted was dropped as noise and counted, or nothing changed
pub record Sifts (sifted : Sifted) (old new : List Port) (noise counted : NoiseCounts)
    (dropped : Bool) : Type 0 where
  pub ports : new ≡ old
  pub counts : counted ≡ (if dropped then noise_dropped noise else noise)
  pub noise_is : dropped ≡ true → sifted.is_noise ≡ true
  pub cause : dropped ≡ true →
      (port : Port) × (slice_get old sifted.place ≡ Some port) × IsTooMuch noise port.putter
  pub room : dropped ≡ false → sifted.is_noise ≡ true → noise.put < 1000

-- a datagram was counted as dropped for want of memory
abbrev pub StarvesAt : List Port → List Port → Type 0
StarvesAt old new = (port : Port) × ChangesPort 0 port (port_starved port) old new

-- the item has a fate, and this is counted of noise
abbrev pub HasFate : Config → InboxItem → List Port → List Port → NoiseCounts → NoiseCounts → Type 0
HasFate config item old new noise counted =
    (fate : Fate) × IsFate config noise item fate old new
    × (counted ≡ noise_by_fate config noise fate)

-- the loss was put, waits since its queue was full, or is put with one that waits
abbrev pub HasLossFate : Config → InboxItem → List Port → List Port → Type 0
HasLossFate config item old new =
    (noise : NoiseCounts) → HasFate config item old new noise noise

-- the loss that waited for this shard was put
abbrev pub IsLate : ℕ → List Port → List Port → Type 0
IsLate shard old new =
    (port : Port) × ChangesPort shard port (port_late port) old new × (port.waits ≡ true)

-- those that waited for these shards were, one after the other
abbrev pub AreLate : List ℕ → List Port → List Port → Type 0
AreLate [] old new = new ≡ old
AreLate (shard ∷ shards) old new =
    (mid : List Port) × IsLate shard old mid × AreLate shards mid new

-- no loss waits
abbrev pub NoneWaits : List Port → Type 0
NoneWaits ports = AllByRecursion (λ p. p.waits ≡ false) ports

-- ---- all that was done

-- what the dispatcher did
pub data Dispatched : Type 0 where
  -- the inbox gave an item, and this became of it
  Given : InboxItem → Fate → Dispatched
  -- the loss that waited for this shard was put
  Late : ℕ → Dispatched

-- the job that was put for this shard, if any
abbrev pub put_for : ℕ → Fate → Option Job
put_for shard (Put at job) = if at == shard then Some job else None
put_for shard (Full at job) = None
put_for shard (Waits at) = None
put_for shard (Joins at) = None
put_for shard (Noise at job) = None
put_for shard Starved = None
put_for shard Ignored = None

abbrev pub put_by : ℕ → Dispatched → Option Job
put_by shard (Given item fate) = put_for shard fate
put_by shard (Late at) = if at == shard then Some Jobs.Lose else None

-- what was put for this shard, in order
abbrev pub all_put_for : ℕ → List Dispatched → List Job
all_put_for shard ds = filter_map (put_by shard) ds
