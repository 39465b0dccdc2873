-- What becomes of an item.
use Rattle.std.proofs.Common.{◌≡◌, ℕ, suc, ◌+◌, ◌<◌, Bool, true, false, true≢false, cond, List, [], ◌∷◌, arith, length, get_or, slice_set, Option, Some, None, refl, sym, ap, ◌∙◌, subst, inl, inr, if◌then◌else◌}
use Rattle.std.specs.List.{position_from}
use Rattle.pcp_base.specs.Tables.{same_address}
use Rattle.std.proofs.lemmas.List.{set-get_or}
use Rattle.std.proofs.lemmas.Option.{slice_get_read}
use Rattle.atomic_table.specs.Seated.{TableId}
use Rattle.pcp_base.specs.declared.addresses.Address.{Address}
use Rattle.pcp_base.specs.declared.configs.Config.{Config}
use Rattle.pcp_base.specs.declared.datagrams.Datagram.{Datagram}
use Rattle.pcp_io.specs.declared.inboxes.InboxItem.{InboxItem}
use Rattle.pcp_io.specs.declared.inboxes.InboxItem.TheVariants as Items
use Rattle.lease_histories.specs.Routes.{route_of}
use Rattle.job_queue.specs.Noise.{is_noise}
use Rattle.job_dispatch.specs.declared.sifting.Sifted.{Sifted}
use Rattle.job_dispatch.specs.declared.noise.NoiseCounts.{NoiseCounts}
use Rattle.job_dispatch.specs.declared.ports.Port.{Port}
use Rattle.job_queue.specs.declared.jobs.Job.{Job}
use Rattle.job_queue.specs.declared.jobs.Job.TheVariants as Jobs
use Rattle.job_dispatch.specs.Dispatches.{ArePorts, ChangesPort, Put, Full, Noise, Starved, Ignored, HasFate, IsJobOf, IsPort, Offers, OffersAt, MayPut, Sifts, StarvesAt, is_noise_for, noise_by_fate, place_of_external, port_starved}
use Rattle.job_dispatch.specs.Noise.{IsTooMuch, noise_dropped, noise_put}

put_count : (config : Config) (noise counted : NoiseCounts) (shard : ℕ) (job : Job) (noisy : Bool) → noisy ≡ is_noise_for config shard job
    → counted ≡ (if noisy then noise_put noise else noise) → counted ≡ noise_by_fate config noise (Put shard job)
put_count config noise counted shard job noisy mark is = is ∙ ap (λ (b : Bool). if b then noise_put noise else noise) mark

-- a datagram that was offered was put, or dropped at a full queue
offered : (config : Config) (d : Datagram) (noisy : Bool) (shard : ℕ) (job : Job) (port changed : Port) (old new : List Port) (noise counted : NoiseCounts)
    → IsJobOf config (Items.Packet d) shard job → noisy ≡ is_noise_for config shard job → (noisy ≡ true → noise.put < 1000)
    → ChangesPort shard port changed old new → Offers noisy job port changed noise counted → HasFate config (Items.Packet d) old new noise counted
offered config d noisy shard job port changed old new noise counted is mark room changes (inl put) = (
  Put shard job,
  (
    is,
    (port, subst (λ (p : Port). ChangesPort shard port p old new) put.0 changes, subst (λ (j : Job). MayPut port j) (sym is.0) tt),
    λ e. room (mark ∙ e),
  ),
  put_count config noise counted shard job noisy mark put.1,
)
offered config d noisy shard job port changed old new noise counted is mark room changes (inr full) =
    (Full shard job, (is, tt, (port, subst (λ (p : Port). ChangesPort shard port p old new) full.0 changes, full.1)), full.2)

pub fate_offered : (config : Config) (d : Datagram) (noisy : Bool) (shard : ℕ) (job : Job) (old new : List Port) (noise counted : NoiseCounts)
    → IsJobOf config (Items.Packet d) shard job → noisy ≡ is_noise_for config shard job → (noisy ≡ true → noise.put < 1000)
    → OffersAt noisy shard job old new noise counted → HasFate config (Items.Packet d) old new noise counted
fate_offered config d noisy shard job old new noise counted is mark room o =
    offered config d noisy shard job o.port o.changed old new noise counted is mark room o.changes o.offers

pub fate_starved : (config : Config) (d : Datagram) (old new : List Port) (noise : NoiseCounts) → StarvesAt old new → HasFate config (Items.Packet d) old new noise noise
fate_starved config d old new noise h = (Starved, (tt, h), refl)

-- noise was dropped
pub fate_dropped : (config : Config) (d : Datagram) (sifted : Sifted) (old new : List Port) (noise counted : NoiseCounts) (dropped : Bool)
    → sifted.place ≡ route_of config d → sifted.is_noise ≡ is_noise config d → Sifts sifted old new noise counted dropped → dropped ≡ true → HasFate config (Items.Packet d) old new noise counted
fate_dropped config d sifted old new noise counted true place mark sifts is =
    (Noise sifted.place (Jobs.Packet d), ((refl, place), sym mark ∙ sifts.noise_is refl, sifts.ports, sifts.cause refl), sifts.counts)
fate_dropped config d sifted old new noise counted false place mark sifts is = absurd (true≢false (sym is))

-- none was, and then this became of it
pub fate_behind : (config : Config) (item : InboxItem) (sifted : Sifted) (old mid new : List Port) (noise still counted : NoiseCounts) (dropped : Bool)
    → Sifts sifted old mid noise still dropped → dropped ≡ false → HasFate config item mid new still counted → HasFate config item old new noise counted
fate_behind config item sifted old mid new noise still counted false sifts is h =
    subst (λ (ps : List Port). HasFate config item ps new noise counted) sifts.ports
    (subst (λ (n : NoiseCounts). HasFate config item mid new n counted) sifts.counts h)
fate_behind config item sifted old mid new noise still counted true sifts is h = absurd (true≢false is)

-- a port that stays as it is
port_kept : (ports : List Port) (shard : ℕ) (port changed : Port) → changed ≡ get_or ports shard port → slice_set ports shard changed ≡ ports
port_kept ports shard port changed same = ap (λ (x : Port). slice_set ports shard x) same ∙ set-get_or ports shard port

-- what isn't noise isn't dropped
pub sifts_none : (sifted : Sifted) (ports : List Port) (noise : NoiseCounts) → sifted.is_noise ≡ false → Sifts sifted ports ports noise noise false
sifts_none sifted ports noise is = record {
  ports = refl;
  counts = refl;
  noise_is = λ e. absurd (true≢false (sym e));
  cause = λ e. absurd (true≢false (sym e));
  room = λ _ e. absurd (true≢false (sym e ∙ is));
}

pub counted_dropped : (much : Bool) (noise counted : NoiseCounts) → much ≡ true → counted ≡ noise_dropped noise → counted ≡ (if much then noise_dropped noise else noise)
counted_dropped true noise counted is e = e
counted_dropped false noise counted is e = absurd (true≢false (sym is))

-- noise is dropped where it is too much
pub sifts_noise : (sifted : Sifted) (ports : List Port) (port changed : Port) (noise counted : NoiseCounts) (much : Bool)
    → sifted.place < length ports → port ≡ get_or ports sifted.place port → changed ≡ get_or ports sifted.place port → sifted.is_noise ≡ true
    → (much ≡ true → IsTooMuch noise (get_or ports sifted.place port).putter) → (much ≡ false → noise.put < 1000)
    → counted ≡ (if much then noise_dropped noise else noise) → Sifts sifted ports (slice_set ports sifted.place changed) noise counted much
sifts_noise sifted ports port changed noise counted much within p same is cause room counts = record {
  ports = port_kept ports sifted.place port changed same;
  counts = counts;
  noise_is = λ _. is;
  cause = λ e. (port, slice_get_read ports (length ports) sifted.place port refl within p, subst (λ (x : Port). IsTooMuch noise x.putter) (sym p) (cause e));
  room = λ e _. room e;
}

at_or_behind : (b : Bool) (i n k : ℕ) (later : Option ℕ) → cond b (Some i) later ≡ Some n → (later ≡ Some n → n < (i + 1) + k) → n < i + suc k
at_or_behind true i n k later e behind = let same : i ≡ n = cc in omega (arith, same)
at_or_behind false i n k later e behind = omega (arith, behind e)

position_within : {K : Type 0} (t : K → Bool) (i : ℕ) (xs : List K) (n : ℕ) → position_from t i xs ≡ Some n → n < i + length xs
position_within t i [] n e = absurd (let none : None ≡ Some n = e in cc)
position_within t i (x ∷ xs) n e = at_or_behind (t x) i n (length xs) (position_from t (i + 1) xs) e (position_within t (i + 1) xs n)

-- the index of an external address is one
pub place_within : (config : Config) (address : Address) (n : ℕ) → place_of_external config address ≡ Some n → n < length config.externals
place_within config address n e =
    let within : n < 0 + length config.externals = position_within (λ external. same_address external.address address) 0 config.externals n e in
    omega (arith, within)

-- the port of this shard
pub port_at : (config : Config) (queues : List TableId) (ports : List Port) (shard : ℕ) (queue : TableId) (port : Port) → ArePorts config queues ports
    → shard < length ports → queue ≡ get_or queues shard queue → port ≡ get_or ports shard port → IsPort config shard queue port
port_at config queues ports shard queue port h within q p =
    h.each shard queue port (slice_get_read queues (length ports) shard queue (sym h.count) within q) (slice_get_read ports (length ports) shard port refl within p)

-- a change of that port alone
pub changes_at : (ports : List Port) (shard : ℕ) (port changed : Port) → shard < length ports → port ≡ get_or ports shard port → ChangesPort shard port changed ports (slice_set ports shard changed)
changes_at ports shard port changed within p =
    record { there = slice_get_read ports (length ports) shard port refl within p; new_are = refl }

-- a job is offered at that port
pub offers_at : (ports : List Port) (noisy : Bool) (shard : ℕ) (job : Job) (port changed : Port) (noise counted : NoiseCounts) → shard < length ports → port ≡ get_or ports shard port
    → Offers noisy job (get_or ports shard port) changed noise counted → OffersAt noisy shard job ports (slice_set ports shard changed) noise counted
offers_at ports noisy shard job port changed noise counted within p offers = record {
  port = port;
  changed = changed;
  changes = changes_at ports shard port changed within p;
  offers = subst (λ (x : Port). Offers noisy job x changed noise counted) (sym p) offers;
}

-- the first port starves
pub starves_at : (ports : List Port) (port changed : Port) → 0 < length ports → port ≡ get_or ports 0 port → changed ≡ port_starved (get_or ports 0 port)
    → StarvesAt ports (slice_set ports 0 changed)
starves_at ports port changed within p is =
    let same : changed ≡ port_starved port = is ∙ ap port_starved (sym p) in
    (port, record { there = slice_get_read ports (length ports) 0 port refl within p; new_are = ap (λ (x : Port). slice_set ports 0 x) same })
