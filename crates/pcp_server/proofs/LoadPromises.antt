-- What holds of the requests of a load.
use Rattle.std.proofs.Common.{◌≡◌, ◌<◌, ◌+◌, ◌*◌, ◌^◌, ℕ, zero, suc, List, [], ◌∷◌, ◌++◌, map, replicate, refl, ap, arith}
use Rattle.std.specs.Prelude.{slice_index}
use Rattle.std.specs.Int.{w16, w32, to_be_bytes}
use Rattle.std.specs.List.{AllByRecursion, range_with_len}
use Rattle.pcp_base.proofs.Members.{All-append}
use Rattle.pcp_base.specs.AddressTexts.{v4_front}
use Rattle.pcp_base.specs.Protocols.{protocol_number}
use Rattle.pcp_base.specs.declared.configs.Config.{Config}
use Rattle.pcp_base.specs.declared.leases.Protocol.{Protocol}
use Rattle.pcp_base.specs.declared.leases.Protocol.TheVariants.{Tcp, Udp}
use Rattle.pcp_base.specs.Configs.{IsConfig}
use Rattle.pcp_script.specs.Loads.{load_head, load_host, load_lifetime, load_nonce, load_port, load_ports, load_protocol, load_request, request_at, load_word}
use Rattle.lease_disk.specs.declared.disks.DiskPair.{DiskPair}
use Rattle.lease_histories.specs.Laws.{CallsMakeHistories, IsCallValue}
use Rattle.lease_histories.specs.PlainHouses.{PlainHouse, entries_along, house_begun, packet_after}
use Rattle.lease_histories.specs.Promises.{HistoriesKeepPromises}
use Rattle.lease_house.specs.SoloHouses.{HouseView}
use Rattle.script_player.specs.Houses.{houses_along}
use Rattle.house_lines.specs.HouseEffects.{house_effects}
use Rattle.house_lines.specs.LineLaws.{HousesAreOfEntries, line_calls}
use Rattle.house_lines.specs.LoadEffects.{load_effects}
use Rattle.load_player.specs.LoadRuns.{TimedRequest, houses_past, load_moment, planned, planned_to}
use Rattle.server_commands.specs.declared.commands.LoadPlan.{LoadPlan}
use Rattle.pcp_server.specs.Loaded.{RequestsKeepPromises, lines_of}
use Rattle.pcp_server.specs.Opened.{Opens, openings}
use Rattle.pcp_server.specs.Outsides.{DiskMeanings}
use Rattle.pcp_server.proofs.OpeningLemmas.{are_openings}

abbrev Octets : List ℕ → Type 0
Octets text = AllByRecursion (λ x. x < 256) text

all-octets : (text : List ℕ) → Octets text → (i : ℕ) → slice_index text i < 256
all-octets [] h zero = omega arith
all-octets [] h (suc i) = omega arith
all-octets (x ∷ xs) h zero = h.0
all-octets (x ∷ xs) h (suc i) = all-octets xs h.1 i

join : (xs ys : List ℕ) → Octets xs → Octets ys → Octets (xs ++ ys)
join xs ys h k = All-append (λ x. x < 256) xs ys h k

zeros : (n : ℕ) → Octets (replicate n 0)
zeros zero = tt
zeros (suc n) = (omega arith, zeros n)

two : (n : ℕ) → Octets (to_be_bytes w16 n)
two n = (omega arith, (omega arith, tt))

four : (n : ℕ) → Octets (to_be_bytes w32 n)
four n = (omega arith, (omega arith, (omega arith, (omega arith, tt))))

host : (w : ℕ) → Octets (load_host w)
host w = (omega arith, (omega arith, (omega arith, (omega arith, tt))))

front : Octets v4_front
front = join (replicate 10 0) (255 ∷ 255 ∷ []) (zeros 10) (omega arith, (omega arith, tt))

protocol : (p : Protocol) → protocol_number p < 256
protocol Tcp = omega arith
protocol Udp = omega arith

request : (a b d : ℕ) → Octets (load_request a b d).octets
request a b d =
    join (load_head (load_request a b d).peer (load_lifetime d) ++ load_nonce (load_host a) (load_port b)) (load_ports (load_port b) (load_protocol b))
    (join (load_head (load_request a b d).peer (load_lifetime d)) (load_nonce (load_host a) (load_port b))
    (omega arith, (omega arith, (omega arith, (omega arith, join (to_be_bytes w32 (load_lifetime d)) (v4_front ++ load_host a) (four (load_lifetime d)) (join v4_front (load_host a) front (host a))))))
    (join (load_host a) (to_be_bytes w16 (load_port b) ++ replicate 6 0) (host a) (join (to_be_bytes w16 (load_port b)) (replicate 6 0) (two (load_port b)) (zeros 6))))
    (protocol (load_protocol b), (omega arith, (omega arith, (omega arith, join (to_be_bytes w16 (load_port b)) (replicate 18 0) (two (load_port b)) (zeros 18)))))

moment-below : (start i : ℕ) → load_moment start i < 2 ^ 40
moment-below start i = omega arith

calls-have : (config : Config) (plan : LoadPlan) (is : List ℕ) → AllByRecursion (IsCallValue config) (line_calls (lines_of (map (planned plan) is)))
calls-have config plan [] = tt
calls-have config plan (i ∷ is) =
    ((moment-below plan.start i, all-octets (request_at plan.number i).octets (request (load_word plan.number (3 * i)) (load_word plan.number (3 * i + 1)) (load_word plan.number (3 * i + 2)))), calls-have config plan is)

as-lines : (house : PlainHouse) (requests : List TimedRequest) → houses_past load_effects house requests ≡ houses_along house_effects house (lines_of requests)
as-lines house [] = refl
as-lines house (r ∷ rs) = ap (λ hs. house ∷ hs) (as-lines (packet_after house r.moment r.from) rs)

pub requests-keep : HistoriesKeepPromises → CallsMakeHistories → HousesAreOfEntries →
    {D : Type 0} (disks : DiskMeanings D) (config : Config) (start : ℕ) (pairs : List (DiskPair D)) (house : HouseView D) → IsConfig config → Opens disks config start pairs house →
    (plan : LoadPlan) (n : ℕ) → RequestsKeepPromises config (openings house) (planned_to plan n)
requests-keep keep make follow disks config start pairs house is o plan n =
    let are = are_openings disks config start pairs house is o in
    let begun = house_begun config (openings house) in
    let lines = lines_of (planned_to plan n) in
    record {
      as_lines = as-lines begun (planned_to plan n);
      lines = record {
        history = keep config (openings house) (entries_along begun (line_calls lines)) are (make config (openings house) (line_calls lines) are (calls-have config plan (range_with_len 0 n)));
        journals = λ h among. follow config (openings house) lines h among;
      };
    }
