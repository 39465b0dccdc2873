use Rattle.std.proofs.Common.{◌<◌, ◌≤◌, length, arith, rules}
use Rattle.std.proofs.lemmas.Option.{slice_get-get_or}
use Rattle.pcp_announce.proofs.DoorLemmas.{counted, found}
use Rattle.pcp_announce.proofs.doors.door_at.Goals as goal

pub bounds-listen-place : goal.bounds-listen-place
bounds-listen-place c =
    omega (arith, c.requires.place, counted c.args.config.now c.items-listen.result.now c.items-listen.ensures (search rules))

pub bounds-listen-place-else-is_empty : goal.bounds-listen-place-else-is_empty
bounds-listen-place-else-is_empty c = bounds-listen-place c

pub offset_bounds-listen-place : goal.offset_bounds-listen-place
offset_bounds-listen-place c =
    let few : length c.items-listen.result.now ≤ 16 = search rules in
    let within : c.args.place < length c.items-listen.result.now = bounds-listen-place c in
    omega (arith, few, within)

pub overflow_cast-place : goal.overflow_cast-place
overflow_cast-place c =
    let few : length c.items-listen.result.now ≤ 16 = search rules in
    let within : c.args.place < length c.items-listen.result.now =
    omega (arith, c.requires.place, counted c.args.config.now c.items-listen.result.now c.items-listen.ensures (search rules)) in
    omega (arith, few, within)

pub returns : goal.returns
returns c =
    let within : c.args.place < length c.items-listen.result.now =
    omega (arith, c.requires.place, counted c.args.config.now c.items-listen.result.now c.items-listen.ensures (search rules)) in
    found c.args.config.now c.items-listen.result.now c.args.place c.door_number.result _ c.items-listen.ensures
    (slice_get-get_or c.items-listen.result.now c.args.place c.index-listen-place.result within) c.door_number.ensures
