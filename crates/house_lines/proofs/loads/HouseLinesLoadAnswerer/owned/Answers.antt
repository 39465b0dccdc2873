use Rattle.std.proofs.Common.{rules, ◌≡◌, ◌<◌, length, arith}
use Rattle.lease_store.specs.OwnerOrder.{owners_in_order}
use Rattle.lease_histories.specs.PlainHouses.{PlainShard, at_last, owners_in}
use Rattle.lease_house.specs.SoloHouses.{plain_house}
use Rattle.house_lines.proofs.LoadLemmas.{owners-few, owners-length, shard-count}
use Rattle.house_lines.proofs.SumLemmas.{sum-next}
use Rattle.house_lines.proofs.loads.HouseLinesLoadAnswerer.owned.Goals as goal

pub overflow_cast-count : goal.overflow_cast-count
overflow_cast-count g c =
    let d = g.D.LeaseDisk in
    let house = c.args.self.now in
    let place = c.loop-place.place in
    let same = shard-count d.tells d.seen d.may_leave house c.requires in
    let count = c.places-place-end.ensures.count in
    let before = c.loop-place-test.true in
    let within : place < length house.config.externals = omega (arith, same, count, before) in
    let told : c.len.result ≡ length (owners_in (plain_house house) place c.args.m) = search rules in
    let few = owners-few d.tells d.seen d.may_leave house c.requires place c.args.m within in
    omega (arith, told, few)

pub overflow_add-count : goal.overflow_add-count
overflow_add-count g c =
    let d = g.D.LeaseDisk in
    let house = c.args.self.now in
    let place = c.loop-place.place in
    let same = shard-count d.tells d.seen d.may_leave house c.requires in
    let count = c.places-place-end.ensures.count in
    let most = c.places-place-end.ensures.few in
    let before = c.loop-place-test.true in
    let within : place < length house.config.externals = omega (arith, same, count, before) in
    let told : c.len.result ≡ length (owners_in (plain_house house) place c.args.m) = search rules in
    let few = owners-few d.tells d.seen d.may_leave house c.requires place c.args.m within in
    let so_few = c.loop-place.invariant.few in
    omega (arith, told, few, so_few, most, before)

pub loop-place-preserved : goal.loop-place-preserved
loop-place-preserved g c =
    let d = g.D.LeaseDisk in
    let house = c.args.self.now in
    let place = c.loop-place.place in
    let same = shard-count d.tells d.seen d.may_leave house c.requires in
    let count = c.places-place-end.ensures.count in
    let before = c.loop-place-test.true in
    let within : place < length house.config.externals = omega (arith, same, count, before) in
    let there : place < length (plain_house house).shards = omega (arith, same, within) in
    let told : c.len.result ≡ length (owners_in (plain_house house) place c.args.m) = search rules in
    let counted = owners-length (plain_house house) place c.args.m in
    let few = owners-few d.tells d.seen d.may_leave house c.requires place c.args.m within in
    let next = sum-next (λ (s : PlainShard). length (owners_in_order s.state.table (at_last c.args.m s))) (plain_house house).shards place there in
    let inv = c.loop-place.invariant in
    record {
      so_far = (let so_far = inv.so_far in omega (arith, so_far, told, counted, next));
      few = (let so_few = inv.few in omega (arith, so_few, told, few));
    }
