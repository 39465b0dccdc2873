use Rattle.std.proofs.Common.{◌≡◌, true, rules}
use Rattle.job_dispatch.proofs.DispatchLemmas.{counted_dropped, sifts_noise}
use Rattle.job_dispatch.proofs.ports.is_dropped.Goals as goal

pub returns-then-is_much : goal.returns-then-is_much
returns-then-is_much g c =
    let noisy : c.args.sifted.is_noise ≡ true = search rules in
    let much : c.is_too_much-is_much.result ≡ true = search rules in
    sifts_noise c.args.sifted c.args.ports.now c.index-ports-shard.result c.is_too_much-is_much.new.port c.args.noise.now c.count_dropped.new.self c.is_too_much-is_much.result
    c.requires.inside c.index-ports-shard.is c.is_too_much-is_much.ensures.unchanged noisy c.is_too_much-is_much.ensures.much c.is_too_much-is_much.ensures.room
    (counted_dropped c.is_too_much-is_much.result c.args.noise.now c.count_dropped.new.self much c.count_dropped.ensures)
