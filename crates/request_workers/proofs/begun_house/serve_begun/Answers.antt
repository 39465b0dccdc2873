use Rattle.request_workers.proofs.BegunHouseLemmas.{fails_begun, serves_begun}
use Rattle.request_workers.proofs.begun_house.serve_begun.Goals as goal

pub returns-in-Err-read : goal.returns-in-Err-read
returns-in-Err-read g c =
    rw c.served_as.ensures
    (fails_begun _ _ _ _ _ _ _ _ _ _ c.serve_parts-read.result.0 c.in-Err-read.fault _
    c.in-Err-read.is c.in-Ok-split_first.ensures.other c.serve_parts-read.ensures)

pub returns : goal.returns
returns g c =
    serves_begun _ _ _ _ _ _ _ _ _ _ c.serve_parts-read.result.0 _ _
    c.in-Ok-read.is c.of.ensures c.in-Ok-split_first.ensures.other c.serve_parts-read.ensures
