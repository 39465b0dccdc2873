-- Worked numbers of the epoch test.
use Rattle.std.proofs.Common.{◌≡◌, true, false, refl, arith}
use Rattle.client_core.specs.EpochTests.{heard_epoch, is_valid_after}
use Rattle.proxy_core.specs.Relays.{told_epoch}
use Rattle.loss_world.specs.Disclosure.{NoBoundIsSmaller}

-- a loss at 2000: 600 heard at 1600, or 2 at 2000, and then 3 at 2003
pub row-18-high : is_valid_after (heard_epoch 600 1600) (heard_epoch 3 2003) ≡ false
row-18-high = refl

pub row-18-low : is_valid_after (heard_epoch 2 2000) (heard_epoch 3 2003) ≡ true
row-18-low = refl

-- 100 seconds later the bound is 2 + 0 + 6 = 8
pub row-39-high : is_valid_after (heard_epoch 10 0) (heard_epoch 100 100) ≡ false
row-39-high = refl

pub row-39-low : is_valid_after (heard_epoch 8 0) (heard_epoch 100 100) ≡ true
row-39-low = refl

-- a relay that heard 10 tells 15 five seconds later; the bound is 2 + 5 + 6 = 13
pub row-40-relay : told_epoch (record { epoch = 10; at_ms = 0 }) 5000 ≡ 15
row-40-relay = refl

pub row-40-client : is_valid_after (heard_epoch 15 5) (heard_epoch 104 105) ≡ false
row-40-client = refl

-- by these numbers no bound below 2 + d + gap/16 would do: 8 is above 1 + 0 + 6, and 100 is valid behind it
pub no-smaller : NoBoundIsSmaller
no-smaller f =
    let bad : is_valid_after (heard_epoch 8 0) (heard_epoch 100 100) ≡ false = f 8 100 0 0 100 (omega arith) (omega arith) in
    absurd cc
