use Rattle.std.proofs.Common.{◌∙◌, refl, rules}
use Rattle.std.proofs.lemmas.Result.{IfOk-weaker}
use Rattle.lease_disk.proofs.ReplayLemmas.{made_synced, made_read, made_with_ff}
use Rattle.lease_disk.proofs.replays.image.Goals as goal

pub returns-in-0 : goal.returns-in-0
returns-in-0 c =
    IfOk-weaker c.replay.result _ _ (λ octets made. made ∙ made_synced c.args.changes.now c.synced_count-synced.result c.args.choice c.in-0.is c.synced_count-synced.ensures.octets) c.replay.ensures

pub returns-in-1 : goal.returns-in-1
returns-in-1 c =
    IfOk-weaker c.replay-in-1.result _ _ (λ octets made. made ∙ made_read c.args.changes.now _ c.args.choice c.in-1.is refl) c.replay-in-1.ensures

pub returns-in_default : goal.returns-in_default
returns-in_default c =
    IfOk-weaker c.replay-in_default.result _ _ (λ octets made. made ∙ made_with_ff c.args.changes.now c.synced_count-synced.result c.args.choice (λ is. search rules) (λ is. search rules) c.synced_count-synced.ensures.count) c.replay-in_default.ensures
