-- What a server tells all hosts is a success for ANNOUNCE: it tells its epoch, and grants nothing.
use Rattle.std.specs.Prelude.{max}
use Rattle.std.proofs.Common.{◌≡◌, ◌∙◌, ℕ, ◌*◌, ◌/◌, ◌==◌, Bool, true, false, cond, List, [], refl, ap, sym, subst, arith}
use Rattle.pcp_base.specs.declared.asks.Answer.TheVariants.{Announced}
use Rattle.pcp_base.specs.Epoch.{epoch_of}
use Rattle.pcp_codec.specs.declared.requests.Body.{Body}
use Rattle.pcp_codec.specs.declared.requests.Body.TheVariants.{Announce}
use Rattle.pcp_codec.specs.Requests.{body_of, opcode_of}
use Rattle.pcp_options.specs.Replies.{success_text}
use Rattle.loss_world.specs.Disclosure.{HasCommon}
use Rattle.loss_world.specs.HouseLosses.{epoch_to_all}
use Rattle.loss_world.proofs.CodeReads.{GrantsNothing, plain-grants, read-body}
use Rattle.loss_world.proofs.EpochReads.{IsUnder, success-under}
use Rattle.loss_world.proofs.RelayValues.{IsMessage, OctetLaws, success-message}

told-text : (m base : ℕ) → (epoch_to_all m base).octets ≡ success_text 0 (epoch_of m base) Announce []
told-text m base =
    let same : max (1000 * m) (1000 * m) / 1000 ≡ m = omega arith in
    ap (λ k. success_text 0 (epoch_of k base) Announce []) same

pub announced-under : (m base : ℕ) → IsUnder (epoch_to_all m base).octets (epoch_of m base)
announced-under m base =
    subst (λ t. IsUnder t (epoch_of m base)) (sym (told-text m base)) (success-under 0 (epoch_of m base) Announce [])

pub announced-message : OctetLaws → (m base : ℕ) → IsMessage (epoch_to_all m base).octets
announced-message laws m base =
    subst IsMessage (sym (told-text m base)) (success-message laws 0 (epoch_of m base) Announce [] tt tt)

pub announced-grants : (m base : ℕ) → GrantsNothing (epoch_to_all m base).octets
announced-grants m base =
    subst GrantsNothing (sym (told-text m base)) (plain-grants [] Announced (epoch_of m base) tt)

-- ---- what comes to all hosts

first-case : (b : Bool) (x : Body) → b ≡ true → cond b Announce x ≡ Announce
first-case true x h = refl
first-case false x h = absurd cc

pub all-grants : (text : List ℕ) → (opcode_of text == 0) ≡ true → GrantsNothing text
all-grants text is r c read success has =
    let announces : body_of text ≡ Announce = first-case (opcode_of text == 0) _ is in
    subst (λ b. HasCommon b c) (read-body text r read ∙ announces) has
