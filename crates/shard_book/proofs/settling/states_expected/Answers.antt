use Rattle.std.proofs.Common.{◌≡◌, subst, sym, ◌∙◌, ap}
use Rattle.pcp_base.specs.Apply.{apply_all, state_of}
use Rattle.pcp_base.specs.Reached.{IsReached}
use Rattle.pcp_base.specs.States.{State}
use Rattle.shard_book.proofs.StateLemmas.{reached_all}
use Rattle.shard_book.proofs.settling.states_expected.Goals as goal

pub texts_of_state-requires-2 : goal.texts_of_state-requires-2
texts_of_state-requires-2 g c =
    let sure = c.args.texts.now.sure in
    let added = c.args.texts.now.added in
    let first : g.S.LeaseStore.state c.replay_sure.new.replay ≡ state_of sure = c.in_ok-replay_sure.ensures.state ∙ ap (λ (s : State). apply_all s sure) c.clear.ensures.empty in
    let second : g.S.LeaseStore.state c.replay_added.new.replay ≡ apply_all (state_of sure) added = c.in_ok-replay_added.ensures.state ∙ ap (λ (s : State). apply_all s added) first in
    subst IsReached (sym second) (reached_all c.states_are_sound.ensures.kept (state_of sure) added (c.states_are_sound.ensures.made sure c.requires.fit) c.requires.fit_added)

pub last-requires : goal.last-requires
last-requires g c =
    let sure = c.args.texts.now.sure in
    let added = c.args.texts.now.added in
    let first : g.S.LeaseStore.state c.replay_sure.new.replay ≡ state_of sure = c.in_ok-replay_sure.ensures.state ∙ ap (λ (s : State). apply_all s sure) c.clear.ensures.empty in
    let second : g.S.LeaseStore.state c.replay_added.new.replay ≡ apply_all (state_of sure) added = c.in_ok-replay_added.ensures.state ∙ ap (λ (s : State). apply_all s added) first in
    subst IsReached (sym second) (reached_all c.states_are_sound.ensures.kept (state_of sure) added (c.states_are_sound.ensures.made sure c.requires.fit) c.requires.fit_added)
