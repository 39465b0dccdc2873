use Rattle.std.proofs.Common.{◌≡◌, ◌∷◌, [], false, List, ℕ, max, sym, subst, ◌∙◌, ap, arith, rules}
use Rattle.std.specs.Prelude.{OnOk}
use Rattle.pcp_base.specs.declared.records.Record.{Record}
use Rattle.pcp_base.specs.Fits.{Fits}
use Rattle.pcp_base.specs.Reached.{IsReached}
use Rattle.shard_book.specs.Addresses.{is_named, renumber_at, renumbering}
use Rattle.shard_book.specs.Keepings.{IsAppended}
use Rattle.shard_book.proofs.JournalLemmas.{none_appended, still_settled, without}
use Rattle.shard_book.proofs.OpenLemmas.{one_renumbering, renumber_fits}
use Rattle.shard_book.proofs.ResultLemmas.{map_ok}
use Rattle.shard_book.proofs.opening.name_address.Goals as goal

pub keep-requires-clause-fits : goal.keep-requires-clause-fits
keep-requires-clause-fits g c =
    let s = g.S.LeaseStore.state c.args.core.now in
    renumber_fits c.new_leases_need_room.ensures.fits s c.later.result c.args.address.now c.requires.reached c.requires.started (omega (arith, c.later.ensures.value, c.last.ensures.value)) c.later.ensures.bound

pub returns-then-is_named-clause-moments : goal.returns-then-is_named-clause-moments
returns-then-is_named-clause-moments g c = λ told.
    let d = g.D.LeaseDisk in
    let s = g.S.LeaseStore.state c.args.core.now in
    let j = c.args.journal.now in
    without d.moment d.left_since d.may_leave j.pair j.pair s (renumbering c.args.m c.args.address.now s) (still_settled d.seen d.may_leave d.moment d.left_since j s (c.requires.writable.settled told))

pub returns-clause-kept : goal.returns-clause-kept
returns-clause-kept g c =
    let s = g.S.LeaseStore.state c.args.core.now in
    let r = renumber_at c.later.result c.args.address.now in
    let fits : Fits s r = renumber_fits c.new_leases_need_room.ensures.fits s c.later.result c.args.address.now c.requires.reached c.requires.started (omega (arith, c.later.ensures.value, c.last.ensures.value)) c.later.ensures.bound in
    map_ok c.keep.result _ _ c.keep.ensures.state (λ e. subst IsReached (sym e) (c.states_are_sound.ensures.kept s r c.requires.reached fits))

pub returns-then-is_named-clause-appended : goal.returns-then-is_named-clause-appended
returns-then-is_named-clause-appended g c = none_appended g.D.LeaseDisk.tells g.D.LeaseDisk.seen (renumbering c.args.m c.args.address.now (g.S.LeaseStore.state c.args.core.now)) c.args.journal.now

pub returns-clause-appended : goal.returns-clause-appended
returns-clause-appended g c =
    let s = g.S.LeaseStore.state c.args.core.now in
    let told : is_named c.args.address.now s.address ≡ false = search rules in
    let at : max c.args.m s.last ≡ c.later.result = sym (c.later.ensures.value ∙ ap (λ (k : ℕ). max c.args.m k) c.last.ensures.value) in
    let one = one_renumbering c.args.m c.args.address.now s told ∙ ap (λ (k : ℕ). renumber_at k c.args.address.now ∷ []) at in
    subst (λ (l : List Record). OnOk c.keep.result (IsAppended g.D.LeaseDisk.tells g.D.LeaseDisk.seen l c.args.journal.now c.keep.new.journal)) (sym one) c.keep.ensures.appended
