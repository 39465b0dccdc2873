use Rattle.std.proofs.Common.{◌≡◌, ◌+◌, [], ◌∷◌, length, length-append, ◌∙◌, refl, sym, subst, ap, arith}
use Rattle.pcp_base.specs.Apply.{apply_all}
use Rattle.journal_sides.specs.declared.walks.Standing.{Standing}
use Rattle.pcp_base.specs.States.{State}
use Rattle.journal_sides.specs.declared.formats.Format.TheVariants.{Second}
use Rattle.journal_sides.specs.Frames.{frames_octets}
use Rattle.journal_sides.specs.Settled.{IsSettledBy, with_frame}
use Rattle.journal_sides.specs.Shut.{AreAppended}
use Rattle.journal_sides.specs.Writes.{of_side, side_parity}
use Rattle.lease_journal.specs.Views.{JournalView, IsSettled}
use Rattle.lease_journal.proofs.AppendLaws.{appended_long}
use Rattle.lease_journal.proofs.StandingLaws.{ends_within, settled_still}
use Rattle.lease_journal.proofs.journals.Journal.append.Goals as goal

pub returns-in_err-frames-clause-moments : goal.returns-in_err-frames-clause-moments
returns-in_err-frames-clause-moments g c = λ told s is.
    let d = g.D.LeaseDisk in
    settled_still d.seen d.may_leave d.moment d.left_since c.args.self.now.side c.args.self.now.standing c.args.self.now.pair s c.args.batch.now is

pub returns-in_err-put_frames-clause-moments : goal.returns-in_err-put_frames-clause-moments
returns-in_err-put_frames-clause-moments g c =
    let d = g.D.LeaseDisk in
    let second : c.self.inside.standing.format ≡ Second = ap (λ (v : JournalView g.row.D.Denot). v.standing.format) c.self.view_is ∙ c.requires.second in
    let fit = λ (told : d.tells) (s : State) (is : IsSettledBy d.seen d.may_leave c.self.inside.side c.self.inside.standing c.self.inside.pair s). c.requires.fit told s (subst (λ (v : JournalView g.row.D.Denot). IsSettled d.seen d.may_leave v s) c.self.view_is is) in
    let are = subst (AreAppended c.args.batch.now) (sym c.deref.ensures.value) c.in_ok-frames.ensures in
    rw (← c.self.view_is) (λ told s is. c.in_err-put_frames.ensures.moments told c.self.inside.standing s c.args.batch.now is second refl (fit told s is) are)

pub returns-clause-moments : goal.returns-clause-moments
returns-clause-moments g c =
    let d = g.D.LeaseDisk in
    let second : c.self.inside.standing.format ≡ Second = ap (λ (v : JournalView g.row.D.Denot). v.standing.format) c.self.view_is ∙ c.requires.second in
    let fit = λ (told : d.tells) (s : State) (is : IsSettledBy d.seen d.may_leave c.self.inside.side c.self.inside.standing c.self.inside.pair s). c.requires.fit told s (subst (λ (v : JournalView g.row.D.Denot). IsSettled d.seen d.may_leave v s) c.self.view_is is) in
    let are = subst (AreAppended c.args.batch.now) (sym c.deref.ensures.value) c.in_ok-frames.ensures in
    rw (← c.self.view_is) (λ told s is. c.in_ok-put_frames.ensures.moments told c.self.inside.standing s c.args.batch.now is second refl (fit told s is) are)

pub returns-clause-settled : goal.returns-clause-settled
returns-clause-settled g c =
    let d = g.D.LeaseDisk in
    let second : c.self.inside.standing.format ≡ Second = ap (λ (v : JournalView g.row.D.Denot). v.standing.format) c.self.view_is ∙ c.requires.second in
    let fit = λ (told : d.tells) (s : State) (is : IsSettledBy d.seen d.may_leave c.self.inside.side c.self.inside.standing c.self.inside.pair s). c.requires.fit told s (subst (λ (v : JournalView g.row.D.Denot). IsSettled d.seen d.may_leave v s) c.self.view_is is) in
    let count : c.len.result ≡ length c.deref.result.now = omega (arith, c.len.ensures, c.deref.ensures.len, ap length c.deref.ensures.value, c.in_ok-frames.frames.ok) in
    let same : c.with_frame-self-inside.result ≡ with_frame c.self.inside.standing (length c.deref.result.now) = c.with_frame-self-inside.ensures ∙ ap (with_frame c.self.inside.standing) count in
    let are = subst (AreAppended c.args.batch.now) (sym c.deref.ensures.value) c.in_ok-frames.ensures in
    rw (← c.self.view_is) (λ told s is. subst (λ (x : Standing). IsSettledBy d.seen d.may_leave c.self.inside.side x c.put_frames.new.pair (apply_all s c.args.batch.now)) (sym same)
    (c.in_ok-put_frames.ensures.settled told c.self.inside.standing s c.args.batch.now is second refl (fit told s is) are))

pub returns-clause-grown : goal.returns-clause-grown
returns-clause-grown g c =
    let d = g.D.LeaseDisk in
    let inside = c.self.inside in
    let are = subst (AreAppended c.args.batch.now) (sym c.deref.ensures.value) c.in_ok-frames.ensures in
    let count : c.len.result ≡ frames_octets c.args.batch.now = omega (arith, c.len.ensures, c.deref.ensures.len, ap length c.deref.ensures.value, c.in_ok-frames.frames.ok, appended_long c.args.batch.now c.deref.result.now are) in
    let same : c.with_frame-self-inside.result ≡ with_frame inside.standing (frames_octets c.args.batch.now) = c.with_frame-self-inside.ensures ∙ ap (with_frame inside.standing) count in
    rw (← c.self.view_is) (λ told s is.
    let ends = ends_within (side_parity inside.side) (of_side inside.side (d.seen inside.pair.a) (d.seen inside.pair.b)) inside.standing s is.sides.counts in
    omega (arith, ends, ap (λ (x : Standing). x.length) same))

pub returns-clause-beside : goal.returns-clause-beside
returns-clause-beside g c = rw (← c.self.view_is) c.in_ok-put_frames.ensures.beside
