use Rattle.std.proofs.Common.{◌≡◌, ◌+◌, ◌-◌, ◌^◌, ◌<◌, subst, ap, arith, length}
use Rattle.pcp_base.specs.States.{State}
use Rattle.lease_disk.proofs.PairLemmas.{pair_started}
use Rattle.journal_sides.specs.Journals.{StandsFor}
use Rattle.journal_sides.specs.Texts.{records_in}
use Rattle.journal_sides.specs.Settled.{IsSettledBy}
use Rattle.lease_journal.specs.Views.{JournalView, IsSettled}
use Rattle.lease_journal.proofs.CompactLaws.{next_over, settled_at}
use Rattle.lease_journal.proofs.StandingLaws.{settled_holds}
use Rattle.lease_journal.proofs.journals.Journal.compact.Goals as goal

pub returns-in_err-text-clause-moments : goal.returns-in_err-text-clause-moments
returns-in_err-text-clause-moments g c = λ told s is.
    let d = g.D.LeaseDisk in
    pair_started d.moment d.left_since d.may_leave c.args.self.now.pair (StandsFor s) (settled_holds d.seen d.may_leave c.args.self.now.side c.args.self.now.standing c.args.self.now.pair s is)

pub returns-in_err-length-clause-moments : goal.returns-in_err-length-clause-moments
returns-in_err-length-clause-moments g c =
    let d = g.D.LeaseDisk in
    let inside = c.self.inside in
    let text = c.in_ok-text.text.items in
    let next : inside.standing.generation < 2 ^ 64 - 1 = omega (arith, ap (λ (v : JournalView g.row.D.Denot). v.standing.generation) c.self.view_is, c.requires.next) in
    let same = λ (told : d.tells) (s : State) (is : IsSettledBy d.seen d.may_leave inside.side inside.standing inside.pair s). c.requires.same told s (subst (λ (v : JournalView g.row.D.Denot). IsSettled d.seen d.may_leave v s) c.self.view_is is) in
    let over = λ (told : d.tells) (s : State) (is : IsSettledBy d.seen d.may_leave inside.side inside.standing inside.pair s). next_over inside.side inside.standing s (d.seen inside.pair.a) (d.seen inside.pair.b) (records_in c.args.snapshot.now) text c.deref.result.now is.sides next (c.requires.fit told) (same told s is) c.in_ok-text.ensures c.deref.ensures.value in
    rw (← c.self.view_is) (λ told s is. c.take_over.ensures.moments told inside.standing s (inside.standing.generation + 1) is (over told s is))

pub returns-clause-moments : goal.returns-clause-moments
returns-clause-moments g c =
    let d = g.D.LeaseDisk in
    let inside = c.self.inside in
    let text = c.in_ok-text.text.items in
    let next : inside.standing.generation < 2 ^ 64 - 1 = omega (arith, ap (λ (v : JournalView g.row.D.Denot). v.standing.generation) c.self.view_is, c.requires.next) in
    let same = λ (told : d.tells) (s : State) (is : IsSettledBy d.seen d.may_leave inside.side inside.standing inside.pair s). c.requires.same told s (subst (λ (v : JournalView g.row.D.Denot). IsSettled d.seen d.may_leave v s) c.self.view_is is) in
    let over = λ (told : d.tells) (s : State) (is : IsSettledBy d.seen d.may_leave inside.side inside.standing inside.pair s). next_over inside.side inside.standing s (d.seen inside.pair.a) (d.seen inside.pair.b) (records_in c.args.snapshot.now) text c.deref.result.now is.sides next (c.requires.fit told) (same told s is) c.in_ok-text.ensures c.deref.ensures.value in
    rw (← c.self.view_is) (λ told s is. c.in_ok-length.ensures.moments told inside.standing s (inside.standing.generation + 1) is (over told s is))

pub returns-clause-settled : goal.returns-clause-settled
returns-clause-settled g c =
    let d = g.D.LeaseDisk in
    let inside = c.self.inside in
    let text = c.in_ok-text.text.items in
    let next : inside.standing.generation < 2 ^ 64 - 1 = omega (arith, ap (λ (v : JournalView g.row.D.Denot). v.standing.generation) c.self.view_is, c.requires.next) in
    let same = λ (told : d.tells) (s : State) (is : IsSettledBy d.seen d.may_leave inside.side inside.standing inside.pair s). c.requires.same told s (subst (λ (v : JournalView g.row.D.Denot). IsSettled d.seen d.may_leave v s) c.self.view_is is) in
    let over = λ (told : d.tells) (s : State) (is : IsSettledBy d.seen d.may_leave inside.side inside.standing inside.pair s). next_over inside.side inside.standing s (d.seen inside.pair.a) (d.seen inside.pair.b) (records_in c.args.snapshot.now) text c.deref.result.now is.sides next (c.requires.fit told) (same told s is) c.in_ok-text.ensures c.deref.ensures.value in
    let place : c.len.result ≡ length c.deref.result.now = omega (arith, c.len.ensures, c.deref.ensures.len, ap length c.deref.ensures.value, c.in_ok-text.text.ok) in
    rw (← c.self.view_is) (λ told s is. settled_at d.seen d.may_leave inside.side c.other-self-inside.result c.other-self-inside.ensures (inside.standing.generation + 1) (length c.deref.result.now) c.len.result c.in_ok-length.length place c.take_over.new.pair s (c.in_ok-length.ensures.settled told inside.standing s (inside.standing.generation + 1) is (over told s is)))

pub returns-clause-filled : goal.returns-clause-filled
returns-clause-filled g c =
    let d = g.D.LeaseDisk in
    let inside = c.self.inside in
    let text = c.in_ok-text.text.items in
    let next : inside.standing.generation < 2 ^ 64 - 1 = omega (arith, ap (λ (v : JournalView g.row.D.Denot). v.standing.generation) c.self.view_is, c.requires.next) in
    let same = λ (told : d.tells) (s : State) (is : IsSettledBy d.seen d.may_leave inside.side inside.standing inside.pair s). c.requires.same told s (subst (λ (v : JournalView g.row.D.Denot). IsSettled d.seen d.may_leave v s) c.self.view_is is) in
    let over = λ (told : d.tells) (s : State) (is : IsSettledBy d.seen d.may_leave inside.side inside.standing inside.pair s). next_over inside.side inside.standing s (d.seen inside.pair.a) (d.seen inside.pair.b) (records_in c.args.snapshot.now) text c.deref.result.now is.sides next (c.requires.fit told) (same told s is) c.in_ok-text.ensures c.deref.ensures.value in
    rw (← c.self.view_is) (λ told s is. record {
      batches = c.in_ok-text.ensures.batches;
      opened = c.in_ok-length.ensures.filled told inside.standing s (inside.standing.generation + 1) is (over told s is);
      full = c.in_ok-text.ensures.full;
      holds = c.in_ok-text.ensures.holds;
    })
