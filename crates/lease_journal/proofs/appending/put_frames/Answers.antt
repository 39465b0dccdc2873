use Rattle.std.proofs.Common.{inl, subst, ◌∙◌, ℕ, List, ◌+◌, length, ◌≡◌, ◌∷◌, []}
use Rattle.lease_disk.specs.Contents.{after_write}
use Rattle.lease_disk.specs.Images.{Torn}
use Rattle.lease_disk.proofs.PairLemmas.{pair_goes_on, pair_weaker}
use Rattle.journal_sides.specs.Journals.{StandsForWithOrWithout}
use Rattle.journal_sides.specs.Writes.{ChangesSide}
use Rattle.lease_journal.proofs.AppendLaws.{frame_torn, gate_torn_stands, appended}
use Rattle.lease_journal.proofs.appending.put_frames.Goals as goal

pub returns-in_err-write_side-clause-moments : goal.returns-in_err-write_side-clause-moments
returns-in_err-write_side-clause-moments g c = λ told standing s batch is second place fit are.
    let d = g.D.LeaseDisk in
    let pair = c.args.pair.now in
    let torn = λ (n : ℕ) (x y : List ℕ) (ch : ChangesSide c.args.side (Torn (c.args.end + 1) n) (d.seen pair.a) (d.seen pair.b) x y). frame_torn c.args.side standing s batch (d.seen pair.a) (d.seen pair.b) is.sides second fit n x y (subst (λ (e : ℕ). ChangesSide c.args.side (Torn (e + 1) n) (d.seen pair.a) (d.seen pair.b) x y) place ch) in
    pair_weaker d.moment d.left_since d.may_leave pair c.write_side.new.pair _ (StandsForWithOrWithout s batch) (c.write_side.ensures.moments is.durable) (λ x y ch. inl (torn (length c.args.frames.now) x y ch))

pub returns-in_err-write_side-2-clause-moments : goal.returns-in_err-write_side-2-clause-moments
returns-in_err-write_side-2-clause-moments g c = λ told standing s batch is second place fit are.
    let d = g.D.LeaseDisk in
    let pair = c.args.pair.now in
    let mid = c.write_side.new.pair in
    let torn = λ (n : ℕ) (x y : List ℕ) (ch : ChangesSide c.args.side (Torn (c.args.end + 1) n) (d.seen pair.a) (d.seen pair.b) x y). frame_torn c.args.side standing s batch (d.seen pair.a) (d.seen pair.b) is.sides second fit n x y (subst (λ (e : ℕ). ChangesSide c.args.side (Torn (e + 1) n) (d.seen pair.a) (d.seen pair.b) x y) place ch) in
    let one = pair_weaker d.moment d.left_since d.may_leave pair mid _ (StandsForWithOrWithout s batch) (c.in_ok-write_side.ensures.moments is.durable) (λ x y ch. inl (torn (length c.args.frames.now) x y ch)) in
    let wrote = subst (λ (e : ℕ). ChangesSide c.args.side (λ old new. new ≡ after_write old (e + 1) c.args.frames.now) (d.seen pair.a) (d.seen pair.b) (d.seen mid.a) (d.seen mid.b)) place (c.in_ok-write_side.ensures.written told) in
    let two = pair_weaker d.moment d.left_since d.may_leave mid c.write_side-2.new.pair _ (StandsForWithOrWithout s batch) (c.write_side-2.ensures.moments (c.in_ok-write_side.ensures.durable is.durable)) (λ x y ch. gate_torn_stands c.args.side standing s batch (d.seen pair.a) (d.seen pair.b) is.sides second fit c.args.frames.now are (d.seen mid.a) (d.seen mid.b) wrote x y (subst (λ (e : ℕ). ChangesSide c.args.side (Torn e 1) (d.seen mid.a) (d.seen mid.b) x y) place ch)) in
    pair_goes_on d.moment d.left_since d.may_leave pair mid c.write_side-2.new.pair (StandsForWithOrWithout s batch) one two

pub returns-clause-moments : goal.returns-clause-moments
returns-clause-moments g c = λ told standing s batch is second place fit are.
    let d = g.D.LeaseDisk in
    let pair = c.args.pair.now in
    let mid = c.write_side.new.pair in
    let torn = λ (n : ℕ) (x y : List ℕ) (ch : ChangesSide c.args.side (Torn (c.args.end + 1) n) (d.seen pair.a) (d.seen pair.b) x y). frame_torn c.args.side standing s batch (d.seen pair.a) (d.seen pair.b) is.sides second fit n x y (subst (λ (e : ℕ). ChangesSide c.args.side (Torn (e + 1) n) (d.seen pair.a) (d.seen pair.b) x y) place ch) in
    let one = pair_weaker d.moment d.left_since d.may_leave pair mid _ (StandsForWithOrWithout s batch) (c.in_ok-write_side.ensures.moments is.durable) (λ x y ch. inl (torn (length c.args.frames.now) x y ch)) in
    let wrote = subst (λ (e : ℕ). ChangesSide c.args.side (λ old new. new ≡ after_write old (e + 1) c.args.frames.now) (d.seen pair.a) (d.seen pair.b) (d.seen mid.a) (d.seen mid.b)) place (c.in_ok-write_side.ensures.written told) in
    let two = pair_weaker d.moment d.left_since d.may_leave mid c.write_side-2.new.pair _ (StandsForWithOrWithout s batch) (c.in_ok-write_side-2.ensures.moments (c.in_ok-write_side.ensures.durable is.durable)) (λ x y ch. gate_torn_stands c.args.side standing s batch (d.seen pair.a) (d.seen pair.b) is.sides second fit c.args.frames.now are (d.seen mid.a) (d.seen mid.b) wrote x y (subst (λ (e : ℕ). ChangesSide c.args.side (Torn e 1) (d.seen mid.a) (d.seen mid.b) x y) place ch)) in
    pair_goes_on d.moment d.left_since d.may_leave pair mid c.write_side-2.new.pair (StandsForWithOrWithout s batch) one two

pub returns-clause-settled : goal.returns-clause-settled
returns-clause-settled g c = λ told standing s batch is second place fit are.
    let d = g.D.LeaseDisk in
    let pair = c.args.pair.now in
    let mid = c.write_side.new.pair in
    let last = c.write_side-2.new.pair in
    let wrote = subst (λ (e : ℕ). ChangesSide c.args.side (λ old new. new ≡ after_write old (e + 1) c.args.frames.now) (d.seen pair.a) (d.seen pair.b) (d.seen mid.a) (d.seen mid.b)) place (c.in_ok-write_side.ensures.written told) in
    let opened = subst (λ (e : ℕ). ChangesSide c.args.side (λ old new. new ≡ after_write old e (1 ∷ [])) (d.seen mid.a) (d.seen mid.b) (d.seen last.a) (d.seen last.b)) place (c.in_ok-write_side-2.ensures.written told) in
    record {
      sides = appended c.args.side standing s batch (d.seen pair.a) (d.seen pair.b) is.sides second fit c.args.frames.now are (d.seen mid.a) (d.seen mid.b) wrote (d.seen last.a) (d.seen last.b) opened;
      durable = c.in_ok-write_side-2.ensures.durable (c.in_ok-write_side.ensures.durable is.durable);
    }

pub returns-clause-beside : goal.returns-clause-beside
returns-clause-beside g c = λ told.
    let one = c.in_ok-write_side.ensures.written told in
    let two = c.in_ok-write_side-2.ensures.written told in
    two.unchanged ∙ one.unchanged
