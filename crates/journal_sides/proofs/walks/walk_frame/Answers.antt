use Rattle.std.proofs.Common.{◌≡◌, ℕ, ◌+◌, ◌≤◌, Bool, List, ◌∷◌, ◌++◌, length, take, drop, get_or, sym, refl, ◌∙◌, ap, subst, arith, length-drop, rules}
use Rattle.std.specs.Int.{from_be_bytes, w32}
use Rattle.std.proofs.lemmas.List.{drop_more}
use Rattle.lease_records.proofs.FieldLaws.{IsBytes-drop, IsBytes-take}
use Rattle.journal_sides.specs.Walks.{BatchMeans, IsStuckAt, IsFramed, IsReadBatch, IsNoBatch}
use Rattle.journal_sides.proofs.SideWalks.{from_place}
use Rattle.journal_sides.proofs.TurnLemmas.{bad_size, no_records, framed}
use Rattle.journal_sides.proofs.walks.walk_frame.Goals as goal

pub returns-then-size-eq0 : goal.returns-then-size-eq0
returns-then-size-eq0 g c =
    let s = g.R.Replay.state c.args.replay.now in
    let octets = c.args.octets.now in
    let rest = drop 1 octets in
    let slice = from_place octets 1 in
    let open_now : get_or octets 0 0 ≡ 1 = omega (arith, c.if-gate-ne1.false) in
    let whole : octets ≡ 1 ∷ rest = drop_more octets 0 0 (omega (arith, c.in-len1-up.len_at_least)) ∙ ap (λ (x : ℕ). x ∷ rest) open_now in
    let enough : 4 ≤ length rest = omega (arith, c.in-Some.ensures.cases.2, ap length slice, length-drop 1 octets) in
    let size = c.from_be_bytes-size.result in
    let is : size ≡ from_be_bytes w32 (take 4 rest) = search rules in
    record {
      means = λ more. subst (λ (l : List ℕ). IsStuckAt c.args.format s (l ++ more)) (sym whole) (bad_size c.args.format s rest size enough is (λ some most. omega (arith, some, c.if-size-eq0.true)) more);
      ready = c.requires;
      lasting = refl;
    }

pub returns-then-branch : goal.returns-then-branch
returns-then-branch g c =
    let s = g.R.Replay.state c.args.replay.now in
    let octets = c.args.octets.now in
    let rest = drop 1 octets in
    let slice = from_place octets 1 in
    let open_now : get_or octets 0 0 ≡ 1 = omega (arith, c.if-gate-ne1.false) in
    let whole : octets ≡ 1 ∷ rest = drop_more octets 0 0 (omega (arith, c.in-len1-up.len_at_least)) ∙ ap (λ (x : ℕ). x ∷ rest) open_now in
    let enough : 4 ≤ length rest = omega (arith, c.in-Some.ensures.cases.2, ap length slice, length-drop 1 octets) in
    let size = c.from_be_bytes-size.result in
    let is : size ≡ from_be_bytes w32 (take 4 rest) = search rules in
    let now = g.R.Replay.state c.read_batch.new.replay in
    let within : size ≤ length (drop 4 rest) = omega (arith, c.if-rest-size.false, c.in-Some.ensures.cases.2, ap length slice, length-drop 4 rest) in
    let rest_is : c.in-Some.rest.now ≡ drop 4 rest = c.in-Some.ensures.cases.1 ∙ ap (λ (l : List ℕ). drop 4 l) slice in
    let means = subst (λ (b : Bool). BatchMeans c.args.format s now (take size c.in-Some.rest.now) b) c.if-branch.true c.in_ok-read_batch.ensures.means in
    let read = subst (λ (l : List ℕ). IsReadBatch c.args.format s now (take size l)) rest_is means in
    record {
      means = subst (λ (l : List ℕ). IsFramed c.args.format s now l (5 + size)) (sym whole)
          (framed c.args.format s rest size enough is within now (omega (arith, c.if-size-eq0.false)) (omega (arith, c.if-size-gt-MOST_FRAMED.false)) (IsBytes-take 4 rest (IsBytes-drop 1 octets (λ i. omega (arith, c.type_inv.octets i)))) read);
      ready = c.in_ok-read_batch.ensures.ready;
      lasting = c.read_batch.ensures.lasting;
    }

pub returns-else-branch : goal.returns-else-branch
returns-else-branch g c =
    let s = g.R.Replay.state c.args.replay.now in
    let octets = c.args.octets.now in
    let rest = drop 1 octets in
    let slice = from_place octets 1 in
    let open_now : get_or octets 0 0 ≡ 1 = omega (arith, c.if-gate-ne1.false) in
    let whole : octets ≡ 1 ∷ rest = drop_more octets 0 0 (omega (arith, c.in-len1-up.len_at_least)) ∙ ap (λ (x : ℕ). x ∷ rest) open_now in
    let enough : 4 ≤ length rest = omega (arith, c.in-Some.ensures.cases.2, ap length slice, length-drop 1 octets) in
    let size = c.from_be_bytes-size.result in
    let is : size ≡ from_be_bytes w32 (take 4 rest) = search rules in
    let now = g.R.Replay.state c.read_batch.new.replay in
    let within : size ≤ length (drop 4 rest) = omega (arith, c.if-rest-size.false, c.in-Some.ensures.cases.2, ap length slice, length-drop 4 rest) in
    let rest_is : c.in-Some.rest.now ≡ drop 4 rest = c.in-Some.ensures.cases.1 ∙ ap (λ (l : List ℕ). drop 4 l) slice in
    let means = subst (λ (b : Bool). BatchMeans c.args.format s now (take size c.in-Some.rest.now) b) c.if-branch.false c.in_ok-read_batch.ensures.means in
    let none = subst (λ (l : List ℕ). IsNoBatch c.args.format s (take size l)) rest_is means in
    record {
      means = λ more. subst (λ (l : List ℕ). IsStuckAt c.args.format s (l ++ more)) (sym whole) (no_records c.args.format s rest size enough is within none more);
      ready = c.in_ok-read_batch.ensures.ready;
      lasting = c.read_batch.ensures.lasting;
    }
