use Rattle.std.proofs.Common.{◌≤◌, length, Some, sym, ap, ◌∙◌, subst, arith}
use Rattle.cascade_ties.specs.declared.ties.Tie.{Tie}
use Rattle.cascade_ties.specs.declared.ties.Waiting.{Waiting}
use Rattle.cascade_ties.specs.Ties.{Ties, is_vacant, tie_of}
use Rattle.proxy_cascade.specs.Kept.{AreKept}
use Rattle.proxy_cascade.proofs.KeptLemmas.{kept-tie}
use Rattle.proxy_cascade.proofs.asking.make_tie.Goals as goal

pub returns-clause-kept : goal.returns-clause-kept
returns-clause-kept c =
    let octets = ap (λ (w : Waiting). length w.request) c.in_ok-waiting.ensures in
    let head : 24 ≤ length c.in_ok-waiting.waiting.request = omega (arith, octets, c.requires.head) in
    subst (λ (ts : Ties). AreKept ts.each) (sym c.in_ok-put.ensures.ok)
    (kept-tie c.args.ties.now (record { tie = c.new_tie-tie.result; waiting = Some c.in_ok-waiting.waiting }) (record {
      client = ap (λ (t : Tie). tie_of t.client c.args.ties.now.each) c.new_tie-tie.ensures ∙ c.requires.none;
      local = ap (λ (t : Tie). is_vacant c.args.ties.now t.client.protocol t.local) c.new_tie-tie.ensures ∙ c.requires.vacant;
    }) c.requires.fewer head c.requires.kept)
