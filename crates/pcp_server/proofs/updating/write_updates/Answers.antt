use Rattle.std.proofs.Common.{rules, ◌≡◌, ◌∙◌, ◌+◌, ◌∷◌, ◌++◌, [], drop, flat_map, Err, refl, sym, ap, arith}
use Rattle.std.specs.Io.KnownBytes.{append_known}
use Rattle.std.proofs.lemmas.List.{drop_more}
use Rattle.pcp_base.specs.declared.datagrams.Datagram.{Datagram}
use Rattle.pcp_io.proofs.KnownOctets.{append_known-append}
use Rattle.pcp_script.specs.Results.{reply_line}
use Rattle.pcp_server.proofs.UpdateLemmas.{all-behind, append_known-nil, one-more, reply_line-some, untold-behind}
use Rattle.pcp_server.proofs.updating.write_updates.Goals as goal

pub loop-update-init : goal.loop-update-init
loop-update-init g c = record {
  written = ([], sym (append_known-nil (g.W.Sink.held c.args.out.now)), refl);
  later = omega arith;
}

pub loop-update-preserved : goal.loop-update-preserved
loop-update-preserved g c =
    let inv = c.loop-update.invariant in
    let i = c.loop-update.update-index in
    let updates = c.args.updates.now in
    let update = c.update-item.result in
    let w = inv.written.0 in
    let rest : drop i updates ≡ update ∷ drop (i + 1) updates = drop_more updates i update c.loop-update-test.true ∙ ap (λ (x : Datagram). x ∷ drop (i + 1) updates) (sym c.update-item.is) in
    record {
      written = (
        w ++ reply_line update,
        c.in_ok-tell_update.ensures.ok ∙ ap (λ k. append_known k (reply_line update)) inv.written.1 ∙ append_known-append (g.W.Sink.held c.args.out.now) w (reply_line update),
        one-more reply_line w (drop i updates) (drop (i + 1) updates) update (flat_map reply_line updates) rest inv.written.2,
      );
      later = (let a = inv.later in let b = c.in_ok-tell_update.ensures.later in omega (arith, a, b));
    }

pub returns-in_err-tell_update-clause-err : goal.returns-in_err-tell_update-clause-err
returns-in_err-tell_update-clause-err g c =
    let inv = c.loop-update.invariant in
    let i = c.loop-update.update-index in
    let updates = c.args.updates.now in
    let update = c.update-item.result in
    let rest : drop i updates ≡ update ∷ drop (i + 1) updates = drop_more updates i update c.loop-update-test.true ∙ ap (λ (x : Datagram). x ∷ drop (i + 1) updates) (sym c.update-item.is) in
    let told : c.from_residual.result ≡ Err c.in_err-tell_update.field-0.0 = search rules in
    rw told (untold-behind inv.written.0 (reply_line update) (flat_map reply_line (drop (i + 1) updates)) (flat_map reply_line updates) (reply_line-some update) (g.W.Sink.held c.args.out.now) (g.W.Sink.held c.loop-update.out) (g.W.Sink.held c.tell_update.new.out)
    c.in_err-tell_update.field-0.0 inv.written.1 (all-behind reply_line inv.written.0 (drop i updates) (drop (i + 1) updates) update (flat_map reply_line updates) rest inv.written.2) c.in_err-tell_update.ensures.err)
