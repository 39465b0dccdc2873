use Rattle.std.proofs.Common.{Ok, ap, ◌∙◌}
use Rattle.std.specs.Prelude.{⊤}
use Rattle.std.specs.BTreeMap.{get}
use Rattle.pcp_base.specs.declared.errors.Memory.{Memory}
use Rattle.peer_table.specs.Kept.{key_cmp, opening_cmp}
use Rattle.peer_table.proofs.PeerKeeping.{opening_is_free, peer_appended, peer_not_put, peers_stay}
use Rattle.peer_table.proofs.Past.{appended_apart, stay_apart}
use Rattle.peer_table.proofs.changes.append.Goals as goal

pub append-requires-clause-step : goal.append-requires-clause-step
append-requires-clause-step g c = c.requires.kept.kept.step

pub append-requires-clause-key : goal.append-requires-clause-key
append-requires-clause-key g c = ap (get key_cmp c.args.kept.now.keys) c.key_of.ensures ∙ c.requires.free

pub append-requires-clause-port : goal.append-requires-clause-port
append-requires-clause-port g c =
    ap (get opening_cmp c.args.kept.now.ports) c.opening_of.ensures ∙ opening_is_free c.args.kept.now c.requires.kept c.args.lease c.requires.sound c.requires.free

pub returns-clause-kept : goal.returns-clause-kept
returns-clause-kept g c =
    (peer_appended c.args.kept.now c.requires.kept c.args.lease c.requires.sound {X = ⊤} {E = Memory} c.append.new.self (Ok tt)
    c.key_of.result c.opening_of.result c.key_of.ensures c.opening_of.ensures c.requires.free (c.in_ok-append.field-0, c.in_ok-append.ensures.ok) tt).0

pub returns-clause-put : goal.returns-clause-put
returns-clause-put g c =
    (peer_appended c.args.kept.now c.requires.kept c.args.lease c.requires.sound {X = ⊤} {E = Memory} c.append.new.self (Ok tt)
    c.key_of.result c.opening_of.result c.key_of.ensures c.opening_of.ensures c.requires.free (c.in_ok-append.field-0, c.in_ok-append.ensures.ok) tt).1

pub returns-in_err-append-clause-kept : goal.returns-in_err-append-clause-kept
returns-in_err-append-clause-kept g c = peers_stay c.args.kept.now c.requires.kept c.append.new.self c.in_err-append.ensures.err

pub returns-in_err-append-clause-put : goal.returns-in_err-append-clause-put
returns-in_err-append-clause-put g c =
    peer_not_put c.args.kept.now c.requires.kept c.append.new.self c.in_err-append.ensures.err c.args.lease c.from_residual.result c.from_residual.ensures.0

pub returns-clause-apart : goal.returns-clause-apart
returns-clause-apart g c = record {
  apart = appended_apart c.args.kept.now c.append.new.self c.args.lease c.key_of.result c.opening_of.result c.in_ok-append.field-0 c.in_ok-append.ensures.ok;
  err = tt;
}

pub returns-in_err-append-clause-apart : goal.returns-in_err-append-clause-apart
returns-in_err-append-clause-apart g c = stay_apart c.args.kept.now c.append.new.self c.from_residual.result c.in_err-append.ensures.err
