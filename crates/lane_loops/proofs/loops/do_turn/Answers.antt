use Rattle.std.proofs.Common.{◌≡◌, List, Option, ap, ◌∙◌, inr, rules}
use Rattle.pcp_base.specs.declared.leases.Endpoint.{Endpoint}
use Rattle.pcp_io.specs.Asks.{answers_with}
use Rattle.lane_loops.specs.LaneRuns.{LaneQuestion}
use Rattle.lane_loops.proofs.LaneLemmas.{LooksUp-of, risen_after}
use Rattle.lane_loops.proofs.loops.do_turn.Goals as goal

pub returns-then-is_err : goal.returns-then-is_err
returns-then-is_err g c =
    let q : LaneQuestion = record {
      protocol = c.in-Look.protocol;
      port = c.in-Look.port;
      remote = c.in-Look.remote;
      remote_port = c.in-Look.remote_port;
    } in
    inr (inr (record {
      question = q;
      owner = c.look-owner.result;
      looked = LooksUp-of q c.look-owner.result _ _ (g.L.LaneLink.asks c.ask.new.self) _ _ _ c.in-Ok.ensures.asks c.in-Look.is c.answer.ensures.asks c.now.ensures.time c.moment_of-m.ensures
          (record {
            index = c.look-owner.ensures.index;
            known = c.look-owner.ensures.known;
            owner_is = c.look-owner.ensures.owner;
          });
      fault = risen_after _ _ _ c.ask.ensures.cause.later (c.answer.ensures.cause.failed (search rules));
      answers =
          let same : g.L.LaneLink.answers c.answer.new.self ≡ g.L.LaneLink.answers c.ask.new.self = search rules in
          same ∙ c.ask.ensures.answers;
    }))

pub returns-else-is_err : goal.returns-else-is_err
returns-else-is_err g c =
    let q : LaneQuestion = record {
      protocol = c.in-Look.protocol;
      port = c.in-Look.port;
      remote = c.in-Look.remote;
      remote_port = c.in-Look.remote_port;
    } in (
      q,
      c.look-owner.result,
      record {
        looked = LooksUp-of q c.look-owner.result _ _ (g.L.LaneLink.asks c.ask.new.self) _ _ _ c.in-Ok.ensures.asks c.in-Look.is c.answer.ensures.asks c.now.ensures.time c.moment_of-m.ensures
            (record {
              index = c.look-owner.ensures.index;
              known = c.look-owner.ensures.known;
              owner_is = c.look-owner.ensures.owner;
            });
        taken =
            let told : g.L.LaneLink.answers c.answer.new.self ≡ answers_with (g.L.LaneLink.answers c.ask.new.self) c.look-owner.result = search rules in
            told ∙ ap (λ (a : Option (List (Option Endpoint))). answers_with a c.look-owner.result) c.ask.ensures.answers;
      },
    )
