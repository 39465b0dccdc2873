use Rattle.std.proofs.Common.{rules, ◌≡◌, ◌∙◌, ℕ, List, Some, ap, sym, subst, inl, inr}
use Rattle.pcp_config.specs.ConfigTexts.{IsConfigText}
use Rattle.pcp_io.specs.Faults.{HasRisen}
use Rattle.pcp_server.specs.Outsides.{disks_by}
use Rattle.play_rows.proofs.EmptyScripts.{done-unless, unrefused}
use Rattle.play_rows.proofs.in_memory.run_in_memory.Goals as goal

pub returns : goal.returns
returns g c start config words is none =
    let d = g.D.LeaseDisk in
    let disks = disks_by d.tells d.seen d.moment d.left_since d.may_leave d.faults in
    let text : c.in_ok-config.config.left ≡ c.args.config.items = search rules in
    let script : c.fail_at.new.self.left ≡ c.args.script.items = search rules in
    let no_reads : c.in_ok-config.config.calls.faults ≡ 0 = search rules in
    let no_lines : c.fail_at.new.self.calls.faults ≡ 0 = search rules in
    let no_writes : c.fail_at-2.new.self.calls.faults ≡ 0 = search rules in
    done-unless _ _ _ c.run_once-status.result.0
    (unrefused disks start (Some c.run_once-status.new.config.left) c.in_ok-config.config.left config
    (record { source = c.fail_at.new.self; left = Some c.fail_at.new.self.left })
    (record { source = c.run_once-status.new.input; left = Some c.run_once-status.new.input.left })
    (record { out = c.fail_at-2.new.self; held = Some c.fail_at-2.new.self.held; pairs = c.args.pairs.items })
    (record { out = c.run_once-status.new.out; held = Some c.run_once-status.new.out.held; pairs = c.run_once-status.result.1.items })
    c.run_once-status.result.0 (subst (λ (t : List ℕ). IsConfigText t config) (sym text) is) (ap Some (script ∙ none)) (c.run_once-status.ensures.play start words))
    (λ bad. elim (c.run_once-status.ensures.read_fault bad) [
      | inl risen ↦ inl (subst (λ (n : ℕ). HasRisen n c.run_once-status.new.config.calls.faults) no_reads risen)
      | inr risen ↦ inr (subst (λ (n : ℕ). HasRisen n c.run_once-status.new.input.calls.faults) no_lines risen)
    ])
    (λ bad. subst (λ (n : ℕ). HasRisen n c.run_once-status.new.out.calls.faults) no_writes (c.run_once-status.ensures.write_fault bad))
    (λ shard bad. c.run_once-status.ensures.disk_fault shard bad)
