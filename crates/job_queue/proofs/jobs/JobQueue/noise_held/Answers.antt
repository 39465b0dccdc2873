use Rattle.std.proofs.Common.{◌≡◌, ◌≤◌, ◌∙◌, ℕ, Bool, List, Option, count_by, ap, arith, rules, subst}
use Rattle.crossbeam_queue.specs.Passes.{view}
use Rattle.job_queue.specs.declared.jobs.Job.{Job}
use Rattle.job_queue.specs.declared.jobs.JobsRoute.{JobsRoute}
use Rattle.job_queue.specs.declared.jobs.JobsView.{JobsView}
use Rattle.job_queue.specs.declared.jobs.TheConstants.{MOST_JOBS}
use Rattle.job_queue.specs.Queues.{HeldNoise, IsLastOf, last_of}
use Rattle.job_queue.proofs.MarkLemmas.{held_noise}
use Rattle.job_queue.proofs.QueueSteps.{hears, learns_last}
use Rattle.job_queue.proofs.jobs.JobQueue.noise_held.Goals as goal

pub absorb-requires-clause-rule : goal.absorb-requires-clause-rule
absorb-requires-clause-rule g c = hears _ _ _ _

pub len_as-held-requires-clause-rule : goal.len_as-held-requires-clause-rule
len_as-held-requires-clause-rule g c = learns_last _ _ (search rules)

pub returns-clause-held : goal.returns-clause-held
returns-clause-held g c =
    let held : ℕ = c.len_as-held.result in
    let before : JobsView = view c.putter.inside.pass in
    let news : JobsView = view c.news.inside.pass in
    let items : List Job = c.len_as-held.ensures.rule.1.0 in
    let last : IsLastOf news.told_taken items before.put =
    subst (λ (v : JobsView). IsLastOf v.told_taken items v.put) c.absorb.ensures.rule c.len_as-held.ensures.rule.1.2 in
    let few : held ≤ MOST_JOBS = omega (arith, c.len_as-held.ensures.rule.0, c.self.invariant) in
    let counted = c.count_last.ensures ∙ ap (λ (m : List Bool). count_by (λ (b : Bool). b) (last_of held m)) c.putter.invariant.2 in
    let here : HeldNoise news.told_taken before.route before.put c.count_last.result =
    held_noise news.told_taken before.route before.put items held c.count_last.result c.len_as-held.ensures.rule.1.1 few last counted in
    let same_taken : news.told_taken ≡ c.args.news.taken = search rules in
    let same_route : before.route ≡ c.args.putter.now.route = search rules in
    let same_put : before.put ≡ c.args.putter.now.put = search rules in
    subst (λ (l : List Job). HeldNoise l c.args.putter.now.route c.args.putter.now.put c.count_last.result) same_taken
    (subst (λ (r : Option JobsRoute). HeldNoise news.told_taken r c.args.putter.now.put c.count_last.result) same_route
    (subst (λ (p : List Job). HeldNoise news.told_taken before.route p c.count_last.result) same_put here))
