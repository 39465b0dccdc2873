use Rattle.std.proofs.Common.{rules, ◌≡◌, ◌∙◌, Some, None, refl, sym, inl}
use Rattle.server_commands.specs.declared.statuses.Status.TheVariants as Statuses
use Rattle.pcp_server.specs.Outsides.{disks_by}
use Rattle.serve_runs.proofs.AnswerLemmas.{answers-by-cause, by-cause}
use Rattle.serve_runs.proofs.running.run_serve.Goals as goal

pub returns-in-None-clause-words : goal.returns-in-None-clause-words
returns-in-None-clause-words g c =
    let at : c.serve_of.result ≡ None = search rules in
    (λ is plan words. let bad : None ≡ Some plan = sym at ∙ c.serve_of.ensures.only plan words in cc, λ none. refl)

pub returns-in-None-clause-serve : goal.returns-in-None-clause-serve
returns-in-None-clause-serve g c plan words =
    let at : c.serve_of.result ≡ None = search rules in
    absurd (let bad : None ≡ Some plan = sym at ∙ c.serve_of.ensures.only plan words in cc)

pub returns-in-None-clause-no_items : goal.returns-in-None-clause-no_items
returns-in-None-clause-no_items g c shard is = inl refl

pub returns-in-None-clause-causes : goal.returns-in-None-clause-causes
returns-in-None-clause-causes g c =
    let means = disks_by g.D.LeaseDisk.tells g.D.LeaseDisk.seen g.D.LeaseDisk.moment g.D.LeaseDisk.left_since g.D.LeaseDisk.may_leave g.D.LeaseDisk.faults in
    let at : c.serve_of.result ≡ None = search rules in
    by-cause means g.D.LeaseDisk.lost _ _ _ _ _ _ _ Statuses.WordsRefused
    (λ plan words. let bad : None ≡ Some plan = sym at ∙ c.serve_of.ensures.only plan words in cc)

pub returns-in-Some-clause-causes : goal.returns-in-Some-clause-causes
returns-in-Some-clause-causes g c =
    let means = disks_by g.D.LeaseDisk.tells g.D.LeaseDisk.seen g.D.LeaseDisk.moment g.D.LeaseDisk.left_since g.D.LeaseDisk.may_leave g.D.LeaseDisk.faults in
    answers-by-cause means g.D.LeaseDisk.lost _ _ _ _ _ _ _ c.serve_by.result.0 c.serve_by.ensures.serve
    c.serve_by.ensures.words c.serve_by.ensures.read_fault c.serve_by.ensures.write_fault
    c.serve_by.ensures.disk_fault c.serve_by.ensures.no_items
