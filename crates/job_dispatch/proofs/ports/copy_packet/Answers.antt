use Rattle.std.proofs.Common.{◌≡◌, refl, sym, ap, ◌∙◌}
use Rattle.pcp_base.specs.declared.datagrams.Datagram.{Datagram}
use Rattle.pcp_io.specs.declared.inboxes.InboxItem.TheVariants as Items
use Rattle.job_queue.specs.declared.jobs.Job.TheVariants as Jobs
use Rattle.lease_histories.specs.Routes.{route_of}
use Rattle.job_queue.specs.Noise.{is_noise}
use Rattle.job_dispatch.specs.Dispatches.{IsJobOf, came, is_noise_for}
use Rattle.job_dispatch.proofs.DispatchLemmas.{fate_offered, fate_starved}
use Rattle.job_dispatch.proofs.ports.copy_packet.Goals as goal

pub offer_at-requires-clause-job : goal.offer_at-requires-clause-job
offer_at-requires-clause-job g c =
    ap (λ (d : Datagram). route_of c.args.config.now d) c.in-Ok.ensures ∙ sym c.requires.place

pub offer_at-requires-clause-noise : goal.offer_at-requires-clause-noise
offer_at-requires-clause-noise g c =
    c.requires.noise ∙ sym (ap (λ (d : Datagram). is_noise c.args.config.now d) c.in-Ok.ensures)

pub returns : goal.returns
returns g c =
    let d : Datagram = came c.args.peer c.args.port c.args.door c.args.octets.now in
    let is : IsJobOf c.args.config.now (Items.Packet d) c.args.sifted.place (Jobs.Packet c.in-Ok.datagram) = (ap Jobs.Packet c.in-Ok.ensures, c.requires.place) in
    let mark : c.args.sifted.is_noise ≡ is_noise_for c.args.config.now c.args.sifted.place (Jobs.Packet c.in-Ok.datagram) =
    c.requires.noise ∙ sym (ap (λ (x : Datagram). is_noise c.args.config.now x) c.in-Ok.ensures) in
    fate_offered c.args.config.now d c.args.sifted.is_noise c.args.sifted.place (Jobs.Packet c.in-Ok.datagram) _ _ _ _ is mark c.requires.room c.offer_at.ensures

pub returns-in_default : goal.returns-in_default
returns-in_default g c = fate_starved c.args.config.now (came c.args.peer c.args.port c.args.door c.args.octets.now) _ _ _ c.count_starved.ensures
