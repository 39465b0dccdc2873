use Rattle.std.proofs.Common.{List, ℕ, take, Option, Some, ap, ◌∙◌}
use Rattle.pcp_io.specs.declared.inboxes.InboxItem.{InboxItem}
use Rattle.pcp_io.specs.declared.inboxes.InboxItem.TheVariants as Items
use Rattle.pcp_io.specs.declared.inboxes.TheConstants.{LONGEST_DATAGRAM}
use Rattle.pcp_io.proofs.TakeLemmas.{front_of_room}
use Rattle.pcp_io.proofs.memory_inboxes.give_packet.Goals as goal

pub returns-clause-item : goal.returns-clause-item
returns-clause-item c =
    let given : List ℕ → Option InboxItem = λ octets. Some (Items.Packet (record {
      peer = c.args.datagram.now.peer;
      port = c.args.datagram.now.port;
      door = c.args.datagram.now.door;
      octets = octets;
    })) in
    ap given (front_of_room _ _ _ _ _ c.min-length.ensures c.copy_from_slice.ensures.after
    ∙ ap (take LONGEST_DATAGRAM) c.items-octets.ensures)
