use Rattle.std.proofs.Common.{◌≡◌, ◌∙◌, ◌++◌, ap}
use Rattle.pcp_codec.specs.Requests.{body_of, frame_of}
use Rattle.pcp_options.specs.Requests.{request_with}
use Rattle.proxy_core.specs.Up.{up_body, up_items}
use Rattle.proxy_core.proofs.upstream.up_text.Goals as goal

pub returns : goal.returns
returns c =
    let own = c.args.own.now in
    let source = c.args.datagram.now.peer in
    let octets = c.args.datagram.now.octets in
    let lifetime : c.lifetime_in.result ≡ (frame_of octets).lifetime = c.lifetime_in.ensures ∙ ap (λ m. (frame_of m).lifetime) c.items-request.ensures in
    let body : c.up_body-body.result ≡ up_body c.args.key.now source (body_of octets) =
    c.up_body-body.ensures ∙ ap (up_body c.args.key.now source) (c.read_body.ensures ∙ ap body_of c.items-request.ensures) in
    let items : c.deref.result.now ≡ up_items source c.args.items.now = c.deref.ensures.value ∙ c.in_ok-options.ensures in
    c.of.ensures ∙ c.in_ok-write_request_with.ensures.ok
    ∙ ap (λ xs. xs ++ request_with own c.lifetime_in.result c.up_body-body.result c.deref.result.now) c.new-text.ensures.items
    ∙ ap (λ l. request_with own l c.up_body-body.result c.deref.result.now) lifetime
    ∙ ap (λ b. request_with own (frame_of octets).lifetime b c.deref.result.now) body
    ∙ ap (request_with own (frame_of octets).lifetime (up_body c.args.key.now source (body_of octets))) items
