-- A reply that grants is read as it was written.
use Rattle.std.specs.Int.{to_be_bytes, w16}
use Rattle.std.specs.List.{AllByRecursion}
use Rattle.std.specs.Prelude.{count_by, map, replicate}
use Rattle.std.proofs.Common.{◌≡◌, ◌∙◌, ℕ, ◌/◌, ◌%◌, ◌^◌, ◌<◌, ◌≤◌, ◌&&◌, nat_le, Bool, true, cond, List, [], ◌∷◌, ◌++◌, length, Option, Some, None, refl, ap, subst, arith}
use Rattle.std.proofs.lemmas.Bool.{and_parts, leb-true}
use Rattle.pcp_base.specs.declared.addresses.Address.{Address}
use Rattle.pcp_base.specs.declared.asks.Answer.TheVariants.{Mapped, Peered}
use Rattle.pcp_base.specs.declared.asks.Ask.{Ask}
use Rattle.pcp_base.specs.declared.asks.PortSet as Sets
use Rattle.pcp_base.specs.declared.configs.Config.{Config}
use Rattle.pcp_codec.specs.declared.requests.Body.{Body}
use Rattle.pcp_codec.specs.declared.requests.Body.TheVariants.{Announce, Map, Peer}
use Rattle.pcp_codec.specs.declared.requests.Common.{Common}
use Rattle.pcp_codec.specs.Replies.{head}
use Rattle.pcp_codec.specs.Requests.{body_of}
use Rattle.pcp_options.specs.declared.options.Item.{Item}
use Rattle.pcp_options.specs.declared.options.Item.TheVariants.{ThirdParty, PreferFailure, Filter, PortSet}
use Rattle.pcp_options.specs.declared.verdicts.Verdict.TheVariants.{Asked}
use Rattle.pcp_options.specs.Asking.{third_of}
use Rattle.pcp_options.specs.Options.{option_of, option_text, options_text}
use Rattle.pcp_options.specs.ReadingLaws.{success_read}
use Rattle.pcp_options.specs.ReadResponses.{are_single, is_mapped, is_preference, is_set, is_third}
use Rattle.pcp_options.specs.Replies.{assigned, body_text, common_text, opcode_of_body, remote_text, reply_text, success_text, told_items}
use Rattle.pcp_options.specs.Responses.{AreOctets, FitsAnswer, FitsBody, FitsItem, FitsSet}
use Rattle.pcp_options.specs.Verdicts.{verdict_of}
use Rattle.pcp_options.proofs.ReplyLaws.{reply-is}
use Rattle.pcp_options.proofs.WrittenLaws.{written-read}
use Rattle.option_laws.specs.Grants.{MapGrantsAreRead, PeerGrantsAreRead, TellsGrant}
use Rattle.option_laws.proofs.AskedLemmas.{asks-of-requests, bit, count-cons, few-single}
use Rattle.option_laws.proofs.FitLemmas.{requests-fit}

-- ---- numbers of 16 bits

cut-bytes : (n : ℕ) → to_be_bytes w16 (n % 2 ^ 16) ≡ to_be_bytes w16 n
cut-bytes n =
    let high : n % 2 ^ 16 / 256 % 256 ≡ n / 256 % 256 = omega arith in
    let low : n % 2 ^ 16 % 256 ≡ n % 256 = omega arith in
    ap (λ h. h ∷ (n % 2 ^ 16 % 256) ∷ []) high ∙ ap (λ l. (n / 256 % 256) ∷ l ∷ []) low

abbrev cut_set : Sets.PortSet → Sets.PortSet
cut_set s = record { size = s.size % 2 ^ 16; first = s.first % 2 ^ 16; parity = s.parity }

abbrev cut_told : Option Sets.PortSet → Option Sets.PortSet
cut_told None = None
cut_told (Some s) = Some (cut_set s)

cut-fits : (set : Option Sets.PortSet) → FitsSet (cut_told set)
cut-fits None = tt
cut-fits (Some s) = (omega arith, omega arith)

-- a set is written as its cut one
cut-option : (s : Sets.PortSet) → option_text (option_of (PortSet (cut_set s))) ≡ option_text (option_of (PortSet s))
cut-option s =
    let bit : List ℕ = cond {A = ℕ} s.parity 1 0 ∷ [] in
    ap (λ (x : List ℕ). option_text (record { code = 130; content = x }))
    (ap (λ (x : List ℕ). x ++ to_be_bytes w16 (s.first % 2 ^ 16) ++ bit) (cut-bytes s.size)
    ∙ ap (λ (x : List ℕ). to_be_bytes w16 s.size ++ x ++ bit) (cut-bytes s.first))

cut-items : (set : Option Sets.PortSet) (items : List Item)
    → options_text (map option_of (told_items (cut_told set) items)) ≡ options_text (map option_of (told_items set items))
cut-items set [] = refl
cut-items set (ThirdParty a ∷ items) = ap (λ (x : List ℕ). option_text (option_of (ThirdParty a)) ++ x) (cut-items set items)
cut-items set (PreferFailure ∷ items) = ap (λ (x : List ℕ). option_text (option_of PreferFailure) ++ x) (cut-items set items)
cut-items set (Filter f ∷ items) = ap (λ (x : List ℕ). option_text (option_of (Filter f)) ++ x) (cut-items set items)
cut-items None (PortSet s ∷ items) = cut-items None items
cut-items (Some t) (PortSet s ∷ items) =
    ap (λ (x : List ℕ). x ++ options_text (map option_of (told_items (Some (cut_set t)) items))) (cut-option t)
    ∙ ap (λ (x : List ℕ). option_text (option_of (PortSet t)) ++ x) (cut-items (Some t) items)

cut-common : (c : Common) (external : ℕ) (address : Address)
    → common_text (record c { external = external % 2 ^ 16; address = address }) ≡ common_text (record c { external = external; address = address })
cut-common c external address =
    ap (λ (x : List ℕ). c.nonce.0 ++ c.protocol ∷ 0 ∷ 0 ∷ 0 ∷ to_be_bytes w16 c.internal ++ x ++ address.0) (cut-bytes external)

cut-body : (body : Body) (external : ℕ) (address : Address)
    → body_text (assigned body (external % 2 ^ 16) address) ≡ body_text (assigned body external address)
cut-body Announce external address = refl
cut-body (Map c) external address = cut-common c external address
cut-body (Peer c port remote) external address =
    ap (λ (x : List ℕ). x ++ remote_text port remote) (cut-common c external address)

same-opcode : (body : Body) (a b : ℕ) (address : Address) → opcode_of_body (assigned body a address) ≡ opcode_of_body (assigned body b address)
same-opcode Announce a b address = refl
same-opcode (Map c) a b address = refl
same-opcode (Peer c port remote) a b address = refl

-- so is the whole reply
abbrev with_head : ℕ → ℕ → ℕ → List ℕ → List ℕ → List ℕ
with_head opcode lifetime epoch fields options = head opcode 0 lifetime epoch (replicate 12 0) ++ fields ++ options

cut-text : (body : Body) (lifetime epoch external : ℕ) (address : Address) (set : Option Sets.PortSet) (items : List Item)
    → success_text lifetime epoch (assigned body (external % 2 ^ 16) address) (told_items (cut_told set) items)
    ≡ success_text lifetime epoch (assigned body external address) (told_items set items)
cut-text body lifetime epoch external address set items =
    let fields = body_text (assigned body (external % 2 ^ 16) address) in
    let options = options_text (map option_of (told_items (cut_told set) items)) in
    ap (λ n. with_head n lifetime epoch fields options) (same-opcode body (external % 2 ^ 16) external address)
    ∙ ap (λ x. with_head (opcode_of_body (assigned body external address)) lifetime epoch x options) (cut-body body external address)
    ∙ ap (λ x. with_head (opcode_of_body (assigned body external address)) lifetime epoch (body_text (assigned body external address)) x) (cut-items set items)

-- ---- what is written fits

fits-assigned : (body : Body) (external : ℕ) (address : Address) → FitsBody body → length address.0 ≡ 16
    → FitsBody (assigned body (external % 2 ^ 16) address)
fits-assigned Announce external address h a = tt
fits-assigned (Map c) external address h a = (h.0, a, h.2, omega arith)
fits-assigned (Peer c port remote) external address h a = ((h.0.0, a, h.0.2, omega arith), h.1, h.2)

mapped-assigned : (body : Body) (external : ℕ) (address : Address) → is_mapped body ≡ true → is_mapped (assigned body external address) ≡ true
mapped-assigned Announce external address h = refl
mapped-assigned (Map c) external address h = h
mapped-assigned (Peer c port remote) external address h = h

fits-told : (set : Option Sets.PortSet) (items : List Item) → FitsSet set → AllByRecursion FitsItem items → AllByRecursion FitsItem (told_items set items)
fits-told set [] f h = tt
fits-told set (ThirdParty a ∷ items) f h = (h.0, fits-told set items f h.1)
fits-told set (PreferFailure ∷ items) f h = (h.0, fits-told set items f h.1)
fits-told set (Filter x ∷ items) f h = (h.0, fits-told set items f h.1)
fits-told None (PortSet s ∷ items) f h = fits-told None items f h.1
fits-told (Some t) (PortSet s ∷ items) f h = (f, fits-told (Some t) items f h.1)

told-count : (p : Item → Bool) → ((s t : Sets.PortSet) → p (PortSet s) ≡ p (PortSet t)) → (set : Option Sets.PortSet) (items : List Item)
    → count_by p (told_items set items) ≤ count_by p items
told-count p same set [] = omega arith
told-count p same set (ThirdParty a ∷ items) =
    let e = count-cons p (ThirdParty a) (told_items set items) in
    let f = count-cons p (ThirdParty a) items in
    let more = told-count p same set items in
    omega (arith, e, f, more)
told-count p same set (PreferFailure ∷ items) =
    let e = count-cons p PreferFailure (told_items set items) in
    let f = count-cons p PreferFailure items in
    let more = told-count p same set items in
    omega (arith, e, f, more)
told-count p same set (Filter x ∷ items) =
    let e = count-cons p (Filter x) (told_items set items) in
    let f = count-cons p (Filter x) items in
    let more = told-count p same set items in
    omega (arith, e, f, more)
told-count p same None (PortSet s ∷ items) =
    let f = count-cons p (PortSet s) items in
    let more = told-count p same None items in
    omega (arith, f, more)
told-count p same (Some t) (PortSet s ∷ items) =
    let e = count-cons p (PortSet t) (told_items (Some t) items) in
    let f = count-cons p (PortSet s) items in
    let one : bit (p (PortSet t)) ≡ bit (p (PortSet s)) = ap bit (same t s) in
    let more = told-count p same (Some t) items in
    omega (arith, e, f, one, more)

told-single : (set : Option Sets.PortSet) (items : List Item) → are_single items ≡ true → are_single (told_items set items) ≡ true
told-single set items h =
    let parts = and_parts (nat_le (count_by is_third items) 1 && nat_le (count_by is_preference items) 1) (nat_le (count_by is_set items) 1) h in
    let first = and_parts (nat_le (count_by is_third items) 1) (nat_le (count_by is_preference items) 1) parts.0 in
    let a = leb-true (count_by is_third items) 1 first.0 in
    let b = leb-true (count_by is_preference items) 1 first.1 in
    let c = leb-true (count_by is_set items) 1 parts.1 in
    let x = told-count is_third (λ s t. refl) set items in
    let y = told-count is_preference (λ s t. refl) set items in
    let z = told-count is_set (λ s t. refl) set items in
    few-single (told_items set items) (omega (arith, a, x)) (omega (arith, b, y)) (omega (arith, c, z))

told-third : (set : Option Sets.PortSet) (items : List Item) → third_of (told_items set items) ≡ third_of items
told-third set [] = refl
told-third set (ThirdParty a ∷ items) = refl
told-third set (PreferFailure ∷ items) = told-third set items
told-third set (Filter f ∷ items) = told-third set items
told-third None (PortSet s ∷ items) = told-third None items
told-third (Some t) (PortSet s ∷ items) = told-third (Some t) items

-- ---- and is read

module _ (config : Config) (source : Address) (message : List ℕ) (place : ℕ) (ask : Ask) (items : List Item) (octets : AreOctets message) (judged : verdict_of config source message ≡ Asked place ask items) (lifetime external epoch : ℕ) (address : Address) (some : lifetime < 2 ^ 32) (later : epoch < 2 ^ 32) (long : length address.0 ≡ 16) where
  abbrev cut_text : Option Sets.PortSet → List ℕ
  cut_text set = success_text lifetime epoch (assigned (body_of message) (external % 2 ^ 16) address) (told_items set items)

  tells : (set : Option Sets.PortSet) → FitsSet set → length (cut_text set) ≤ 1100 → TellsGrant message items lifetime external address (cut_text set)
  tells set fits most =
      let so = asks-of-requests config source message place ask items judged in
      let fit = requests-fit config source message place ask items octets judged in
      let body = assigned (body_of message) (external % 2 ^ 16) address in
      record {
        response = success_read (opcode_of_body body) lifetime epoch body (told_items set items);
        read = written-read lifetime epoch body (told_items set items) some later (fits-assigned (body_of message) external address fit.body long)
            (fits-told set items fits fit.options) (mapped-assigned (body_of message) (external % 2 ^ 16) address so.mapped) (told-single set items so.single) most;
        success = refl;
        lifetime_is = refl;
        body = refl;
        third = told-third set items;
      }

  pub map-tells : (set : Option Sets.PortSet) → TellsGrant message items lifetime external address (reply_text message items (Mapped lifetime external address set) epoch)
  map-tells set =
      let fits : FitsAnswer (Mapped lifetime (external % 2 ^ 16) address (cut_told set)) = (some, omega arith, long, cut-fits set) in
      let is = reply-is message ask items (Mapped lifetime (external % 2 ^ 16) address (cut_told set)) epoch octets (config, source, place, judged) fits later in
      subst (TellsGrant message items lifetime external address) (cut-text (body_of message) lifetime epoch external address set items)
      (tells (cut_told set) (cut-fits set) is.most)

  pub peer-tells : TellsGrant message items lifetime external address (reply_text message items (Peered lifetime external address) epoch)
  peer-tells =
      let fits : FitsAnswer (Peered lifetime (external % 2 ^ 16) address) = (some, omega arith, long) in
      let is = reply-is message ask items (Peered lifetime (external % 2 ^ 16) address) epoch octets (config, source, place, judged) fits later in
      subst (TellsGrant message items lifetime external address) (cut-text (body_of message) lifetime epoch external address None items)
      (tells None tt is.most)

pub map-grants-read : MapGrantsAreRead
map-grants-read config source message place ask items lifetime external address set epoch octets judged some later long =
    map-tells config source message place ask items octets judged lifetime external epoch address some later long set

pub peer-grants-read : PeerGrantsAreRead
peer-grants-read config source message place ask items lifetime external address epoch octets judged some later long =
    peer-tells config source message place ask items octets judged lifetime external epoch address some later long
