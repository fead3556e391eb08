-- Responses as bytes, and a conversation of requests and responses.
-- RFC 9112, section 4, and RFC 9110, section 15.
use Rattle.std.specs.Prelude.{◌≡◌, ℕ, Bool, true, false, List, [], ◌∷◌, ◌++◌, length, Option, Some, None, if◌then◌else◌}
use Rattle.std.specs.Prelude.{◌==◌, codes, decimal, string_bytes}
use Rattle.ns_types.specs.declared.reply.HeadFault.{HeadFault}
use Rattle.ns_types.specs.declared.reply.HeadFault.TheVariants.{BadHead, NeedLength, TooLarge}
use Rattle.ns_types.specs.declared.refusal.Refusal.{Refusal}
use Rattle.ns_types.specs.declared.reply.Rendered.{Rendered}
use Rattle.ns_types.specs.declared.reply.Response.{Response}
use Rattle.ns_types.specs.Wire.Refused.{refused}
use Rattle.ns_types.specs.Wire.Http.{Asked, asked_by, Received, Whole, Refused, is_last}

-- Neither the headline nor the wire rests on this: contracts of the code that renders use it.
-- the status, the index and the body with which a response is sent
abbrev pub rendered_of : {A : Type 0} → Response A → Rendered
rendered_of (Response.Done index body) = record { status = 200; index = index; body = string_bytes body }
rendered_of (Response.Refused refusal) = refused refusal

abbrev pub fault_refusal : HeadFault → Refusal
fault_refusal BadHead = Refusal.BadHead
fault_refusal NeedLength = Refusal.NeedLength
fault_refusal TooLarge = Refusal.TooLarge

abbrev pub refusal_of : HeadFault → Rendered
refusal_of fault = refused (fault_refusal fault)

abbrev pub phrase : ℕ → List ℕ
phrase status =
    if status == 200 then codes "OK" else
    if status == 400 then codes "Bad Request" else
    if status == 403 then codes "Forbidden" else
    if status == 404 then codes "Not Found" else
    if status == 405 then codes "Method Not Allowed" else
    if status == 409 then codes "Conflict" else
    if status == 411 then codes "Length Required" else
    if status == 413 then codes "Content Too Large" else
    if status == 501 then codes "Not Implemented" else
    if status == 503 then codes "Service Unavailable" else []

abbrev pub content_type : ℕ → List ℕ
content_type status = if status == 200 then codes "application/json" else codes "text/plain; charset=utf-8"

abbrev pub index_line : Option ℕ → List ℕ
index_line None = []
index_line (Some index) = codes "\r\nX-Nomad-Index: " ++ decimal index

abbrev pub close_line : Bool → List ℕ
close_line false = []
close_line true = codes "\r\nConnection: close"

-- the head of a response, by its status, its index, the length of its body and whether the connection closes
unfoldable pub response_head : ℕ → Option ℕ → ℕ → Bool → List ℕ
response_head status index len close =
    codes "HTTP/1.1 " ++ decimal status ++ codes " " ++ phrase status
    ++ codes "\r\nContent-Type: " ++ content_type status
    ++ index_line index
    ++ codes "\r\nContent-Length: " ++ decimal len
    ++ close_line close
    ++ codes "\r\n\r\n"

-- the bytes of a response
abbrev pub wire : Rendered → Bool → List ℕ
wire r close = response_head r.status r.index (length r.body) close ++ r.body

-- each request with its reply
abbrev pub Exchange : Type 0
Exchange = Received × Rendered

-- the bytes of the replies, in order
abbrev pub wires : List Exchange → List ℕ
wires [] = []
wires (x ∷ exchanges) = wire x.1 (is_last x.0) ++ wires exchanges

-- the handler answers the whole requests one after the other, and the engine answers those that are refused by their head
abbrev pub Answers : {S : Type 0} → (S → Asked → Rendered → S → Type 0) → S → List Exchange → S → Type 0
Answers answers old [] new = new ≡ old
Answers {S} answers old ((Whole m, reply) ∷ exchanges) new =
    (next : S) × answers old (asked_by m) reply next × Answers answers next exchanges new
Answers answers old ((Refused fault, reply) ∷ exchanges) new =
    (reply ≡ refusal_of fault) × Answers answers old exchanges new
