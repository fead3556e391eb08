-- Laws of requests as bytes: how long their heads may be, what is read of them, and which one is the last.
use Rattle.std.specs.Prelude.{◌≡◌, ◌≢◌, ◌↔◌, ℕ, ◌≤◌, Bool, true, List, [], ◌∷◌, ◌++◌, Option, Some, None, codes, length, take}
use Rattle.httparse.specs.Grammar.{HasNoRequest, IsRequestHead, MayBecomeRequest, RequestHead, print_request}
use Rattle.ns_types.specs.declared.reply.HeadFault.{HeadFault}
use Rattle.ns_types.specs.Wire.Http.{Clean, Closed, End, IsHead, IsMessage, IsPartial, Message, Partial, Received, Refused}
use Rattle.ns_types.specs.Wire.Http.{RefusesHead, Requests, Takes, Whole, asked_by, is_last, print_message}

-- A well-formed head is taken exactly if it has at most 16,384 bytes and at most 64 headers.
abbrev pub HeadLimits : Type 0
HeadLimits = (h : RequestHead) → IsRequestHead h
    → IsHead h ↔ (length (print_request h) ≤ 16384) × (length h.fields ≤ 64)

-- A head that has not ended after 16,384 bytes, and still might, is refused as too large.
abbrev pub LongHeadsAreRefused : Type 0
LongHeadsAreRefused = (bytes : List ℕ) → 16384 ≤ length bytes → HasNoRequest (take 16384 bytes)
    → MayBecomeRequest (take 16384 bytes) → RefusesHead bytes HeadFault.TooLarge

-- the bytes are one request, and then this end; a handler sees this method, target, token and body
pub record IsReadAs (bytes : List ℕ) (end : End) (method target : List ℕ) (token : Option (List ℕ)) (body : List ℕ) :
    Type 0 where
  pub message : Message
  pub one : Requests bytes (Whole message ∷ []) end
  pub asked : asked_by message ≡ record { method = method; target = target; token = token; body = body }

-- A request without a body, whose token has spaces around it; and one with a body of two bytes that closes its
-- connection, so that what follows is not read.
pub record AreReadSo : Type 0 where
  pub reads : IsReadAs (codes "GET /v1/jobs HTTP/1.1\r\nx-nomad-token:  root \r\n\r\n") Clean (codes "GET")
      (codes "/v1/jobs") (Some (codes "root")) []
  pub writes : IsReadAs (codes "PUT /v1/quota/qa HTTP/1.1\r\nContent-Length: 2\r\nConnection: Close\r\n\r\n{}GET /") Closed
      (codes "PUT") (codes "/v1/quota/qa") None (codes "{}")

-- ---- the requests of a connection, in order

-- the bytes of the whole requests
abbrev pub printed : List Received → List ℕ
printed [] = []
printed (Whole m ∷ received) = print_message m ++ printed received
printed (Refused fault ∷ received) = printed received

-- The bytes that are read are those of the whole requests, in order, and then the rest.
abbrev pub BytesAreTheRequests : Type 0
BytesAreTheRequests = (bytes rest : List ℕ) (received : List Received) (closed : Bool) → Takes bytes received closed rest
    → bytes ≡ printed received ++ rest

-- Each whole request has a head within the limits, and a body as long as its head says.
abbrev pub TakenAreMessages : Type 0
TakenAreMessages = (bytes rest : List ℕ) (before later : List Received) (m : Message) (closed : Bool)
    → Takes bytes (before ++ Whole m ∷ later) closed rest → IsMessage m

-- The rest begins with the head that is refused.
abbrev pub RefusedHeadIsLeft : Type 0
RefusedHeadIsLeft = (bytes rest : List ℕ) (before later : List Received) (fault : HeadFault) (closed : Bool)
    → Takes bytes (before ++ Refused fault ∷ later) closed rest → RefusesHead rest fault

-- After a request that closes its connection, or whose head is refused, none is read, and the connection is closed.
abbrev pub LastOneCloses : Type 0
LastOneCloses = (bytes rest : List ℕ) (before later : List Received) (x : Received) (closed : Bool)
    → Takes bytes (before ++ x ∷ later) closed rest → is_last x ≡ true → (later ≡ []) × (closed ≡ true)

-- If the connection is closed, its last request closes it, or has a head that is refused.
abbrev pub ClosedByTheLast : Type 0
ClosedByTheLast = (bytes rest : List ℕ) (received : List Received) → Takes bytes received true rest
    → (before : List Received) × (x : Received) × (received ≡ before ++ x ∷ []) × (is_last x ≡ true)

-- If the bytes end with a whole request, they are those of the requests, and nothing else.
abbrev pub CleanEndLeavesNothing : Type 0
CleanEndLeavesNothing = (bytes : List ℕ) (received : List Received) → Requests bytes received Clean → bytes ≡ printed received

-- If they end inside a request, a part of that is left, which is not empty.
abbrev pub PartialEndLeavesAPart : Type 0
PartialEndLeavesAPart = (bytes : List ℕ) (received : List Received) → Requests bytes received Partial
    → (rest : List ℕ) × (bytes ≡ printed received ++ rest) × IsPartial rest × (rest ≢ [])
