-- Laws of the wire: where a request ends, when its connection closes, and the bytes of the response.
use Rattle.std.specs.Prelude.{◌≡◌, ◌≢◌, ◌↔◌, ◌⊎◌, ℕ, ◌+◌, ◌<◌, ◌≤◌, true, false, ◌||◌, List, [], ◌∷◌, ◌++◌, Some}
use Rattle.std.specs.Prelude.{None, Result, Ok, Err, All, IsTrue, codes, count_by, decimal, length}
use Rattle.std.specs.Int.{IsInRange}
use Rattle.std.specs.List.{AllZip}
use Rattle.std.specs.Str.Parse.{digits_value}
use Rattle.ns_types.specs.declared.refusal.Member.{Member}
use Rattle.ns_types.specs.declared.refusal.Refusal.{Refusal}
use Rattle.ns_types.specs.declared.reply.HeadFault.{HeadFault}
use Rattle.ns_types.specs.declared.reply.Rendered.{Rendered}
use Rattle.ns_types.specs.declared.step.Step.{Step}
use Rattle.ns_types.specs.State.Rows.{State, World}
use Rattle.ns_types.specs.Steps.{after, said}
use Rattle.ns_types.specs.Wire.Http.{Asked, Header, IsMessage, Message, Whole, Refused, asked_by, asks_close, body_len}
use Rattle.ns_types.specs.Wire.Http.{eq_ignore_case, is_last, lists_close, print_message, token_of}
use Rattle.ns_types.specs.Wire.Member.{member_name}
use Rattle.ns_types.specs.Wire.Refused.{refused}
use Rattle.ns_types.specs.Wire.Responses.{Answers, Exchange, refusal_of, wire, wires}

-- ---- the names of headers

-- the characters are the same, or one letter in upper and in lower case
abbrev pub IsSameLetter : ℕ → ℕ → Type 0
IsSameLetter a b = (a ≡ b) ⊎ ((IsInRange 65 90 a × (b ≡ a + 32)) ⊎ (IsInRange 65 90 b × (a ≡ b + 32)))

-- Two names of headers are the same exactly if they are, character by character, but for upper and lower case of the
-- letters A to Z.
abbrev pub HeaderNames : Type 0
HeaderNames = (a b : List ℕ) → IsTrue (eq_ignore_case a b) ↔ AllZip IsSameLetter a b

-- how many headers have that name, in upper or in lower case
abbrev pub count_named : List ℕ → List Header → ℕ
count_named name headers = count_by (λ h. eq_ignore_case h.0 name) headers

-- how many headers say how long the body is, and how many say that it is sent in another coding
abbrev pub lengths : List Header → ℕ
lengths headers = count_named (codes "Content-Length") headers

abbrev pub codings : List Header → ℕ
codings headers = count_named (codes "Transfer-Encoding") headers

-- ---- how long a body is

-- A request with neither a `Content-Length` nor a `Transfer-Encoding` has no body.
abbrev pub NoLengthNoBody : Type 0
NoLengthNoBody = (headers : List Header) → lengths headers ≡ 0 → codings headers ≡ 0 → body_len headers ≡ Ok 0

-- the value has 1 to 20 characters, each a digit
pub record IsNumber (value : List ℕ) : Type 0 where
  pub some : 1 ≤ length value
  pub few : length value ≤ 20
  pub digits : All (IsInRange 48 57) value

-- a number of at most 1,048,576 is the length of the body; a greater one is too large; and another value is a bad head
pub record IsLengthBy (value : List ℕ) (len : Result ℕ HeadFault) : Type 0 where
  pub fits : IsNumber value → digits_value 10 value ≤ 1048576 → len ≡ Ok (digits_value 10 value)
  pub large : IsNumber value → 1048576 < digits_value 10 value → len ≡ Err HeadFault.TooLarge
  pub bad : (¬ (IsNumber value)) → len ≡ Err HeadFault.BadHead

-- A request with one `Content-Length`, and no `Transfer-Encoding`, has a body of that length, if the value is a number of
-- at most 1,048,576 in 1 to 20 digits. A greater number is refused as too large, and another value as a bad head.
abbrev pub OneLengthCounts : Type 0
OneLengthCounts = (before after : List Header) (name value : List ℕ) → IsTrue (eq_ignore_case name (codes "Content-Length"))
    → lengths (before ++ (name, value) ∷ after) ≡ 1 → codings (before ++ (name, value) ∷ after) ≡ 0
    → IsLengthBy value (body_len (before ++ (name, value) ∷ after))

-- A request with two `Content-Length` is a bad head, even if they are the same.
abbrev pub TwoLengthsAreBad : Type 0
TwoLengthsAreBad = (headers : List Header) → 2 ≤ lengths headers → body_len headers ≡ Err HeadFault.BadHead

-- A `Transfer-Encoding` without a `Content-Length` needs a length, and beside one it is a bad head.
abbrev pub CodingsAreRefused : Type 0
CodingsAreRefused = (headers : List Header) → 1 ≤ codings headers
    → (lengths headers ≡ 0 → body_len headers ≡ Err HeadFault.NeedLength)
    × (1 ≤ lengths headers → body_len headers ≡ Err HeadFault.BadHead)

-- No request has a body of more than 1,048,576 bytes.
abbrev pub BodiesAreSmall : Type 0
BodiesAreSmall = (headers : List Header) (n : ℕ) → body_len headers ≡ Ok n → n ≤ 1048576

-- A request has at most 16,384 bytes before its body, 64 headers, and a body of 1,048,576 bytes.
abbrev pub MessagesAreSmall : Type 0
MessagesAreSmall = (m : Message) → IsMessage m → (length (print_message m) ≤ 16384 + length m.body)
    × (length m.head.fields ≤ 64) × (length m.body ≤ 1048576)

-- ---- the token

-- The token is the value of the first `X-Nomad-Token`; without one there is none.
abbrev pub FirstTokenCounts : Type 0
FirstTokenCounts = (before after : List Header) (name value : List ℕ) → count_named (codes "X-Nomad-Token") before ≡ 0
    → (IsTrue (eq_ignore_case name (codes "X-Nomad-Token")) → token_of (before ++ (name, value) ∷ after) ≡ Some value)
    × (token_of before ≡ None)

-- ---- when a connection closes

-- A request of HTTP/1.0 closes its connection. One of HTTP/1.1 closes it if a `Connection` lists `close`, and leaves it
-- open if none does.
abbrev pub ClosesByHead : Type 0
ClosesByHead = (headers before after : List Header) (name value : List ℕ) → (asks_close 0 headers ≡ true)
    × (All (λ h. IsTrue (eq_ignore_case h.0 (codes "Connection")) → lists_close h.1 ≡ false) headers
    → asks_close 1 headers ≡ false)
    × (IsTrue (eq_ignore_case name (codes "Connection")) → IsTrue (lists_close value)
    → asks_close 1 (before ++ (name, value) ∷ after) ≡ true)

-- A `Connection` that has words between commas, of which 44 is the code, lists `close` exactly if one of the words does.
abbrev pub CommasSeparate : Type 0
CommasSeparate = (first rest : List ℕ) → All (λ c. c ≢ 44) first
    → lists_close (first ++ 44 ∷ rest) ≡ (lists_close first || lists_close rest)

-- `close` is listed alone, or between commas, with spaces or tabs around it, in upper or in lower case; other words are
-- none.
pub record CloseIsListed : Type 0 where
  pub alone : lists_close (codes "close") ≡ true
  pub upper : lists_close (codes "Close") ≡ true
  pub later : lists_close (codes "keep-alive,CLOSE") ≡ true
  pub between : lists_close (codes "keep-alive , \tclose\t, upgrade") ≡ true
  pub other : lists_close (codes "keep-alive") ≡ false
  pub longer : lists_close (codes "closed") ≡ false
  pub within : lists_close (codes "keep close") ≡ false
  pub none : lists_close [] ≡ false

-- A request whose head is refused is the last one, as is one of HTTP/1.0.
abbrev pub LastRequests : Type 0
LastRequests = ((fault : HeadFault) → is_last (Refused fault) ≡ true)
    × ((m : Message) → m.head.minor ≡ 0 → is_last (Whole m) ≡ true)

-- ---- responses

-- a response that is a text: its status, the length of the text, whether the connection closes, and the text
abbrev pub text_response : List ℕ → List ℕ → List ℕ → List ℕ → List ℕ
text_response status len close text = codes "HTTP/1.1 " ++ status
    ++ codes "\r\nContent-Type: text/plain; charset=utf-8\r\nContent-Length: " ++ len ++ close ++ codes "\r\n\r\n" ++ text

-- A refusal is sent so, with its status, its phrase and its text.
pub record RefusalsOnWire : Type 0 where
  pub bad_json : wire (refused Refusal.BadJson) false
      ≡ text_response (codes "400 Bad Request") (codes "8") [] (codes "bad json")
  pub denied : wire (refused Refusal.Denied) false
      ≡ text_response (codes "403 Forbidden") (codes "17") [] (codes "Permission denied")
  pub not_found : wire (refused Refusal.NotFound) false
      ≡ text_response (codes "404 Not Found") (codes "9") [] (codes "not found")
  pub bad_method : wire (refused Refusal.BadMethod) false
      ≡ text_response (codes "405 Method Not Allowed") (codes "18") [] (codes "method not allowed")
  pub conflict : wire (refused Refusal.Conflict) false
      ≡ text_response (codes "409 Conflict") (codes "8") [] (codes "conflict")
  pub not_permitted : wire (refused Refusal.PoolNotPermitted) false
      ≡ text_response (codes "400 Bad Request") (codes "23") [] (codes "node pool not permitted")
  pub in_use : wire (refused Refusal.InUse) false
      ≡ text_response (codes "400 Bad Request") (codes "6") [] (codes "in use")
  pub full : wire (refused Refusal.Full) false
      ≡ text_response (codes "400 Bad Request") (codes "4") [] (codes "full")
  pub not_served : wire (refused Refusal.NotServed) false
      ≡ text_response (codes "501 Not Implemented") (codes "10") [] (codes "not served")
  pub memory : wire (refused Refusal.Memory) false
      ≡ text_response (codes "503 Service Unavailable") (codes "13") [] (codes "out of memory")
  pub log_full : wire (refused Refusal.LogFull) false
      ≡ text_response (codes "503 Service Unavailable") (codes "8") [] (codes "log full")

-- A step that is refused is answered with a status of the client's errors, from 400 to 499.
abbrev pub RefusedStepsOnWire : Type 0
RefusedStepsOnWire = (step : Step) (s t : State) (refusal : Refusal) → after step s ≡ said (Err refusal) t
    → (400 ≤ (refused refusal).status) × ((refused refusal).status ≤ 499)

-- A bad field is sent with its name.
abbrev pub FieldsOnWire : Type 0
FieldsOnWire = (m : Member) → wire (refused (Refusal.BadField m)) false
    ≡ text_response (codes "400 Bad Request") (decimal (11 + length (member_name m))) []
    (codes "bad field: " ++ member_name m)

-- A refused head is answered so, and the connection closes.
pub record HeadFaultsOnWire : Type 0 where
  pub bad_head : wires ((Refused HeadFault.BadHead, refusal_of HeadFault.BadHead) ∷ [])
      ≡ text_response (codes "400 Bad Request") (codes "11") (codes "\r\nConnection: close") (codes "bad request")
  pub need_length : wires ((Refused HeadFault.NeedLength, refusal_of HeadFault.NeedLength) ∷ [])
      ≡ text_response (codes "411 Length Required") (codes "15") (codes "\r\nConnection: close") (codes "length required")
  pub too_large : wires ((Refused HeadFault.TooLarge, refusal_of HeadFault.TooLarge) ∷ [])
      ≡ text_response (codes "413 Content Too Large") (codes "9") (codes "\r\nConnection: close") (codes "too large")

-- What was done is answered as JSON, with the index if it has one, and with the length of the body.
abbrev pub DoneOnWire : Type 0
DoneOnWire = (index : ℕ) (body : List ℕ)
    → (wire (record { status = 200; index = Some index; body = body }) false
    ≡ codes "HTTP/1.1 200 OK\r\nContent-Type: application/json\r\nX-Nomad-Index: " ++ decimal index
    ++ codes "\r\nContent-Length: " ++ decimal (length body) ++ codes "\r\n\r\n" ++ body)
    × (wire (record { status = 200; index = None; body = body }) true
    ≡ codes "HTTP/1.1 200 OK\r\nContent-Type: application/json\r\nContent-Length: " ++ decimal (length body)
    ++ codes "\r\nConnection: close\r\n\r\n" ++ body)

-- The responses stand in the order of their requests, one after the other.
abbrev pub ResponsesInOrder : Type 0
ResponsesInOrder = (some more : List Exchange) → wires (some ++ more) ≡ wires some ++ wires more

-- ---- conversations

-- a handler that gives each request, in each state, one reply and one next state
abbrev pub Handler : Type 0
Handler = World → Asked → Rendered × World

abbrev pub Handles : Handler → World → Asked → Rendered → World → Type 0
Handles handler w request reply next = handler w request ≡ (reply, next)

-- A whole request is answered by the handler, in the state that the ones before it left.
abbrev pub WholeIsHandled : Type 0
WholeIsHandled = (handler : Handler) (w next : World) (m : Message) (reply : Rendered) →
    Answers (Handles handler) w ((Whole m, reply) ∷ []) next ↔ (handler w (asked_by m) ≡ (reply, next))

-- A request whose head is refused gets its refusal, and leaves the state.
abbrev pub RefusedHeadIsNotHandled : Type 0
RefusedHeadIsNotHandled = (handler : Handler) (w next : World) (fault : HeadFault) (reply : Rendered) →
    Answers (Handles handler) w ((Refused fault, reply) ∷ []) next ↔ (reply ≡ refusal_of fault) × (next ≡ w)

-- A conversation can be cut anywhere: its first exchanges lead to some state, and the rest goes on from there.
abbrev pub ConversationSplits : Type 0
ConversationSplits = (handler : Handler) (w next : World) (first rest : List Exchange) →
    Answers (Handles handler) w (first ++ rest) next
    ↔ (mid : World) × Answers (Handles handler) w first mid × Answers (Handles handler) mid rest next
