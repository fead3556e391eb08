-- Requests of HTTP/1.1 (RFC 9112) over whole byte strings: no buffer and no reads.
use Rattle.std.specs.Prelude.{◌≡◌, ℕ, ◌<◌, ◌≤◌, ◌⊎◌, Bool, true, false, ◌&&◌, ◌||◌, List, [], ◌∷◌, ◌++◌, map, length}
use Rattle.std.specs.Prelude.{take, Option, Some, None, Result, Ok, Err, if◌then◌else◌, nat_lt, nat_le, ◌==◌, codes}
use Rattle.std.specs.Prelude.{bytes_eq, MatchBool, ⊤}
use Rattle.std.specs.List.{list_all, list_any, slice_split}
use Rattle.std.specs.Char.{is_ascii_digit, to_ascii_lowercase}
use Rattle.std.specs.Str.Parse.{digits_value}
use Rattle.httparse.specs.Ascii.{comma}
use Rattle.httparse.specs.Grammar.{trim_ows, RequestHead, print_request, IsRequestHead, HasNoRequest, NeverHasRequest}
use Rattle.httparse.specs.Grammar.{MayBecomeRequest}
use Rattle.httparse.specs.Spans.{name_and_value, RequestExceeds, RequestOverflows}
use Rattle.ns_types.specs.declared.reply.HeadFault.{HeadFault}
use Rattle.ns_types.specs.declared.reply.HeadFault.TheVariants.{BadHead, NeedLength, TooLarge}

abbrev pub max_head_len : ℕ
max_head_len = 16384

abbrev pub max_headers : ℕ
max_headers = 64

abbrev pub max_body_len : ℕ
max_body_len = 1048576

-- a name and a value
abbrev pub Header : Type 0
Header = List ℕ × List ℕ

-- the texts are equal without regard to case
unfoldable pub eq_ignore_case : List ℕ → List ℕ → Bool
eq_ignore_case a b = bytes_eq (map to_ascii_lowercase a) (map to_ascii_lowercase b)

-- the value of every header with this name, in order
abbrev pub values_named : List ℕ → List Header → List (List ℕ)
values_named name [] = []
values_named name (h ∷ headers) =
    if eq_ignore_case h.0 name then h.1 ∷ values_named name headers else values_named name headers

-- the first value
abbrev pub first_value : List (List ℕ) → Option (List ℕ)
first_value [] = None
first_value (v ∷ values) = Some v

-- the value is 1 to 20 digits
abbrev pub is_length : List ℕ → Bool
is_length v = nat_lt 0 (length v) && (nat_le (length v) 20 && list_all is_ascii_digit v)

-- the length that the value states, if it is a length and a body may be that long
unfoldable pub length_of : List ℕ → Result ℕ HeadFault
length_of v =
    if is_length v then (if nat_le (digits_value 10 v) max_body_len then Ok (digits_value 10 v) else Err TooLarge)
    else Err BadHead

-- the length of the body, by the values of `Content-Length` and of `Transfer-Encoding`
abbrev pub body_len_of : List (List ℕ) → List (List ℕ) → Result ℕ HeadFault
body_len_of [] [] = Ok 0
body_len_of [] (coding ∷ codings) = Err NeedLength
body_len_of (v ∷ []) [] = length_of v
body_len_of (v ∷ w ∷ values) [] = Err BadHead
body_len_of (v ∷ values) (coding ∷ codings) = Err BadHead

-- the length of the body, or why the head is refused
unfoldable pub body_len : List Header → Result ℕ HeadFault
body_len headers =
    body_len_of (values_named (codes "content-length") headers) (values_named (codes "transfer-encoding") headers)

-- the value lists `close`, in upper or lower case
unfoldable pub lists_close : List ℕ → Bool
lists_close value = list_any (λ piece. eq_ignore_case (trim_ows piece) (codes "close"))
    (slice_split (λ b. b == comma) value)

-- the request is of HTTP/1.0, or a `Connection` header lists `close`
unfoldable pub asks_close : ℕ → List Header → Bool
asks_close minor headers = (minor == 0)
    || list_any (λ h. eq_ignore_case h.0 (codes "connection") && lists_close h.1) headers

-- the value of the first `X-Nomad-Token`
unfoldable pub token_of : List Header → Option (List ℕ)
token_of headers = first_value (values_named (codes "x-nomad-token") headers)

-- a whole request: a head of `httparse`'s grammar, and a body
pub record Message : Type 0 where
  pub head : RequestHead
  pub body : List ℕ

abbrev pub print_message : Message → List ℕ
print_message m = print_request m.head ++ m.body

abbrev pub headers_of : Message → List Header
headers_of m = map name_and_value m.head.fields

abbrev pub closes : Message → Bool
closes m = asks_close m.head.minor (headers_of m)

-- what a handler sees of a request
pub record Asked : Type 0 where
  pub method : List ℕ
  pub target : List ℕ
  pub token : Option (List ℕ)
  pub body : List ℕ

abbrev pub asked_by : Message → Asked
asked_by m = record { method = m.head.method; target = m.head.target; token = token_of (headers_of m); body = m.body }

-- the head is in the grammar and within the limits
pub record IsHead (h : RequestHead) : Type 0 where
  pub grammar : IsRequestHead h
  pub len : length (print_request h) ≤ max_head_len
  pub headers : length h.fields ≤ max_headers

-- a message has such a head, and a body of the length that the head states
pub record IsMessage (m : Message) : Type 0 where
  pub head : IsHead m.head
  pub framed : body_len (headers_of m) ≡ Ok (length m.body)

-- Why the bytes begin with a head that is refused, whatever follows them.
pub data RefusesHead (bytes : List ℕ) : HeadFault → Type 0 where
  malformed : NeverHasRequest bytes → RefusesHead bytes BadHead
  framing : (h : RequestHead) (rest : List ℕ) (fault : HeadFault) → IsHead h → bytes ≡ print_request h ++ rest →
      body_len (map name_and_value h.fields) ≡ Err fault → RefusesHead bytes fault
  too_long : max_head_len ≤ length bytes → HasNoRequest (take max_head_len bytes) →
      MayBecomeRequest (take max_head_len bytes) → RefusesHead bytes TooLarge
  too_many : RequestExceeds max_headers bytes → RequestOverflows max_headers bytes → RefusesHead bytes TooLarge

-- less than a whole request, which more bytes may complete
pub data IsPartial (bytes : List ℕ) : Type 0 where
  in_head : HasNoRequest bytes → MayBecomeRequest bytes → IsPartial bytes
  in_body : (h : RequestHead) (body : List ℕ) (len : ℕ) → IsHead h → bytes ≡ print_request h ++ body →
      body_len (map name_and_value h.fields) ≡ Ok len → length body < len → IsPartial bytes

-- a request as it was received: whole, or refused by its head
pub data Received : Type 0 where
  Whole : Message → Received
  Refused : HeadFault → Received

-- the connection closes after the answer
abbrev pub is_last : Received → Bool
is_last (Whole m) = closes m
is_last (Refused fault) = true

-- The bytes are these requests, in order, and then the rest. If the connection is closed, the last request closes it, and no
-- other does.
abbrev pub Takes : List ℕ → List Received → Bool → List ℕ → Type 0
Takes bytes [] closed rest = (closed ≡ false) × (bytes ≡ rest)
Takes bytes (Refused fault ∷ received) closed rest =
    RefusesHead bytes fault × (received ≡ []) × (closed ≡ true) × (bytes ≡ rest)
Takes bytes (Whole m ∷ received) closed rest =
    IsMessage m × (after : List ℕ) × (bytes ≡ print_message m ++ after)
    × MatchBool (closes m) ((received ≡ []) × (closed ≡ true) × (after ≡ rest)) (Takes after received closed rest)

-- how the requests of a byte string end
pub data End : Type 0 where
  Clean Partial Closed : End

abbrev pub is_closed : End → Bool
is_closed Clean = false
is_closed Partial = false
is_closed Closed = true

-- what follows the requests at each end: nothing, a part of a request, or, after the connection is closed, any bytes
abbrev pub IsRest : End → List ℕ → Type 0
IsRest Clean rest = rest ≡ []
IsRest Partial rest = IsPartial rest × (0 < length rest)
IsRest Closed rest = ⊤

-- The bytes are these requests, in order, and then this end.
abbrev pub Requests : List ℕ → List Received → End → Type 0
Requests bytes received end = (rest : List ℕ) × Takes bytes received (is_closed end) rest × IsRest end rest

-- Neither the headline nor the wire rests on this and the next: they are for a law of readings.
-- the head is both faulty and over a limit
pub data IsFaultyAndOver (bytes : List ℕ) : Type 0 where
  faulty_long : NeverHasRequest bytes → HasNoRequest (take max_head_len bytes) → max_head_len ≤ length bytes →
      IsFaultyAndOver bytes
  faulty_many : NeverHasRequest bytes → RequestExceeds max_headers bytes → IsFaultyAndOver bytes

-- Two readings of the same bytes agree, except in two cases: a head that is both faulty and over a limit may be refused as
-- either, and a head whose end the bytes do not have may be refused or not.
abbrev pub ReadAlike : List ℕ → List Received → End → List Received → End → Type 0
ReadAlike bytes [] e [] f = e ≡ f
ReadAlike bytes [] e (Refused b ∷ ys) f = HasNoRequest bytes × (is_closed e ≡ false)
ReadAlike bytes [] e (Whole n ∷ ys) f = ⊥
ReadAlike bytes (Refused a ∷ xs) e [] f = HasNoRequest bytes × (is_closed f ≡ false)
ReadAlike bytes (Refused a ∷ xs) e (Refused b ∷ ys) f = (a ≡ b) ⊎ IsFaultyAndOver bytes
ReadAlike bytes (Refused a ∷ xs) e (Whole n ∷ ys) f = ⊥
ReadAlike bytes (Whole m ∷ xs) e [] f = ⊥
ReadAlike bytes (Whole m ∷ xs) e (Refused b ∷ ys) f = ⊥
ReadAlike bytes (Whole m ∷ xs) e (Whole n ∷ ys) f =
    (m ≡ n) × (rest : List ℕ) × (bytes ≡ print_message m ++ rest)
    × MatchBool (closes m) ((xs ≡ []) × (ys ≡ []) × (e ≡ f)) (ReadAlike rest xs e ys f)
