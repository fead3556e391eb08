-- What a connection reads, what its handler answers, and what is written.
use Rattle.std.specs.Prelude.{◌≡◌, ℕ, ◌⊎◌, Bool, false, List, map, Option, IsTrue, ⊤}
use Rattle.std.specs.Io.KnownBytes.{Consumes, Appends, IsAtEnd}
use Rattle.ns_types.specs.Wire.Http.{Asked, Received, Takes, End, Clean, Partial, Closed, is_closed, Requests}
use Rattle.ns_types.specs.declared.reply.Rendered.{Rendered}
use Rattle.ns_types.specs.Wire.Responses.{Exchange, wires, Answers}
use Rattle.ns_http.specs.declared.counting.Counted.{Counted}
use Rattle.ns_http.specs.declared.counting.Counts.{Counts}
use Rattle.ns_http.specs.Counts.{HasFailed, IsReadOut}
use Rattle.ns_http.specs.Output.{WritesSome}

abbrev pub requests_of : List Exchange → List Received
requests_of exchanges = map (λ x. x.0) exchanges

-- the bytes begin with the requests of these exchanges, which the handler answered, and then the rest
pub record Serves
    {S : Type 0} (answers : S → Asked → Rendered → S → Type 0) (old new : S)
    (bytes : List ℕ) (exchanges : List Exchange) (closed : Bool) (rest : List ℕ) : Type 0 where
  pub takes : Takes bytes (requests_of exchanges) closed rest
  pub answered : Answers answers old exchanges new

-- the known bytes of a reader and of a writer, before and after
pub record Streams : Type 0 where
  pub remaining_old : Option (List ℕ)
  pub remaining_new : Option (List ℕ)
  pub contents_old : Option (List ℕ)
  pub contents_new : Option (List ℕ)

abbrev pub streams_of : Option (List ℕ) → Option (List ℕ) → Option (List ℕ) → Option (List ℕ) → Streams
streams_of r s w v = record { remaining_old = r; remaining_new = s; contents_old = w; contents_new = v }

-- what is known of the bytes of a counted reader and a counted writer, before and after
abbrev pub streams_between :
    {R W : Type 0} → (R → Option (List ℕ)) → (W → Option (List ℕ))
    → Counted R → Counted R → Counted W → Counted W → Streams
streams_between remaining contents reader reader' writer writer' =
    streams_of (remaining reader.inner) (remaining reader'.inner) (contents writer.inner) (contents writer'.inner)

-- What was read is the requests of these exchanges with that end, and what was written is their replies.
pub record Conversation
    {S : Type 0} (answers : S → Asked → Rendered → S → Type 0) (old new : S)
    (streams : Streams) (end : End) : Type 0 where
  pub read : List ℕ
  pub exchanges : List Exchange
  pub consumes : Consumes streams.remaining_old streams.remaining_new read
  pub requests : Requests read (requests_of exchanges) end
  pub answered : Answers answers old exchanges new
  pub writes : Appends streams.contents_old streams.contents_new (wires exchanges)

-- The writer failed: a first part of the replies was written.
pub record CutShort
    {S : Type 0} (answers : S → Asked → Rendered → S → Type 0) (old new : S) (streams : Streams) : Type 0 where
  pub read : List ℕ
  pub exchanges : List Exchange
  pub closed : Bool
  pub rest : List ℕ
  pub consumes : Consumes streams.remaining_old streams.remaining_new read
  pub serves : Serves answers old new read exchanges closed rest
  pub writes : WritesSome streams.contents_old streams.contents_new (wires exchanges)

-- the input ended between two requests, or the last request closed the connection
abbrev pub EndsWell : End → Option (List ℕ) → Counts → Type 0
EndsWell Clean remaining counts = IsAtEnd remaining × IsTrue counts.ended
EndsWell Partial remaining counts = ⊥
EndsWell Closed remaining counts = ⊤

-- the input ended inside a request
abbrev pub EndsInside : End → Option (List ℕ) → Counts → Type 0
EndsInside Clean remaining counts = ⊥
EndsInside Partial remaining counts = IsAtEnd remaining × IsTrue counts.ended
EndsInside Closed remaining counts = ⊥

-- the reader failed otherwise than by interruption, ended inside a request, or may not be read further
abbrev pub IsReadFault : End → Option (List ℕ) → Counts → Counts → Type 0
IsReadFault end remaining old new =
    (is_closed end ≡ false) × (HasFailed old new ⊎ EndsInside end remaining new ⊎ IsReadOut old new)
