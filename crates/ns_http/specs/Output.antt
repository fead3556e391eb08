-- What the output writes.
use Rattle.std.specs.Prelude.{◌≡◌, ℕ, Bool, List, ◌++◌, Option, Result, codes, decimal}
use Rattle.std.specs.Io.KnownBytes.{Appends, WriteAppends}
use Rattle.ns_types.specs.declared.reply.Rendered.{Rendered}
use Rattle.ns_types.specs.Wire.Responses.{wire, phrase, content_type}
use Rattle.ns_http.specs.declared.counting.Counted.{Counted}
use Rattle.ns_http.specs.declared.response.Outgoing.{Outgoing}

-- the status, index and text of a response
abbrev pub rendered_by : Outgoing → Rendered
rendered_by r = record { status = r.status; index = r.index; body = r.body.now }

abbrev pub wire_of : Outgoing → Bool → List ℕ
wire_of r close = wire (rendered_by r) close

-- a first part of the bytes was written
abbrev pub WritesSome : Option (List ℕ) → Option (List ℕ) → List ℕ → Type 0
WritesSome old new bytes =
    (written : List ℕ) × (lost : List ℕ) × (bytes ≡ written ++ lost) × Appends old new written

-- The bytes came behind those that waited. Some were written, and the others wait.
abbrev pub Queues : Option (List ℕ) → Option (List ℕ) → List ℕ → List ℕ → List ℕ → Type 0
Queues old new waiting waiting' bytes = (written : List ℕ) × Appends old new written ×
    (waiting ++ bytes ≡ written ++ waiting')

-- for a counted writer: one write of these bytes was made, all of them were written, or a first part of them was
abbrev pub WritesTo : {W E : Type 0} → (W → Option (List ℕ)) → Counted W → Counted W → Result ℕ E → List ℕ → Type 0
WritesTo contents old new result bytes = WriteAppends (contents old.inner) (contents new.inner) result bytes

abbrev pub WritesAll : {W : Type 0} → (W → Option (List ℕ)) → Counted W → Counted W → List ℕ → Type 0
WritesAll contents old new bytes = Appends (contents old.inner) (contents new.inner) bytes

abbrev pub WritesPart : {W : Type 0} → (W → Option (List ℕ)) → Counted W → Counted W → List ℕ → Type 0
WritesPart contents old new bytes = WritesSome (contents old.inner) (contents new.inner) bytes

-- the head of a response up to the media type of its body
abbrev pub response_front : ℕ → List ℕ
response_front status = codes "HTTP/1.1 " ++ decimal status ++ codes " " ++ phrase status ++ codes "\r\nContent-Type: " ++ content_type status
