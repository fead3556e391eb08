-- The bodies of answers that show no rows, and how many bytes they may take.
use Rattle.std.specs.Prelude.{ℕ, ◌+◌, ◌*◌, ◌<◌, ◌≤◌, List, [], ◌∷◌, Option, Some, None, IsSome, IsSomeAnd, Result}
use Rattle.std.specs.Prelude.{OnOk, OnErr, codes, flat_map, length, sum_by}
use Rattle.json.specs.Print.{quoted}
use Rattle.json.specs.Token.{Token}
use Rattle.json.specs.Tree.{room}
use Rattle.json.specs.Written.{Written}
use Rattle.serde_json.specs.Data.{Data, string}
use Rattle.ns_types.specs.declared.evaluation.Status.{Status}
use Rattle.ns_types.specs.declared.id.IdKind.TheVariants as IdKind
use Rattle.ns_types.specs.declared.reply.Content.{Content}
use Rattle.ns_types.specs.State.Id.{id_text}
use Rattle.ns_types.specs.State.Names.{Name}
use Rattle.ns_types.specs.Wire.Words.{status_text}
use Rattle.ns_json.specs.Part.{Follows, tokens_of}
use Rattle.ns_json.specs.Rendering.{object_of, registered_json, stopped_json}
use Rattle.ns_json.specs.Replies.{applied_json, finished_json, one_id}

abbrev pub nacked_json : Status → Data
nacked_json status = object_of ((codes "Status", string (status_text status)) ∷ [])

-- what the body shows of a content that shows no rows
abbrev pub body_json : Content → Data
body_json (Content.Registered evaluation index job_index) = registered_json evaluation index job_index
body_json (Content.Stopped evaluation index) = stopped_json evaluation index
body_json (Content.Took n) = one_id (codes "Took") n
body_json (Content.Snapped n) = one_id (codes "Snapped") n
body_json (Content.Queued n) = one_id (codes "Queued") n
body_json (Content.Applied made dropped) = applied_json made dropped
body_json (Content.Finished status follower) = finished_json status follower
body_json (Content.Nacked status) = nacked_json status
body_json _ = object_of []

-- ---- bytes: each part of a text is written with one byte to spare, since a comma may follow it

abbrev pub registered_bytes : ℕ
registered_bytes = 132

abbrev pub stopped_bytes : ℕ
stopped_bytes = 83

abbrev pub nothing_bytes : ℕ
nothing_bytes = 4

-- one id, as a member whose name has at most seven letters
abbrev pub one_id_bytes : ℕ
one_id_bytes = 54

abbrev pub finished_bytes : ℕ
finished_bytes = 76

abbrev pub nacked_bytes : ℕ
nacked_bytes = 25

-- the body of an Apply that made nothing and dropped nothing
abbrev pub applied_bytes : ℕ
applied_bytes = 36

abbrev pub id_bytes : ℕ
id_bytes = 39

abbrev pub text_bytes : Name → ℕ
text_bytes text = length (quoted text) + 1

-- how many bytes a body may take; none if it shows rows
abbrev pub body_bytes : Content → Option ℕ
body_bytes (Content.Registered evaluation index job_index) = Some registered_bytes
body_bytes (Content.Stopped evaluation index) = Some stopped_bytes
body_bytes Content.Written = Some nothing_bytes
body_bytes (Content.Took n) = Some one_id_bytes
body_bytes (Content.Snapped n) = Some one_id_bytes
body_bytes (Content.Queued n) = Some one_id_bytes
body_bytes (Content.Applied made dropped) = Some (applied_bytes + length made * id_bytes + sum_by text_bytes dropped)
body_bytes (Content.Finished status follower) = Some finished_bytes
body_bytes (Content.Nacked status) = Some nacked_bytes
body_bytes _ = None

-- ids and texts in a list
abbrev pub id_tokens : List ℕ → List Token
id_tokens numbers = flat_map (λ n. Token.string (id_text IdKind.Allocation n) ∷ []) numbers

abbrev pub text_tokens : List Name → List Token
text_tokens texts = flat_map (λ text. Token.string text ∷ []) texts

-- the content shows no rows
abbrev pub IsBrief : Content → Type 0
IsBrief content = IsSome (body_bytes content)

-- The tokens were written behind those before, and take at most `bytes` bytes. Writing fails only if there was less
-- room.
pub record WritesIn {E : Type 0} (bytes : ℕ) (r : Result (Unit {0}) E) (old new : Written)
    (ts : List Token) : Type 0 where
  pub follows : OnOk r (Follows old new ts)
  pub fits : OnOk r (room ts ≤ bytes)
  pub room : OnErr r (old.spare < bytes)

-- the body of the content, which shows no rows, was written behind what was there before, and takes at most the bytes
-- that it may take
abbrev pub WritesBody : {E : Type 0} → Content → Result (Unit {0}) E → Written → Written → Type 0
WritesBody content r old new = IsSomeAnd (body_bytes content)
    (λ bytes. WritesIn bytes r old new (tokens_of (body_json content)))
