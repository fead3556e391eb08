-- What the engine does between two reads.
use Rattle.std.specs.Prelude.{◌≡◌, ℕ, ◌+◌, ◌<◌, Bool, true, false, List, [], ◌∷◌, ◌++◌, length, Option, Some, None}
use Rattle.std.specs.Io.KnownBytes.{Appends}
use Rattle.ns_types.specs.Wire.Http.{Asked}
use Rattle.ns_types.specs.declared.reply.Rendered.{Rendered}
use Rattle.ns_types.specs.Wire.Responses.{Exchange, wires}
use Rattle.ns_http.specs.declared.engine.Progress.{Progress}
use Rattle.ns_http.specs.Head.{Waits}
use Rattle.ns_http.specs.Conversation.{Serves}
use Rattle.ns_http.specs.Output.{WritesSome, Queues}

-- these exchanges used the input up to `rest`, and their replies were written
pub record Makes
    {S : Type 0} (answers : S → Asked → Rendered → S → Type 0) (old new : S) (input rest : List ℕ)
    (before after : Option (List ℕ)) (answered answered' : ℕ) (exchanges : List Exchange) (closed : Bool) : Type 0 where
  pub serves : Serves answers old new input exchanges closed rest
  pub writes : Appends before after (wires exchanges)
  pub count : answered' ≡ answered + length exchanges

-- these exchanges used the input up to `rest`, and their replies were written or wait
pub record Queued
    {S : Type 0} (answers : S → Asked → Rendered → S → Type 0) (old new : S) (input rest : List ℕ)
    (before after : Option (List ℕ)) (waiting waiting' : List ℕ) (answered answered' : ℕ)
    (exchanges : List Exchange) (closed : Bool) : Type 0 where
  pub serves : Serves answers old new input exchanges closed rest
  pub writes : Queues before after waiting waiting' (wires exchanges)
  pub count : answered' ≡ answered + length exchanges

-- The whole requests of the input were answered. Then the new input waits for `wanted` bytes, or the last request closed the
-- connection.
abbrev pub Advances :
    {S : Type 0} → (S → Asked → Rendered → S → Type 0) → S → S → List ℕ → List ℕ
    → Option (List ℕ) → Option (List ℕ) → ℕ → ℕ → Option ℕ → Type 0
Advances answers old new input input' before after answered answered' None =
    (exchanges : List Exchange) × (rest : List ℕ)
    × Makes answers old new input rest before after answered answered' exchanges true
Advances answers old new input input' before after answered answered' (Some wanted) =
    (exchanges : List Exchange)
    × Makes answers old new input input' before after answered answered' exchanges false
    × Waits input' wanted × (answered' + length input' < answered + length input + 1)

-- what one step did
abbrev pub Steps :
    {S : Type 0} → (S → Asked → Rendered → S → Type 0) → S → S → List ℕ → List ℕ
    → Option (List ℕ) → Option (List ℕ) → List ℕ → List ℕ → ℕ → ℕ → Progress → Type 0
Steps answers old new input input' before after waiting waiting' answered answered' Progress.Answered =
    (x : Exchange)
    × Queued answers old new input input' before after waiting waiting' answered answered' (x ∷ []) false
    × (length input' < length input)
Steps answers old new input input' before after waiting waiting' answered answered' Progress.Closed =
    (x : Exchange) × (rest : List ℕ)
    × Queued answers old new input rest before after waiting waiting' answered answered' (x ∷ []) true
Steps answers old new input input' before after waiting waiting' answered answered' (Progress.Waits wanted) =
    (new ≡ old) × (input' ≡ input) × (after ≡ before) × (waiting' ≡ waiting) × (answered' ≡ answered) ×
    Waits input wanted

-- the writer failed while the last of these exchanges was made, or after it
abbrev pub CutsShort :
    {S : Type 0} → (S → Asked → Rendered → S → Type 0) → S → S → List ℕ
    → Option (List ℕ) → Option (List ℕ) → List ℕ → Type 0
CutsShort answers old new input before after waiting =
    (exchanges : List Exchange) × (closed : Bool) × (rest : List ℕ)
    × Serves answers old new input exchanges closed rest
    × WritesSome before after (waiting ++ wires exchanges)
