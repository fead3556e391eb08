-- What a connection does, by its buffers and its counted writer.
use Rattle.std.specs.Prelude.{ℕ, List, [], Option}
use Rattle.ns_types.specs.Wire.Http.{Asked}
use Rattle.ns_types.specs.declared.reply.Rendered.{Rendered}
use Rattle.ns_http.specs.declared.counting.Counted.{Counted}
use Rattle.ns_http.specs.declared.engine.Connection.{Connection}
use Rattle.ns_http.specs.declared.engine.Progress.{Progress}
use Rattle.ns_http.specs.Input.{unread}
use Rattle.ns_http.specs.Waiting.{waiting}
use Rattle.ns_http.specs.Steps.{Steps, Advances, CutsShort}

-- one step of the connection
abbrev pub MakesStep :
    {S W A : Type 0} → (S → Asked → Rendered → S → Type 0) → (W → Option (List ℕ)) → S → S
    → Counted W → Counted W → Connection A → Connection A → Progress → Type 0
MakesStep answers contents s s' writer writer' old new step =
    Steps answers s s' (unread old.input) (unread new.input) (contents writer.inner) (contents writer'.inner)
    (waiting old.output) (waiting new.output) old.answered new.answered step

-- one step, in which the writer failed
abbrev pub CutsStepShort :
    {S W A : Type 0} → (S → Asked → Rendered → S → Type 0) → (W → Option (List ℕ)) → S → S
    → Counted W → Counted W → Connection A → Type 0
CutsStepShort answers contents s s' writer writer' old =
    CutsShort answers s s' (unread old.input) (contents writer.inner) (contents writer'.inner) (waiting old.output)

-- all steps until more bytes are needed or the connection closes, with no reply left waiting
abbrev pub AnswersAll :
    {S W A : Type 0} → (S → Asked → Rendered → S → Type 0) → (W → Option (List ℕ)) → S → S
    → Counted W → Counted W → Connection A → Connection A → Option ℕ → Type 0
AnswersAll answers contents s s' writer writer' old new wanted =
    Advances answers s s' (unread old.input) (unread new.input) (contents writer.inner) (contents writer'.inner)
    old.answered new.answered wanted

-- all steps up to one in which the writer failed
abbrev pub CutsAnswersShort :
    {S W A : Type 0} → (S → Asked → Rendered → S → Type 0) → (W → Option (List ℕ)) → S → S
    → Counted W → Counted W → Connection A → Type 0
CutsAnswersShort answers contents s s' writer writer' old =
    CutsShort answers s s' (unread old.input) (contents writer.inner) (contents writer'.inner) []
