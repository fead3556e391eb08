-- Laws of what is written as a log.
use Rattle.std.specs.Prelude.{◌≡◌, ◌<◌, ◌^◌, ℕ, List, None, Ok, IsTrue, IsUtf8, length}
use Rattle.ns_types.specs.declared.name.NameKind.TheVariants as NameKind
use Rattle.ns_types.specs.declared.step.Step.{Step}
use Rattle.ns_types.specs.State.Lists.{Each}
use Rattle.ns_types.specs.State.Name.{is_name}
use Rattle.ns_types.specs.State.Names.{Name}
use Rattle.ns_types.specs.Wire.Http.{Asked}
use Rattle.ns_steps.specs.Served.{served}
use Rattle.ns_json.specs.Replies.{Entry}
use Rattle.ns_log_reader.specs.Lines.{IsAsRead, IsLogOf}
use Rattle.ns_log.specs.declared.receipts.receipt.Receipt.{Receipt}
use Rattle.ns_log.specs.Settling.{IsAt, Settles}
use Rattle.ns_log.specs.Segments.{Follows, Given, joined, whole_text}
use Rattle.ns_endpoints.specs.Asking.{asked}
use Rattle.ns_endpoints.specs.Drawing.{DrawsFor}
use Rattle.ns_pipe.specs.Readable.{AreAsRead, IsTyped}

-- ---- the rules of a policy are those that its text says

-- so they are in each step that a request asks for, with what is drawn for it
abbrev pub RequestedIsAsRead : {D : Type 0} → (D → List ℕ → D → Type 0) → Type 0
RequestedIsAsRead {D} draws = (request : Asked) (wanted made : Step) (drawer drawn : D) → asked request ≡ Ok wanted →
    DrawsFor draws wanted drawer made drawn → IsAsRead made

-- so they are in each step that no request asks for
abbrev pub WorkedIsAsRead : Type 0
WorkedIsAsRead = (step : Step) → served step ≡ None → IsAsRead step

-- so they are in a log with which receipts settle, if they are in the receipts
abbrev pub SettledIsAsRead : Type 0
SettledIsAsRead = (log : List Entry) (seats : List (List Receipt)) → Settles log seats →
    ((i j : ℕ) (r : Receipt) → IsAt seats i j r → IsAsRead r.step) → AreAsRead log

-- ---- and such a log is read back

-- the text of such a log, in segments that follow each other and the rest, is read back as the log, if it is UTF-8
abbrev pub SegmentsAreReadBack : Type 0
SegmentsAreReadBack = (secret : Name) (segments : List Given) (rest : List Entry) (given : ℕ) →
    IsTrue (is_name NameKind.Secret secret) → Follows 0 segments given → length (joined segments rest) < 2 ^ 64 →
    Each IsTyped (joined segments rest) → AreAsRead (joined segments rest) →
    IsUtf8 (whole_text secret segments given rest) →
    IsLogOf (whole_text secret segments given rest) secret (joined segments rest)
