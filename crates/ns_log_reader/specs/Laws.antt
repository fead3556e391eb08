-- Laws of logs' texts.
use Rattle.std.specs.Prelude.{◌≡◌, ℕ, List}
use Rattle.ns_types.specs.State.Names.{Name}
use Rattle.ns_json.specs.Replies.{Entry}
use Rattle.ns_log_reader.specs.Lines.{IsLogOf, IsFault}

-- two logs that have the same text have the same secret and the same entries
abbrev pub OneLog : Type 0
OneLog = (text secret other : Name) (entries others : List Entry) → IsLogOf text secret entries →
    IsLogOf text other others → (secret ≡ other) × (entries ≡ others)

-- a log's text has no bad line
abbrev pub LogHasNoFault : Type 0
LogHasNoFault = (text secret : Name) (entries : List Entry) (n : ℕ) → IsLogOf text secret entries →
    IsFault text n → ⊥

-- a text has at most one first bad line
abbrev pub OneFault : Type 0
OneFault = (text : Name) (n m : ℕ) → IsFault text n → IsFault text m → n ≡ m
