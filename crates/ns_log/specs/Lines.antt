-- The line of an entry, and texts that begin with a line.
use Rattle.std.specs.Prelude.{◌≡◌, ℕ, ◌<◌, ◌≤◌, ◌++◌, drop, length, Option, Some, None}
use Rattle.serde_json.specs.Written.{compact_text}
use Rattle.ns_types.specs.State.Names.{Name}
use Rattle.ns_json.specs.Logs.{entry_json, line_of}
use Rattle.ns_json.specs.Replies.{Entry}

-- the line of an entry, without the line feed
abbrev pub entry_text : Entry → Name
entry_text e = compact_text (entry_json e)

-- the text begins with this line and its line feed
abbrev pub BeginsWith : Name → Name → Type 0
BeginsWith text line = (rest : Name) × (text ≡ line_of line ++ rest)

-- the length of this line with its line feed, if the text begins with it
abbrev pub IsLineLen : Name → Name → Option ℕ → Type 0
IsLineLen text line (Some len) = (text ≡ line_of line ++ drop len text) × (0 < len) × (len ≤ length text)
IsLineLen text line None = BeginsWith text line → ⊥
