-- Which texts are logs, and which line of another text is the first bad one.
use Rattle.std.specs.Prelude.{◌≡◌, ◌≢◌, ◌⊎◌, ℕ, ◌+◌, ◌<◌, ◌^◌, ◌&&◌, nat_lt, Bool, true, List, [], ◌∷◌, ◌++◌, length, Option, Ok}
use Rattle.std.specs.Prelude.{IsTrue, IsUtf8}
use Rattle.std.specs.Option.{option_map_or}
use Rattle.ns_types.specs.declared.name.NameKind.TheVariants as NameKind
use Rattle.ns_types.specs.declared.reply.Rendered.{Rendered}
use Rattle.ns_types.specs.declared.step.AdminCommand.{AdminCommand}
use Rattle.ns_types.specs.declared.step.AskCommand.{AskCommand}
use Rattle.ns_types.specs.declared.step.NodeCommand.{NodeCommand}
use Rattle.ns_types.specs.declared.step.Step.{Step}
use Rattle.ns_types.specs.State.Lists.{Each}
use Rattle.ns_types.specs.State.Name.{is_name}
use Rattle.ns_types.specs.State.Names.{Name}
use Rattle.ns_types.specs.Within.{IsGoodStep}
use Rattle.ns_policy.specs.Json.{rules_of}
use Rattle.ns_json.specs.Logs.{head_text, line_of}
use Rattle.ns_json.specs.Replies.{Entry}
use Rattle.ns_log.specs.Lines.{BeginsWith, entry_text}

-- ---- entries

-- the first line of a log, without the line feed
abbrev pub first_text : Name → Name
first_text secret = head_text 0 secret

abbrev pub fits : ℕ → Bool
fits n = nat_lt n (2 ^ 64)

abbrev pub fits_if_any : Option ℕ → Bool
fits_if_any n = option_map_or fits n true

abbrev pub ask_fits : AskCommand → Bool
ask_fits (AskCommand.Register r) = fits_if_any r.enforced
ask_fits (AskCommand.ReadEvaluation n) = fits n
ask_fits (AskCommand.ReadAllocation n) = fits n
ask_fits (AskCommand.StopAllocation n) = fits n
ask_fits (AskCommand.Events n) = fits n
ask_fits _ = true

abbrev pub node_command_fits : NodeCommand → Bool
node_command_fits (NodeCommand.Report name report) = fits report.number
node_command_fits _ = true

-- the step's numbers for which there is no other limit fit in 64 bits
abbrev pub step_fits : Step → Bool
step_fits (Step.Ask ns secret command) = ask_fits command
step_fits (Step.Admin secret command) = true
step_fits (Step.Node pool secret command) = node_command_fits command
step_fits (Step.Dequeue worker ns n) = fits worker && fits n
step_fits (Step.Snap worker ns) = fits worker
step_fits (Step.Submit worker ns) = fits worker
step_fits (Step.Apply worker ns) = fits worker
step_fits (Step.Finish worker ns) = fits worker
step_fits (Step.Nack worker ns) = fits worker

abbrev pub answer_fits : Rendered → Bool
answer_fits r = nat_lt r.status (2 ^ 16) && fits_if_any r.index

-- where the command puts a policy, the policy's rules are those that its text gives
abbrev pub HasReadRules : AdminCommand → Type 0
HasReadRules (AdminCommand.PutPolicy name policy) = rules_of policy.text ≡ Ok policy.rules
HasReadRules _ = Unit {0}

abbrev pub IsAsRead : Step → Type 0
IsAsRead (Step.Admin secret command) = HasReadRules command
IsAsRead _ = Unit {0}

-- The entry's step is within the limits of steps, and its numbers fit the program's integers.
pub record IsWithin (e : Entry) : Type 0 where
  pub good : IsGoodStep e.0
  pub as_read : IsAsRead e.0
  pub step : IsTrue (step_fits e.0)
  pub answer : IsTrue (answer_fits e.1)

-- A log may hold the entry.
pub record IsWritable (e : Entry) : Type 0 where
  pub within : IsWithin e
  -- its line is UTF-8
  pub text : IsUtf8 (entry_text e)

-- ---- logs

-- a line after the first: the head of a later segment, or an entry
pub data LogLine : Type 0 where
  head : LogLine
  entry : Entry → LogLine

abbrev pub CanStand : LogLine → Type 0
CanStand LogLine.head = Unit {0}
CanStand (LogLine.entry e) = IsWritable e

abbrev pub entries_of : List LogLine → List Entry
entries_of [] = []
entries_of (LogLine.head ∷ lines) = entries_of lines
entries_of (LogLine.entry e ∷ lines) = e ∷ entries_of lines

-- the text of a line without its line feed, where `start` entries come before the line
abbrev pub line_text : Name → ℕ → LogLine → Name
line_text secret start LogLine.head = head_text start secret
line_text secret start (LogLine.entry e) = entry_text e

-- the number of entries before the next line, where `start` come before this one
abbrev pub next : ℕ → LogLine → ℕ
next start LogLine.head = start
next start (LogLine.entry e) = start + 1

abbrev pub lines_text : Name → ℕ → List LogLine → Name
lines_text secret start [] = []
lines_text secret start (line ∷ lines) =
    line_of (line_text secret start line) ++ lines_text secret (next start line) lines

-- The text is a first line with the secret, and then these lines. The head of each later segment names the same secret, and the
-- number of entries before it.
pub record HasLines (text secret : Name) (lines : List LogLine) : Type 0 where
  pub is_secret : IsTrue (is_name NameKind.Secret secret)
  pub writable : Each CanStand lines
  pub few : length (entries_of lines) < 2 ^ 64
  pub is_text : text ≡ line_of (first_text secret) ++ lines_text secret 0 lines

-- the text is a log with this secret and these entries, in one segment or more
pub record IsLogOf (text secret : Name) (entries : List Entry) : Type 0 where
  pub lines : List LogLine
  pub has_lines : HasLines text secret lines
  pub are_entries : entries ≡ entries_of lines

-- ---- the first bad line

-- the text does not begin with the first line of a log
abbrev pub HasBadHead : Name → Type 0
HasBadHead text = (secret : Name) → IsTrue (is_name NameKind.Secret secret) → BeginsWith text (first_text secret) → ⊥

-- the text does not begin with the line of an entry
abbrev pub HasBadEntry : Name → Type 0
HasBadEntry text = (e : Entry) → IsWritable e → BeginsWith text (entry_text e) → ⊥

-- the text begins neither with the line of an entry nor with the head of a segment after `start` entries
pub record HasBadLine (secret : Name) (start : ℕ) (text : Name) : Type 0 where
  pub no_entry : HasBadEntry text
  pub no_head : BeginsWith text (head_text start secret) → ⊥

-- The lines before line `n` are a log's text. More text comes after them, and it does not begin with a line of that log.
pub record IsBadAfter (text : Name) (n : ℕ) : Type 0 where
  pub secret : Name
  pub lines : List LogLine
  pub before : Name
  pub rest : Name
  pub is_log : HasLines before secret lines
  pub is_text : text ≡ before ++ rest
  pub is_number : n ≡ length lines + 2
  pub is_more : rest ≢ []
  pub is_bad : HasBadLine secret (length (entries_of lines)) rest

-- line `n` of the text, counted from 1, is its first bad line
abbrev pub IsFault : Name → ℕ → Type 0
IsFault text n = ((n ≡ 1) × HasBadHead text) ⊎ IsBadAfter text n
