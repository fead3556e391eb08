-- Logs whose text is read back.
use Rattle.std.specs.Prelude.{List, IsTrue}
use Rattle.ns_types.specs.State.Lists.{Each}
use Rattle.ns_types.specs.State.Names.{Name}
use Rattle.ns_types.specs.Within.{IsGoodStep}
use Rattle.ns_json.specs.Logs.{log_text}
use Rattle.ns_json.specs.Replies.{Entry}
use Rattle.ns_log_reader.specs.Lines.{IsAsRead, IsLogOf, answer_fits, step_fits}

-- What the type of an entry guarantees: its step is within the limits of steps, and its numbers fit the program's integers.
pub record IsTyped (e : Entry) : Type 0 where
  pub good : IsGoodStep e.0
  pub step : IsTrue (step_fits e.0)
  pub answer : IsTrue (answer_fits e.1)

-- each policy that an entry puts has the rules that its text says
abbrev pub AreAsRead : List Entry → Type 0
AreAsRead log = Each (λ (e : Entry). IsAsRead e.0) log

-- the text of the log is read back as that log, and so has no bad line
abbrev pub IsReadBack : Name → List Entry → Type 0
IsReadBack secret log = IsLogOf (log_text secret log) secret log
