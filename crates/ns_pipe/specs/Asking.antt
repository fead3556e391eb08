-- What the words of the command line ask for, and its texts.
use Rattle.std.specs.Prelude.{◌≡◌, ◌≢◌, ℕ, List, string_bytes}
use Rattle.ns_api.specs.declared.following.Driven.{Driven}
use Rattle.ns_pipe.specs.declared.asked.WordsRead.{WordsRead}
use Rattle.ns_pipe.specs.declared.printed.Printed.{Printed}
use Rattle.ns_pipe.specs.declared.replay.replay.Replay.{Replay}

-- the words do not ask to serve a connection
abbrev pub IsNoConnection : WordsRead → Type 0
IsNoConnection asked =
    (secret : List ℕ) (driven : Driven) (printed : Printed) → asked ≢ WordsRead.Pipe secret driven printed

-- the words do not ask to replay a log
abbrev pub IsNoReplay : WordsRead → Type 0
IsNoReplay asked = (replay : Replay) → asked ≢ WordsRead.Alone replay

-- the words ask for this help
abbrev pub IsHelp : WordsRead → List ℕ → Type 0
IsHelp (WordsRead.Pipe secret driven printed) text = ⊥
IsHelp (WordsRead.Alone replay) text = ⊥
IsHelp (WordsRead.Help help) text = string_bytes help ≡ text
IsHelp (WordsRead.Mistake reason) text = ⊥
IsHelp WordsRead.NoMemory text = ⊥

-- the words are a mistake, for this reason
abbrev pub IsMistake : WordsRead → List ℕ → Type 0
IsMistake (WordsRead.Pipe secret driven printed) text = ⊥
IsMistake (WordsRead.Alone replay) text = ⊥
IsMistake (WordsRead.Help help) text = ⊥
IsMistake (WordsRead.Mistake reason) text = string_bytes reason ≡ text
IsMistake WordsRead.NoMemory text = ⊥
