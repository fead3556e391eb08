-- The exit statuses of faults, and their lines on standard error.
use Rattle.std.specs.Prelude.{ℕ, ◌⊎◌, List, Option, codes}
use Rattle.ns_http.specs.Counts.{IsWriteFault}
use Rattle.ns_http.specs.Output.{WritesAll, WritesPart}
use Rattle.ns_http.specs.declared.counting.Counted.{Counted}
use Rattle.ns_http.specs.declared.engine.ConnFault.{ConnFault}

abbrev pub status_of : ConnFault → ℕ
status_of ConnFault.Read = 3
status_of ConnFault.Write = 4
status_of ConnFault.Memory = 5

abbrev pub line_of : ConnFault → List ℕ
line_of ConnFault.Read = codes "read fault\n"
line_of ConnFault.Write = codes "write fault\n"
line_of ConnFault.Memory = codes "out of memory\n"

abbrev pub mismatch_line : List ℕ
mismatch_line = codes "mismatch\n"

abbrev pub no_text_line : List ℕ
no_text_line = codes "error: a word is no text\n"

-- a first part of the bytes was written, and then the writer failed or was interrupted too often
abbrev pub FailsToWrite : {W : Type 0} → (W → Option (List ℕ)) → Counted W → Counted W → List ℕ → Type 0
FailsToWrite contents old new bytes = WritesPart contents old new bytes × IsWriteFault old.counts new.counts

-- all of the bytes were written, unless the writer failed
abbrev pub TriesToWrite : {W : Type 0} → (W → Option (List ℕ)) → Counted W → Counted W → List ℕ → Type 0
TriesToWrite contents old new bytes = WritesAll contents old new bytes ⊎ FailsToWrite contents old new bytes
