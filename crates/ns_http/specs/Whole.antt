-- An input that is read to its end.
use Rattle.std.specs.Prelude.{ℕ, ◌⊎◌, List, Option, IsTrue}
use Rattle.std.specs.Io.KnownBytes.{Consumes, IsAtEnd}
use Rattle.ns_http.specs.declared.counting.Counted.{Counted}
use Rattle.ns_http.specs.declared.counting.Counts.{Counts}
use Rattle.ns_http.specs.Counts.{HasFailed, IsReadOut}

-- these bytes were read, and nothing is left
pub record ReadsAll {R : Type 0} (remaining : R → Option (List ℕ)) (old new : Counted R) (bytes : List ℕ) : Type 0 where
  pub consumes : Consumes (remaining old.inner) (remaining new.inner) bytes
  pub at_end : IsAtEnd (remaining new.inner)
  pub ended : IsTrue new.counts.ended

-- the reader failed otherwise than by interruption, or may not be read further
abbrev pub FailsToRead : Counts → Counts → Type 0
FailsToRead old new = HasFailed old new ⊎ IsReadOut old new
