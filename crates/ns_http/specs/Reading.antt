-- What is read from a counted reader, by the known bytes that remain in it.
use Rattle.std.specs.Prelude.{◌≡◌, ℕ, List, ◌++◌, length, Option, Result}
use Rattle.std.specs.Io.KnownBytes.{Consumes, Keeps, ReadConsumes}
use Rattle.ns_http.specs.declared.counting.Counted.{Counted}

-- one read into these bytes
abbrev pub ReadsFrom : {R E : Type 0} → (R → Option (List ℕ)) → Counted R → Counted R → Result ℕ E → List ℕ → Type 0
ReadsFrom remaining old new result bytes = ReadConsumes (remaining old.inner) (remaining new.inner) result bytes

-- `n` bytes were read, and stand behind the bytes that were there before
abbrev pub Gains : {R : Type 0} → (R → Option (List ℕ)) → Counted R → Counted R → List ℕ → List ℕ → ℕ → Type 0
Gains remaining old new before after n =
    (more : List ℕ) × (length more ≡ n) × (after ≡ before ++ more)
    × Consumes (remaining old.inner) (remaining new.inner) more

abbrev pub GainsNothing : {R : Type 0} → (R → Option (List ℕ)) → Counted R → Counted R → List ℕ → List ℕ → Type 0
GainsNothing remaining old new before after = (after ≡ before) × Keeps (remaining old.inner) (remaining new.inner)
