-- How the segments of a server's log are written, and kept where the log is settled.
use Rattle.std.specs.Prelude.{◌≡◌, ℕ, true, List, ◌∷◌, [], ◌++◌, Option, Some, None}
use Rattle.ns_log.specs.Segments.{Given, text_of}
use Rattle.ns_http.specs.Counts.{HasGrown}
use Rattle.ns_http.specs.Output.{WritesAll, WritesPart}
use Rattle.ns_http.specs.declared.counting.Counted.{Counted}
use Rattle.ns_http.specs.declared.engine.ConnFault.{ConnFault}
use Rattle.ns_faults.specs.Lines.{FailsToWrite}
use Rattle.ns_listener.specs.declared.keeper.Keeper.{Keeper}

module _ {W : Type 0} (contents : W → Option (List ℕ)) where
  -- the text was written: all of it, or, if there was a fault, a first part
  abbrev pub WritesText : Option ConnFault → Counted W → Counted W → List ℕ → Type 0
  WritesText None old new text = WritesAll contents old new text
  WritesText (Some ConnFault.Write) old new text = FailsToWrite contents old new text
  WritesText (Some ConnFault.Memory) old new text = WritesPart contents old new text
  WritesText (Some ConnFault.Read) old new text = ⊥

  -- the text was written, with the fault before and the fault after; where there was one before, nothing was written
  abbrev pub WritesBy : Option ConnFault → Option ConnFault → Counted W → Counted W → List ℕ → Type 0
  WritesBy None after old new text = WritesText after old new text
  WritesBy (Some fault) after old new text = (after ≡ Some fault) × (new ≡ old)

  -- the keeper took a segment: it wrote it after what was written before and, if it keeps all segments, kept it after the
  -- others
  pub record IsTaken (old : Keeper W) (segment : Given) (new : Keeper W) : Type 0 where
    pub secret : new.secret ≡ old.secret
    pub writes : WritesBy old.fault new.fault old.writer new.writer (text_of old.secret segment)
    pub grows : HasGrown old.writer.counts new.writer.counts
    pub kept : new.is_whole ≡ true → (old.is_whole ≡ true) × (new.segments.items ≡ old.segments.items ++ segment ∷ [])
