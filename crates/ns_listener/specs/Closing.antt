-- A server whose threads have ended.
use Rattle.std.specs.Prelude.{◌≡◌, ℕ, true, List, Option, IfOk}
use Rattle.ns_types.specs.State.Names.{Name}
use Rattle.ns_log.specs.Segments.{Given, texts_of}
use Rattle.ns_http.specs.Counts.{HasGrown}
use Rattle.ns_http.specs.declared.counting.Counted.{Counted}
use Rattle.ns_listener.specs.Keeping.{WritesText}
use Rattle.ns_listener.specs.Printing.{IsRunOf}
use Rattle.ns_listener.specs.declared.closing.Closing.{Closing}
use Rattle.ns_listener.specs.declared.keeper.Keeper.{Keeper}

-- The keeper has this secret, and wrote these segments, up to its fault if there is one. If it kept all of them, it has them.
pub record HasWritten {W : Type 0} (contents : W → Option (List ℕ)) (secret : Name) (writer : Counted W) (keeper : Keeper W)
    : Type 0 where
  pub segments : List Given
  pub same_secret : keeper.secret ≡ secret
  pub writes : WritesText contents keeper.fault writer keeper.writer (texts_of secret segments)
  pub grows : HasGrown writer.counts keeper.writer.counts
  pub kept : keeper.is_whole ≡ true → keeper.segments.items ≡ segments

-- the server that closes has the secret, the fault and the writer of this keeper
abbrev pub IsLeftBy : {W : Type 0} → Keeper W → Closing W → Type 0
IsLeftBy keeper closing =
    (closing.secret ≡ keeper.secret) × (closing.fault ≡ keeper.fault) × (closing.writer ≡ keeper.writer)

-- segments were written, up to the fault if there is one; and if the log settled, it is a run that begins with them
pub record IsClosing {W : Type 0} (contents : W → Option (List ℕ)) (secret : Name) (writer : Counted W) (closing : Closing W)
    : Type 0 where
  pub segments : List Given
  pub writes : WritesText contents closing.fault writer closing.writer (texts_of secret segments)
  pub grows : HasGrown writer.counts closing.writer.counts
  pub settled : IfOk closing.settled (IsRunOf secret segments)
