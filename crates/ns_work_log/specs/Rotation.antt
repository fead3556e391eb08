-- A log is given out, and the next one begins.
use Rattle.std.specs.Prelude.{◌≡◌, ◌+◌, ◌-◌, [], length, min}
use Rattle.ns_log.specs.Segments.{Given}
use Rattle.ns_work_log.specs.Logs.{History, places_end}

-- the log was given out whole; the next one is empty and begins in the present state, behind all entries that were given out
pub record IsRotated (old : History) (segment : Given) (new : History) : Type 0 where
  pub gives_start : segment.start ≡ old.start
  pub gives_log : segment.log ≡ old.log
  pub base : new.base ≡ old.state
  pub start : new.start ≡ old.start + length old.log
  pub log : new.log ≡ []
  pub state : new.state ≡ old.state
  -- the next log takes as many entries as this one, as far as there are places
  pub limit : new.limit ≡ min old.limit (places_end - new.start)
