-- What a counted reader or writer counts.
use Rattle.std.specs.Prelude.{◌≡◌, ℕ, ◌+◌, ◌-◌, ◌^◌, ◌<◌, ◌≤◌, ◌⊎◌, min, Bool, true, false, not, ◌&&◌, ◌||◌, Result, Ok}
use Rattle.std.specs.Prelude.{Err, if◌then◌else◌, ◌==◌, nat_lt}
use Rattle.std.specs.IoError.{error_kind}
use Rattle.std.specs.declared.io.Error.{Error}
use Rattle.std.specs.declared.io.ErrorKind.{ErrorKind}
use Rattle.std.specs.declared.io.ErrorKind.TheVariants.{Interrupted}
use Rattle.ns_http.specs.declared.counting.Counts.{Counts}
use Rattle.ns_http.specs.declared.engine.TheConstants.{READ_LIMIT}
use Rattle.ns_http.specs.declared.input.TheConstants.{READ_ROOM}
use Rattle.ns_http.specs.declared.output.TheConstants.{INTERRUPTION_LIMIT}

-- the count and `n` more; it stops at the greatest `u64`
abbrev pub more : ℕ → ℕ → ℕ
more count n = min (count + n) (2 ^ 64 - 1)

-- the count, and one more if `counted`
abbrev pub more_if : Bool → ℕ → ℕ
more_if counted count = if counted then more count 1 else count

abbrev pub no_counts : Counts
no_counts = record {
  calls = 0;
  faults = 0;
  interruptions = 0;
  least_room = 2 ^ 64 - 1;
  ended = false;
  broken = false;
  went_on = false;
}

-- the call gave or took no byte
abbrev pub is_empty_call : Result ℕ Error → Bool
is_empty_call (Ok n) = n == 0
is_empty_call (Err e) = false

abbrev pub is_interrupted : ErrorKind → Bool
is_interrupted Interrupted = true
is_interrupted kind = false

-- the call was interrupted, and may be made again
abbrev pub is_interruption : Error → Bool
is_interruption e = is_interrupted (error_kind e)

abbrev pub is_interrupted_call : Result ℕ Error → Bool
is_interrupted_call (Ok n) = false
is_interrupted_call (Err e) = is_interruption e

-- the call failed otherwise than by interruption
abbrev pub is_break : Result ℕ Error → Bool
is_break (Ok n) = false
is_break (Err e) = not (is_interruption e)

abbrev pub after_call : Counts → Bool → Bool → Counts
after_call c interrupted failed = record c {
  calls = more c.calls 1;
  faults = more_if failed c.faults;
  interruptions = more_if interrupted c.interruptions;
  broken = c.broken || failed;
}

-- after a read, by the room that it was given
abbrev pub after_read : Counts → ℕ → Result ℕ Error → Counts
after_read c room result = record (after_call c (is_interrupted_call result) (is_break result)) {
  least_room = min c.least_room room;
  ended = c.ended || (is_empty_call result && nat_lt 0 room);
  went_on = c.went_on || (c.ended || c.broken);
}

-- the write failed, or took none of its bytes
abbrev pub is_lost : Bool → Result ℕ Error → Bool
is_lost has_bytes result = is_break result || (is_empty_call result && has_bytes)

-- after a write, by whether there were bytes to write
abbrev pub after_write : Counts → Bool → Result ℕ Error → Counts
after_write c has_bytes result = record (after_call c (is_interrupted_call result) (is_lost has_bytes result)) {
  went_on = c.went_on || c.broken;
}

-- one read was counted, which had room for at least `READ_ROOM` bytes
pub record CountsRead (old new : Counts) (result : Result ℕ Error) : Type 0 where
  pub room : ℕ
  pub wide : READ_ROOM ≤ room
  pub counts : new ≡ after_read old room result

-- No call found the end, failed otherwise than by interruption, or was a write that took none of its bytes.
pub record IsOpen (c : Counts) : Type 0 where
  pub ended : c.ended ≡ false
  pub broken : c.broken ≡ false
  pub went_on : c.went_on ≡ false

-- neither the count of faults nor the count of interruptions fell
pub record HasGrown (old new : Counts) : Type 0 where
  pub faults : old.faults ≤ new.faults
  pub interruptions : old.interruptions ≤ new.interruptions

-- a call failed otherwise than by interruption, or a write took none of its bytes: the count of faults rose, or is the greatest
-- `u64`
abbrev pub HasFailed : Counts → Counts → Type 0
HasFailed old new = (old.faults < new.faults) ⊎ (new.faults ≡ 2 ^ 64 - 1)

-- there were as many reads as one connection may make, or the count is the greatest `u64`
abbrev pub IsReadOut : Counts → Counts → Type 0
IsReadOut old new = (old.calls + READ_LIMIT ≤ new.calls) ⊎ (new.calls ≡ 2 ^ 64 - 1)

-- more calls were interrupted than may be made again, or the count is the greatest `u64`
abbrev pub IsInterruptedOut : Counts → Counts → Type 0
IsInterruptedOut old new =
    (old.interruptions + INTERRUPTION_LIMIT < new.interruptions) ⊎ (new.interruptions ≡ 2 ^ 64 - 1)

-- the writer failed, or was interrupted too often
abbrev pub IsWriteFault : Counts → Counts → Type 0
IsWriteFault old new = HasFailed old new ⊎ IsInterruptedOut old new
