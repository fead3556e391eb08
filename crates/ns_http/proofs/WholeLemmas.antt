-- How far an input was read.
use Rattle.std.proofs.Common.{◌≡◌, ℕ, ◌+◌, ◌-◌, ◌^◌, ◌≤◌, ◌⊎◌, inl, inr, false, List, [], ◌++◌, length, take, sym, ◌∙◌, subst, arith}
use Rattle.std.specs.Prelude.{Option, Result, Err}
use Rattle.std.specs.Io.KnownBytes.{Consumes, Keeps}
use Rattle.std.specs.declared.io.Error.{Error}
use Rattle.std.proofs.lemmas.List.{take-append-le, take_all}
use Rattle.ns_http.specs.declared.counting.Counts.{Counts}
use Rattle.ns_http.specs.Counts.{CountsRead, IsOpen, after_read, is_interruption}
use Rattle.ns_http.specs.Whole.{FailsToRead}
use Rattle.ns_http.proofs.CountsLemmas.{HasFailed-after, calls_after, failed_read}
use Rattle.ns_http.proofs.ServeLemmas.{Keeps_from_none, calls_more}
use Rattle.ns_http.proofs.StreamLemmas.{Consumes-kept, Consumes-none, Consumes-then}

-- by so many reads these bytes
pub record HasRead (remaining remaining' : Option (List ℕ)) (read : List ℕ) (reads : ℕ) (old new : Counts) : Type 0 where
  pub consumes : Consumes remaining remaining' read
  pub calls_most : new.calls ≤ old.calls + reads
  pub calls_least : (old.calls + reads ≤ new.calls) ⊎ (new.calls ≡ 2 ^ 64 - 1)
  pub faults : old.faults ≤ new.faults
  pub keeps_open : IsOpen old → IsOpen new

pub counts_read : (k l : Counts) (room : ℕ) (r : Result ℕ Error) → room ≡ 65536 → l ≡ after_read k room r → CountsRead k l r
counts_read k l room r wide e = record { room = room; wide = omega arith; counts = e }

pub none_read : (r : Option (List ℕ)) (read : List ℕ) (k : Counts) → read ≡ [] → HasRead r r read 0 k k
none_read r read k e = record {
  consumes = subst (Consumes r r) (sym e) (Consumes-none r);
  calls_most = omega arith;
  calls_least = inl (omega arith);
  faults = omega arith;
  keeps_open = λ o. o;
}

pub more_read : {r0 r1 : Option (List ℕ)} {read : List ℕ} {i : ℕ} {k0 k1 : Counts} (h : HasRead r0 r1 read i k0 k1) (r2 : Option (List ℕ))
    (more read' : List ℕ) (k2 : Counts) (result : Result ℕ Error) → Consumes r1 r2 more → read' ≡ read ++ more → CountsRead k1 k2 result →
    k1.faults ≤ k2.faults → (IsOpen k1 → IsOpen k2) → HasRead r0 r2 read' (i + 1) k0 k2
more_read {r0} {r1} {read} {i} {k0} {k1} h r2 more read' k2 result consumes joined counts grows stays = record {
  consumes = subst (Consumes r0 r2) (sym joined) (Consumes-then r0 r1 r2 read more h.consumes consumes);
  calls_most = omega (arith, h.calls_most, calls_after k1 k2 result counts);
  calls_least = calls_more k0.calls i k1.calls k2.calls h.calls_least (calls_after k1 k2 result counts);
  faults = omega (arith, h.faults);
  keeps_open = λ o. stays (h.keeps_open o);
}

pub same_read : {r0 r1 : Option (List ℕ)} {read : List ℕ} {i : ℕ} {k0 k1 : Counts} (h : HasRead r0 r1 read i k0 k1) (r2 : Option (List ℕ))
    (read' : List ℕ) (k2 : Counts) (result : Result ℕ Error) → Keeps r1 r2 → read' ≡ read → CountsRead k1 k2 result →
    k1.faults ≤ k2.faults → (IsOpen k1 → IsOpen k2) → HasRead r0 r2 read' (i + 1) k0 k2
same_read {r0} {r1} {read} {i} {k0} {k1} h r2 read' k2 result keeps same counts grows stays = record {
  consumes = subst (Consumes r0 r2) (sym same) (Consumes-kept r0 r1 r2 read h.consumes keeps);
  calls_most = omega (arith, h.calls_most, calls_after k1 k2 result counts);
  calls_least = calls_more k0.calls i k1.calls k2.calls h.calls_least (calls_after k1 k2 result counts);
  faults = omega (arith, h.faults);
  keeps_open = λ o. stays (h.keeps_open o);
}

-- a read that gave no byte
pub all_read : {r0 r1 : Option (List ℕ)} {read : List ℕ} {i : ℕ} {k0 k1 : Counts} (h : HasRead r0 r1 read i k0 k1) (r2 : Option (List ℕ))
    (none : List ℕ) → Consumes r1 r2 none → length none ≡ 0 → Consumes r0 r2 read
all_read {r0} {r1} {read} h r2 none consumes empty = Consumes-kept r0 r1 r2 read h.consumes (Keeps_from_none r1 r2 none consumes empty)

-- the read failed otherwise than by interruption
pub read_fails : {r0 r1 : Option (List ℕ)} {read : List ℕ} {i : ℕ} {k0 k1 : Counts} (h : HasRead r0 r1 read i k0 k1) (k2 : Counts)
    (error : Error) → CountsRead k1 k2 (Err error) → is_interruption error ≡ false → FailsToRead k0 k2
read_fails {r0} {r1} {read} {i} {k0} {k1} h k2 error counts other = inl (HasFailed-after k0 k1 k2 h.faults (failed_read k1 k2 error counts other))

-- there were as many reads as there may be
pub reads_out : {r0 r1 : Option (List ℕ)} {read : List ℕ} {i : ℕ} {k0 k1 : Counts} (h : HasRead r0 r1 read i k0 k1) → i ≡ 16777216 → FailsToRead k0 k1
reads_out {r0} {r1} {read} {i} {k0} {k1} h e = inr (elim h.calls_least [ inl some ↦ inl (omega arith) | inr most ↦ inr most ])

-- what was read into all of the room
pub whole_buffer : (n : ℕ) (buffer rest : List ℕ) → length buffer ≡ n → take n (buffer ++ rest) ≡ buffer
whole_buffer n buffer rest e = take-append-le n buffer rest (omega arith) ∙ take_all n buffer (omega arith)
