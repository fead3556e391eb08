-- What the counts say after one more call.
use Rattle.std.proofs.Common.{◌≡◌, ◌≢◌, ℕ, ◌+◌, ◌-◌, ◌^◌, ◌<◌, ◌≤◌, min, ◌⊎◌, inl, inr, Bool, true, false, refl, ap, ◌∙◌, arith}
use Rattle.std.specs.Prelude.{not, ◌&&◌, ◌||◌, Result, Ok, Err, IsTrue, nat_lt}
use Rattle.std.specs.declared.io.Error.{Error}
use Rattle.std.proofs.lemmas.Bool.{ne_eqb, or_from, cases_lt, lt-ltb}
use Rattle.std.proofs.Math.Bool.{or-true}
use Rattle.ns_http.specs.declared.counting.Counts.{Counts}
use Rattle.ns_http.specs.Counts.{CountsRead, IsOpen, HasGrown, HasFailed, IsWriteFault, more, more_if, after_write, is_interruption}

-- no read came after the end or a failure
pub last_read : (c k : Counts) (r : Result ℕ Error) → CountsRead c k r → IsOpen c → k.went_on ≡ false
last_read c k r e o = ap (λ x. x.went_on) e.counts ∙ or_from _ _ o.went_on (or_from _ _ o.ended o.broken)

-- bytes or the end came, and no failure
pub no_break : (c k : Counts) (n : ℕ) → CountsRead c k (Ok n) → IsOpen c → k.broken ≡ false
no_break c k n e o = ap (λ x. x.broken) e.counts ∙ or_from _ _ o.broken refl

-- bytes came
pub open_after_some : (c k : Counts) (n : ℕ) → CountsRead c k (Ok n) → n ≢ 0 → IsOpen c → IsOpen k
open_after_some c k n e some o = record {
  ended = ap (λ x. x.ended) e.counts ∙ or_from _ _ o.ended (ap (λ b. b && nat_lt 0 e.room) (ne_eqb n 0 some));
  broken = no_break c k n e o;
  went_on = last_read c k (Ok n) e o;
}

-- the read was interrupted
pub open_after_interruption : (c k : Counts) (error : Error) → CountsRead c k (Err error) →
    is_interruption error ≡ true → IsOpen c → IsOpen k
open_after_interruption c k error e interrupted o = record {
  ended = ap (λ x. x.ended) e.counts ∙ or_from _ _ o.ended refl;
  broken = ap (λ x. x.broken) e.counts ∙ or_from _ _ o.broken (ap not interrupted);
  went_on = last_read c k (Err error) e o;
}

-- the end came
pub ended_after : (c k : Counts) → CountsRead c k (Ok 0) → IsTrue k.ended
ended_after c k e = ap (λ x. x.ended) e.counts ∙ ap (λ b. c.ended || b) (lt-ltb 0 e.room (omega (arith, e.wide))) ∙ or-true c.ended

pub calls_after : (c k : Counts) (r : Result ℕ Error) → CountsRead c k r → k.calls ≡ min (c.calls + 1) (2 ^ 64 - 1)
calls_after c k r e = ap (λ x. x.calls) e.counts

pub room_after : (c k : Counts) (r : Result ℕ Error) → CountsRead c k r → min c.least_room 65536 ≤ k.least_room
room_after c k r e = omega (arith, ap (λ x. x.least_room) e.counts, e.wide)

one_more : (m n : ℕ) → n ≡ min (m + 1) (2 ^ 64 - 1) → (m < n) ⊎ (n ≡ 2 ^ 64 - 1)
one_more m n e = elim (cases_lt m (2 ^ 64 - 1)) [ inl below ↦ inl (omega arith) | inr above ↦ inr (omega arith) ]

-- the read failed otherwise
pub failed_read : (c k : Counts) (error : Error) → CountsRead c k (Err error) → is_interruption error ≡ false → HasFailed c k
failed_read c k error e other = one_more _ _ (ap (λ x. x.faults) e.counts ∙ ap (λ b. more_if (not b) c.faults) other)

pub HasFailed-after : (u v w : Counts) → u.faults ≤ v.faults → HasFailed v w → HasFailed u w
HasFailed-after u v w grows (inl more) = inl (omega arith)
HasFailed-after u v w grows (inr most) = inr most

pub IsWriteFault-after : (u v w : Counts) → HasGrown u v → IsWriteFault v w → IsWriteFault u w
IsWriteFault-after u v w g (inl failed) = inl (HasFailed-after u v w g.faults failed)
IsWriteFault-after u v w g (inr (inl more)) = inr (inl (omega (arith, g.interruptions)))
IsWriteFault-after u v w g (inr (inr most)) = inr (inr most)

pub HasGrown-then : (u v w : Counts) → HasGrown u v → HasGrown v w → HasGrown u w
HasGrown-then u v w a b = record {
  faults = omega (arith, a.faults, b.faults);
  interruptions = omega (arith, a.interruptions, b.interruptions);
}

pub HasGrown-none : (u : Counts) → HasGrown u u
HasGrown-none u = record { faults = omega arith; interruptions = omega arith }

-- no write came after a failure
pub last_write : (c k : Counts) (b : Bool) (r : Result ℕ Error) → k ≡ after_write c b r → IsOpen c → k.went_on ≡ false
last_write c k b r e o = ap (λ x. x.went_on) e ∙ or_from _ _ o.went_on o.broken

-- some bytes were taken
pub open_after_taken : (c k : Counts) (b : Bool) (n : ℕ) → k ≡ after_write c b (Ok n) → n ≢ 0 → IsOpen c → IsOpen k
open_after_taken c k b n e some o = record {
  ended = ap (λ x. x.ended) e ∙ o.ended;
  broken = ap (λ x. x.broken) e ∙ or_from _ _ o.broken (ap (λ x. x && b) (ne_eqb n 0 some));
  went_on = last_write c k b (Ok n) e o;
}

-- the write was interrupted
pub open_after_interrupted : (c k : Counts) (b : Bool) (error : Error) → k ≡ after_write c b (Err error) →
    is_interruption error ≡ true → IsOpen c → IsOpen k
open_after_interrupted c k b error e interrupted o = record {
  ended = ap (λ x. x.ended) e ∙ o.ended;
  broken = ap (λ x. x.broken) e ∙ or_from _ _ o.broken (ap (λ i. not i || (false && b)) interrupted);
  went_on = last_write c k b (Err error) e o;
}

-- so many interrupted writes, or as many as are counted
abbrev pub AreInterrupted : Counts → Counts → ℕ → Type 0
AreInterrupted old new n = (old.interruptions + n ≤ new.interruptions) ⊎ (new.interruptions ≡ 2 ^ 64 - 1)

pub interrupted_none : (c : Counts) → AreInterrupted c c 0
interrupted_none c = inl (omega arith)

pub interrupted_same : (c k l : Counts) (b : Bool) (n m : ℕ) → AreInterrupted c k n → l ≡ after_write k b (Ok m) → AreInterrupted c l n
interrupted_same c k l b n m (inl some) e = inl (omega (arith, some, ap (λ x. x.interruptions) e))
interrupted_same c k l b n m (inr most) e = inr (ap (λ x. x.interruptions) e ∙ most)

pub interrupted_more : (c k l : Counts) (b : Bool) (n : ℕ) (error : Error) → AreInterrupted c k n → l ≡ after_write k b (Err error) →
    is_interruption error ≡ true → AreInterrupted c l (n + 1)
interrupted_more c k l b n error a e interrupted =
    let count : l.interruptions ≡ min (k.interruptions + 1) (2 ^ 64 - 1) =
    ap (λ x. x.interruptions) e ∙ ap (λ i. more_if i k.interruptions) interrupted in
    elim a [
      | inl some ↦ elim (one_more _ _ count) [ inl rose ↦ inl (omega arith) | inr most ↦ inr most ]
      | inr most ↦ inr (omega arith)
    ]
