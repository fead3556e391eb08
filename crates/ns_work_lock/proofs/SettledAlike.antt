-- What settles, and what does not, over the segments and the log after them.
use Rattle.std.specs.Prelude.{◌≡◌, ℕ, Bool, true, false, List, drop, length, Result, Ok, Err, IfOk, IsOkUnless, OnOk}
use Rattle.std.specs.Result.{IsErrOf}
use Rattle.std.proofs.Common.{ap, sym, subst, ◌∙◌, inl, inr}
use Rattle.ns_types.specs.State.Rows.{State}
use Rattle.ns_json.specs.Replies.{Entry, IsKept}
use Rattle.ns_log.specs.declared.receipts.fault.SettleFault.{SettleFault}
use Rattle.ns_log.specs.declared.receipts.receipt.Receipt.{Receipt}
use Rattle.ns_log.specs.Settling.{Settles}
use Rattle.ns_replay.specs.declared.rerun.rerunning.RerunFault.{RerunFault}
use Rattle.ns_replay.specs.Rerunning.{IsNoRunAt}
use Rattle.ns_log.specs.Segments.{Follows, Given, IsGap, joined}
use Rattle.ns_log.proofs.Joined.{no_gap, rest_after}
use Rattle.ns_work_lock.specs.Settling.{IsMismatch, IsOf, Settlement, SettlesNot}
use Rattle.ns_types.proofs.Lists.{not_both}

-- ---- a fault, by what it says

abbrev is_memory : SettleFault → Bool
is_memory SettleFault.Memory = true
is_memory (SettleFault.Mismatch seat place) = false

abbrev seat_of : SettleFault → ℕ
seat_of (SettleFault.Mismatch seat place) = seat
seat_of SettleFault.Memory = 0

abbrev place_of : SettleFault → ℕ
place_of (SettleFault.Mismatch seat place) = place
place_of SettleFault.Memory = 0

abbrev pub fault_of : {T : Type 0} → Result T SettleFault → SettleFault
fault_of (Ok x) = SettleFault.Memory
fault_of (Err fault) = fault

-- no mismatch is told of what went well, nor for want of memory
pub no_mismatch : {T X : Type 0} (r : Result T SettleFault) (seat place : ℕ) → fault_of r ≡ SettleFault.Memory →
    IsErrOf r (SettleFault.Mismatch seat place) → X
no_mismatch r seat place memory is = not_both (ap is_memory memory) (ap (λ x. is_memory (fault_of x)) is)

pub same_fault : {S T : Type 0} (fault : SettleFault) (seat place : ℕ) → IsErrOf {T = S} (Err fault) (SettleFault.Mismatch seat place) →
    IsErrOf {T = T} (Err fault) (SettleFault.Mismatch seat place)
same_fault fault seat place is = ap (λ x. Err (fault_of x)) is

pub same_seat : {T : Type 0} (n p seat place : ℕ) → IsErrOf {T = T} (Err (SettleFault.Mismatch n p)) (SettleFault.Mismatch seat place) → n ≡ seat
same_seat n p seat place is = ap (λ x. seat_of (fault_of x)) is

pub same_place : {T : Type 0} (n p seat place : ℕ) → IsErrOf {T = T} (Err (SettleFault.Mismatch n p)) (SettleFault.Mismatch seat place) → p ≡ place
same_place n p seat place is = ap (λ x. place_of (fault_of x)) is

-- ---- a log that is no run

pub no_run : {T : Type 0} (first : State) (log : List Entry) (seats : List (List Receipt)) (n p seat place : ℕ) → n ≡ length seats →
    Settles log seats → IsNoRunAt first log p → IsErrOf {T = T} (Err (SettleFault.Mismatch n p)) (SettleFault.Mismatch seat place) →
    SettlesNot first log seats seat place
no_run first log seats n p seat place counts settles unfit is = inr (
  settles,
  sym (same_seat n p seat place is) ∙ counts,
  subst (IsNoRunAt first log) (same_place n p seat place is) unfit,
)

-- a log that is a run has no entry that is none
pub kept_is_run : {X : Type 0} (fault : RerunFault) {place : ℕ} → fault ≡ RerunFault.NotARun place → fault ≡ RerunFault.Memory → X
kept_is_run fault {place} is memory = let never : RerunFault.NotARun place ≡ RerunFault.Memory = sym is ∙ memory in absurd (not_memory place never)
  where
    not_memory : (p : ℕ) → RerunFault.NotARun p ≡ RerunFault.Memory → ⊥
    not_memory p e = cc

-- ---- segments

-- the joined log and the receipts that were handed in, by equal ones
module _ (first : State) (segments : List Given) (start given : ℕ) (log whole : List Entry) (seats lists : List (List Receipt))
    (starts : given ≡ start) (joins : whole ≡ joined segments log) (same : lists ≡ seats) where
  pub gaps : {T : Type 0} (n p seat place : ℕ) → n ≡ length lists → IsGap 0 segments given p →
      IsErrOf {T = T} (Err (SettleFault.Mismatch n p)) (SettleFault.Mismatch seat place) →
      IsMismatch first segments start log seats seat place
  gaps n p seat place counts gap is = inl (
    sym (same_seat n p seat place is) ∙ counts ∙ ap length same,
    subst (λ to. IsGap 0 segments to place) starts (subst (IsGap 0 segments given) (same_place n p seat place is) gap),
  )

  pub gap_is_unsettled : {X : Type 0} (p : ℕ) → IsGap 0 segments given p → Follows 0 segments start → X
  gap_is_unsettled p gap f = absurd (no_gap 0 segments given p (subst (Follows 0 segments) (sym starts) f) gap)

  settles_on : Settles whole lists → Settles (joined segments log) seats
  settles_on s = subst (λ l. Settles l seats) joins (subst (Settles whole) same s)

  settles_back : Settles (joined segments log) seats → Settles whole lists
  settles_back s = subst (λ l. Settles l lists) (sym joins) (subst (Settles (joined segments log)) (sym same) s)

  module _ (follow : Follows 0 segments given) where
    pub is_of : (r : Result Settlement SettleFault) → IfOk r (λ s. s.base ≡ first) → IfOk r (λ s. s.log ≡ whole) → IfOk r (λ s. s.given ≡ given) →
        IfOk r (IsOf first segments start log)
    is_of (Ok s) base logs gives = record {
      base = base;
      joins = logs ∙ joins;
      given = gives ∙ starts;
      rest = (λ i. drop (gives i) ((logs ∙ joins) i)) ∙ rest_after segments given log follow;
    }
    is_of (Err fault) base logs gives = tt

    pub follows : (r : Result Settlement SettleFault) → OnOk r (Follows 0 segments start)
    follows (Ok s) = subst (Follows 0 segments) starts follow
    follows (Err fault) = tt

    pub receipts : (r : Result Settlement SettleFault) → OnOk r (Settles whole lists) → OnOk r (Settles (joined segments log) seats)
    receipts (Ok s) settles = settles_on settles
    receipts (Err fault) settles = tt

    pub settled : (r : Result Settlement SettleFault) →
        ((last : State) → Settles whole lists → IsKept first whole last → IsOkUnless r SettleFault.Memory) →
        (last : State) → Settles (joined segments log) seats → IsKept first (joined segments log) last → IsOkUnless r SettleFault.Memory
    settled r by last settles kept = by last (settles_back settles) (subst (λ l. IsKept first l last) (sym joins) kept)

    pub mismatch : (r : Result Settlement SettleFault) →
        ((seat place : ℕ) → IsErrOf r (SettleFault.Mismatch seat place) → SettlesNot first whole lists seat place) →
        (seat place : ℕ) → IsErrOf r (SettleFault.Mismatch seat place) → IsMismatch first segments start log seats seat place
    mismatch r by seat place is = inr (
      subst (Follows 0 segments) starts follow,
      subst (λ l. SettlesNot first l seats seat place) joins (subst (λ s. SettlesNot first whole s seat place) same (by seat place is)),
    )
