-- What is left of a server, from its keeper and how it settled.
use Rattle.std.specs.Prelude.{◌≡◌, ℕ, List, Option, None, Some, Result, Ok, Err, IfOk, IsErr, IsTrue, OnOk}
use Rattle.std.proofs.Common.{refl, subst, sym, ◌∙◌}
use Rattle.ns_types.specs.State.Names.{Name}
use Rattle.ns_log.specs.Segments.{Given, texts_of}
use Rattle.ns_log.specs.declared.receipts.fault.SettleFault.{SettleFault}
use Rattle.ns_http.specs.Counts.{HasGrown}
use Rattle.ns_http.specs.declared.counting.Counted.{Counted}
use Rattle.ns_http.specs.declared.engine.ConnFault.{ConnFault}
use Rattle.ns_work_lock.specs.Settling.{Settlement}
use Rattle.ns_listener.specs.Closing.{HasWritten, IsClosing, IsLeftBy}
use Rattle.ns_listener.specs.Faults.{settle_fault}
use Rattle.ns_listener.specs.Keeping.{WritesText}
use Rattle.ns_listener.specs.Printing.{IsRunOf}
use Rattle.ns_listener.specs.declared.closing.Closing.{Closing}
use Rattle.ns_listener.specs.declared.fault.ServeFault.{ServeFault}
use Rattle.ns_listener.specs.declared.keeper.Keeper.{Keeper}
use Rattle.ns_listener.proofs.Ends.{run_of}
use Rattle.ns_listener.proofs.Written.{not_read}

-- the fault is a mismatch only where settling found one
pub mismatch_of : (P : ℕ → ℕ → Type 0) (found : SettleFault) (fault : ServeFault) → fault ≡ settle_fault found → fault ≡ ServeFault.Mismatch →
    ((seat place : ℕ) → found ≡ SettleFault.Mismatch seat place → P seat place) → (seat : ℕ) × (place : ℕ) × P seat place
mismatch_of P (SettleFault.Mismatch seat place) fault is was all = (seat, place, all seat place refl)
mismatch_of P SettleFault.Memory fault is was all = let never : ⊥ = cc in absurd never

pub no_run : (r : Result Settlement ServeFault) (secret : Name) (segments : List Given) → IsErr r → IfOk r (IsRunOf secret segments)
no_run (Ok s) secret segments is = let never : ⊥ = cc in absurd never
no_run (Err fault) secret segments is = tt

module _ {W : Type 0} (contents : W → Option (List ℕ)) (secret : Name) (writer : Counted W) (keeper : Keeper W) (closing : Closing W)
    (w : HasWritten contents secret writer keeper) (l : IsLeftBy keeper closing) where
  pub closing_of : IfOk closing.settled (IsRunOf secret w.segments) → IsClosing contents secret writer closing
  closing_of settled = record {
    segments = w.segments;
    writes = subst (λ f. WritesText contents f writer closing.writer (texts_of secret w.segments)) (sym l.1)
        (subst (λ v. WritesText contents keeper.fault writer v (texts_of secret w.segments)) (sym l.2) w.writes);
    grows = subst (λ (v : Counted W). HasGrown writer.counts v.counts) (sym l.2) w.grows;
    settled = settled;
  }

  pub run_settled : IfOk closing.settled (IsRunOf keeper.secret keeper.segments.items) → OnOk closing.settled (IsTrue keeper.is_whole) →
      IfOk closing.settled (IsRunOf secret w.segments)
  run_settled run whole = run_of keeper.secret secret keeper.segments.items w.segments keeper.is_whole closing.settled w.same_secret w.kept run whole

  pub same_secret : closing.secret ≡ secret
  same_secret = l.0 ∙ w.same_secret

  pub unrotated : (keeper.fault ≡ None) × (keeper.writer ≡ writer) → (closing.fault ≡ None) × (closing.writer ≡ writer)
  unrotated same = (l.1 ∙ same.0, l.2 ∙ same.1)

  pub no_read : closing.fault ≡ Some ConnFault.Read → ⊥
  no_read is = not_read contents keeper.fault writer keeper.writer (texts_of secret w.segments) w.writes (sym l.1 ∙ is)
