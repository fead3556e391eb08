-- Receipts grow by each call for a step, and so by calls one after the other.
use Rattle.std.specs.Prelude.{◌≡◌, ℕ, List, [], ◌∷◌, ◌++◌, Err}
use Rattle.std.proofs.Common.{refl, sym, ap, subst, ◌∙◌}
use Rattle.std.proofs.lemmas.List.{append_assoc, append-nil}
use Rattle.std.proofs.lemmas.List.Elements.{All-append, All-nil, All-cons}
use Rattle.ns_types.specs.declared.refusal.Refusal.{Refusal}
use Rattle.ns_types.specs.declared.reply.Rendered.{Rendered}
use Rattle.ns_types.specs.declared.step.Step.{Step}
use Rattle.ns_types.specs.Steps.{Answer}
use Rattle.ns_log.specs.declared.receipts.receipt.Receipt.{Receipt}
use Rattle.ns_work_lock.specs.Receiving.{Receives, receipt}
use Rattle.ns_workers.specs.Growing.{Grows}

pub grows_same : (IsOwn : Step → Type 0) (receipts : List Receipt) → Grows IsOwn receipts receipts
grows_same IsOwn receipts = record {
  more = [];
  is_grown = sym (append-nil receipts);
  are_own = All-nil (λ (receipt : Receipt). IsOwn receipt.step);
}

pub grows_then : (IsOwn : Step → Type 0) (old mid new : List Receipt) → Grows IsOwn old mid → Grows IsOwn mid new → Grows IsOwn old new
grows_then IsOwn old mid new first then = record {
  more = first.more ++ then.more;
  is_grown = then.is_grown ∙ ap (λ x. x ++ then.more) first.is_grown ∙ append_assoc old first.more then.more;
  are_own = All-append (λ (receipt : Receipt). IsOwn receipt.step) first.more then.more first.are_own then.are_own;
}

gains : (IsOwn : Step → Type 0) (step : Step) (old : List Receipt) (r : Rendered) (place : ℕ) → IsOwn step →
    Grows IsOwn old (old ++ receipt place step r ∷ [])
gains IsOwn step old r place own = record {
  more = receipt place step r ∷ [];
  is_grown = refl;
  are_own = All-cons (λ (receipt : Receipt). IsOwn receipt.step) (receipt place step r) [] own (All-nil (λ (receipt : Receipt). IsOwn receipt.step));
}

same_grows : (IsOwn : Step → Type 0) (old new : List Receipt) → new ≡ old → Grows IsOwn old new
same_grows IsOwn old new is = subst (Grows IsOwn old) (sym is) (grows_same IsOwn old)

-- by one call
pub grows_by : (IsOwn : Step → Type 0) (step : Step) (old : List Receipt) (answer : Answer) (new : List Receipt) → IsOwn step →
    Receives step old answer new → Grows IsOwn old new
grows_by IsOwn step old (Err Refusal.Memory) new own r = same_grows IsOwn old new r
grows_by IsOwn step old (Err Refusal.LogFull) new own r = same_grows IsOwn old new r
grows_by IsOwn step old (Err Refusal.NotEnabled) new own r = same_grows IsOwn old new r
grows_by IsOwn step old (Err Refusal.Foreign) new own r = same_grows IsOwn old new r.1
grows_by IsOwn step old answer new own r = subst (Grows IsOwn old) (sym r.1) (gains IsOwn step old _ r.0 own)
