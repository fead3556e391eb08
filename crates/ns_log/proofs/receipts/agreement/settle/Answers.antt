use Rattle.std.proofs.Common.{List, Result, Ok, Err, IsOkUnless, MatchResult, map, vec_items, refl}
use Rattle.ns_json.specs.Replies.{Entry}
use Rattle.ns_log.specs.declared.receipts.fault.SettleFault.{SettleFault}
use Rattle.ns_log.specs.declared.receipts.fault.SettleFault.TheVariants.{Mismatch, Memory}
use Rattle.ns_log.specs.declared.receipts.receipt.Receipt.{Receipt}
use Rattle.ns_log.specs.Faults.{IsMismatch}
use Rattle.ns_log.specs.Settling.{Settles}
use Rattle.ns_log.proofs.LawLemmas.{settled_is_not_faulted}
use Rattle.ns_log.proofs.receipts.agreement.settle.Goals as goal

-- an answer that is yes or tells the first fault is yes where receipts and log settle
yes_where_settled : {A : Type 0} (log : List Entry) (seats : List (List Receipt)) (r : Result A SettleFault)
    → MatchResult r (λ _. Settles log seats) (IsMismatch log seats) → Settles log seats → IsOkUnless r Memory
yes_where_settled log seats (Ok x) answer settled = tt
yes_where_settled log seats (Err (Mismatch seat place)) answer settled = absurd (settled_is_not_faulted log seats seat place settled answer)
yes_where_settled log seats (Err Memory) answer settled = refl

pub returns-clause-settled : goal.returns-clause-settled
returns-clause-settled c = yes_where_settled c.args.log.now (map vec_items c.args.seats.now) c.settle_marking.result c.settle_marking.ensures
