use Rattle.std.proofs.Common.{◌≡◌, ◌+◌, ◌∙◌, ℕ, List, [], length, length-append, map, ap, arith}
use Rattle.std.specs.List.{range_with_len}
use Rattle.std.proofs.lemmas.List.{length-map}
use Rattle.std.proofs.lemmas.List.FromFn.{length-range_with_len}
use Rattle.ns_log.specs.declared.receipts.receipt.Receipt.{Receipt}
use Rattle.ns_listener.specs.Duties.{duties_of}
use Rattle.ns_listener.specs.declared.duty.Duty.{Duty}
use Rattle.ns_listener.specs.declared.duty.Duty.TheVariants.{Connections, Worker}
use Rattle.ns_listener.proofs.threads.prepare.Goals as goal

-- as many as drawers and workers
many : {D : Type 0} (drawers : List D) (workers : ℕ) → length (duties_of drawers workers) ≡ length drawers + workers
many {D = D} drawers workers =
    let connected : D → Duty D = Connections in
    let numbered : ℕ → Duty D = Worker in
    omega (
      arith,
      length-append (map connected drawers) (map numbered (range_with_len 0 workers)),
      length-map drawers connected,
      length-map (range_with_len 0 workers) numbered,
      length-range_with_len 0 workers,
    )

many_seated : {D : Type 0} (drawers : List D) (workers : ℕ) (duties : List (Duty D)) (jobs : List (Duty D × List Receipt)) →
    duties ≡ duties_of drawers workers → jobs ≡ map (λ duty. (duty, [])) duties → length jobs ≡ length drawers + workers
many_seated {D = D} drawers workers duties jobs are seated =
    ap length seated ∙ length-map duties (λ (duty : Duty D). (duty, [])) ∙ ap length are ∙ many drawers workers

pub returns : goal.returns
returns g c =
    let jobs = c.in_ok-jobs.jobs in
    let drawers = c.args.draws in
    let seated = many_seated drawers.items c.args.workers c.in_ok-duties.duties.items jobs.items c.in_ok-duties.ensures c.in_ok-jobs.ensures in
    omega (arith, seated, jobs.ok.0, drawers.ok.0)
