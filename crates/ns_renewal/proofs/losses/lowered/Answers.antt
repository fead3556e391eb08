use Rattle.std.proofs.Common.{◌≡◌, ap, sym, ◌∙◌, cond, Some}
use Rattle.keyed.specs.Table.{row_at}
use Rattle.keyed.proofs.Tables.{slot_made}
use Rattle.ns_types.specs.State.Names.{Name, same_name}
use Rattle.ns_types.proofs.Named.{names}
use Rattle.ns_change.specs.Waiting.{lesser}
use Rattle.ns_renewal.specs.Losing.{job_number}
use Rattle.ns_renewal.proofs.Numbered.{job_put, row_nowhere}
use Rattle.ns_renewal.proofs.losses.lowered.Goals as goal
use Rattle.ns_renewal.proofs.losses.lowered.Goals.{in-Some, in-None}

pub set-requires : goal.set-requires
set-requires c = slot_made names c.match-jobs.jobs c.reserve.new.self c.args.job.now c.in_ok-reserve.ensures.ok

pub returns : goal.returns
returns c =
    let before : (id : Name) → row_at c.match-jobs.jobs id ≡ job_number c.args.jobs id = λ id. elim c.match-jobs.branch [
      | in-Some w ↦ ap (λ m. row_at m id) w.jobs-is ∙ sym (ap (λ t. job_number t id) w.in-Some.is)
      | in-None w ↦ ap (λ m. row_at m id) (w.jobs-is ∙ w.new-jobs.ensures) ∙ row_nowhere id ∙ sym (ap (λ t. job_number t id) w.in-None.is)
    ] in
    let job = c.args.job.now in
    let least = c.lesser-least.ensures ∙ ap (λ o. lesser o (Some c.args.number)) (c.get.ensures ∙ before job) in
    λ id. job_put c.match-jobs.jobs c.reserve.new.self c.set.new.self job c.lesser-least.result c.in_ok-reserve.ensures.ok c.set.ensures id
    ∙ (λ i. cond (same_name id job) (least i) (before id i))
