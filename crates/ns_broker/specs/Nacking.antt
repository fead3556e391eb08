-- What a nack does to the evaluation and to the world.
use Rattle.std.specs.Prelude.{◌≡◌, ℕ, ◌+◌, ◌<◌, ◌^◌, Some}
use Rattle.ns_types.specs.declared.evaluation.Evaluation.{Evaluation}
use Rattle.ns_types.specs.declared.evaluation.Status.TheVariants as Status
use Rattle.ns_types.specs.Working.Worker.{Worker}
use Rattle.ns_types.specs.Settling.Making.{change_tenant}
use Rattle.ns_types.specs.State.Names.{Name}
use Rattle.ns_types.specs.State.Rows.{World, Tenant, evaluation_at}
use Rattle.ns_types.specs.Validity.{IsSound}
use Rattle.ns_types.specs.Working.Looks.{worker_at}
use Rattle.ns_types.specs.Working.Queue.{promote}
use Rattle.ns_types.specs.Working.Work.{without_worker}
use Rattle.ns_change.specs.Changed.{put_evaluation, with_ready}

-- the evaluation that the worker has can get one more nack
abbrev pub HasNackLeft : World → ℕ → Name → Type 0
HasNackLeft w number ns = (worker : Worker) → (e : Evaluation) → worker_at w number ns ≡ Some worker →
    evaluation_at w (ns, worker.evaluation) ≡ Some e → e.nacks + 1 < 2 ^ 64

-- in a valid world, the evaluation that a worker has can get one more nack
abbrev pub SoundHasNackLeft : Type 0
SoundHasNackLeft = (w : World) → IsSound w → (number : ℕ) (ns : Name) → HasNackLeft w number ns

abbrev pub nacked : Evaluation → Evaluation
nacked e = record e { nacks = e.nacks + 1 }

abbrev pub failed : Evaluation → Evaluation
failed e = record e { nacks = e.nacks + 1; status = Status.Failed }

-- the evaluation has its new row, and the worker is idle
abbrev pub left : ℕ → ℕ → Evaluation → Tenant → Tenant
left number n row t = without_worker number (put_evaluation n row t)

-- the nack is counted, the worker is idle, and the evaluation is ready again, behind the others
abbrev pub put_back : ℕ → Name → ℕ → Evaluation → World → World
put_back number ns n e w = with_ready (ns, n) (change_tenant ns (left number n (nacked e)) w)

-- the nack is counted, the worker is idle, the evaluation has failed, and the next evaluation of its job is promoted
abbrev pub put_away : ℕ → Name → ℕ → Evaluation → World → World
put_away number ns n e w = promote ns e.job (change_tenant ns (left number n (failed e)) w)
