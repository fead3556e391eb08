-- A run is determined by where it begins and by its steps, so a log that is a run has no entry that does not fit.
use Rattle.std.specs.Prelude.{◌≡◌, ℕ, List, [], ◌∷◌, Some, map, slice_get, take}
use Rattle.std.proofs.Common.{zero, suc, refl, sym, subst, ◌∙◌}
use Rattle.ns_types.specs.declared.step.Step.{Step}
use Rattle.ns_types.specs.State.Rows.{State}
use Rattle.ns_types.specs.Steps.{Answer, Run}
use Rattle.ns_types.proofs.Tests.{not_Some, same_Some}
use Rattle.ns_audit.proofs.StepLemmas.{one_outcome}
use Rattle.ns_json.specs.Replies.{Entry, IsKept, rendered}
use Rattle.ns_replay.specs.Replying.{FitsIn}
use Rattle.ns_replay.specs.declared.rerun.rerunning.RerunFault.{RerunFault}
use Rattle.ns_replay.specs.Rerunning.{IsNoRunAt, IsRerunFault}

pub run_once : (s x y : State) (steps : List Step) (answers others : List Answer) → Run s steps answers x → Run s steps others y → (answers ≡ others) × (x ≡ y)
run_once s x y [] [] [] run other = (refl, run ∙ sym other)
run_once s x y (step ∷ steps) (answer ∷ answers) (said_too ∷ others) run other =
    let one = one_outcome step s run.0 other.0 answer said_too run.1 other.1 in
    let rest = run_once run.0 x y steps answers others run.2 (subst (λ m. Run m steps others y) (sym one.1) other.2) in
    ((λ i. one.0 i ∷ rest.0 i), rest.1)
run_once s x y [] (answer ∷ answers) others run other = absurd run
run_once s x y [] [] (answer ∷ others) run other = absurd other
run_once s x y (step ∷ steps) [] others run other = absurd run
run_once s x y (step ∷ steps) (answer ∷ answers) [] run other = absurd other

-- ---- at a place of a log

pub fits_at : (log : List Entry) (place : ℕ) (entry : Entry) (s s1 : State) (answers : List Answer) → Run s (map (λ e. e.0) log) answers s1 →
    map rendered answers ≡ map (λ e. e.1) log → slice_get log place ≡ Some entry →
    (mid : State) × (before : List Answer) × Run s (map (λ e. e.0) (take place log)) before mid × FitsIn entry mid
fits_at [] place entry s s1 answers i logged at = absurd (not_Some entry at)
fits_at (e ∷ log) place entry s s1 [] i logged at = absurd i
fits_at (e ∷ log) zero entry s s1 (answer ∷ answers) i logged at =
    let here : rendered answer ≡ e.1 = cc in
    (s, [], refl, subst (λ e. FitsIn e s) (same_Some e entry at) (i.0, record { answer = answer; made = i.1; logged = here }))
fits_at (e ∷ log) (suc place) entry s s1 (answer ∷ answers) i logged at =
    let rest : map rendered answers ≡ map (λ e. e.1) log = cc in
    let later = fits_at log place entry i.0 s1 answers i.2 rest at in
    (later.0, answer ∷ later.1, (i.0, i.1, later.2), later.3)

pub kept_fits : (s s' : State) (log : List Entry) (place : ℕ) → IsKept s log s' → IsNoRunAt s log place → ⊥
kept_fits s s' log place kept n =
    let there = fits_at log place n.entry s s' kept.answers kept.run kept.rendering n.is_entry in
    n.unfit (subst (FitsIn n.entry) (run_once s there.0 n.state (map (λ e. e.0) (take place log)) there.1 n.before.answers there.2
    n.before.run).1 there.3)

-- what a log that is a run may lack is memory
pub kept_lacks_memory : (s t : State) (log : List Entry) (fault : RerunFault) → s ≡ t → IsRerunFault s log fault → (s' : State) → IsKept t log s' →
    fault ≡ RerunFault.Memory
kept_lacks_memory s t log (RerunFault.NotARun place) same f s' kept = absurd (kept_fits t s' log place kept (subst (λ x. IsNoRunAt x log place) same f))
kept_lacks_memory s t log RerunFault.Memory same f s' kept = refl
