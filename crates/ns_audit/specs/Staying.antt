-- How long a namespace has its pools and its quotas to itself: only a put of a namespace can end it.
use Rattle.std.specs.Prelude.{◌≡◌, Bool, true, false, List, [], ◌∷◌, Some}
use Rattle.ns_types.specs.declared.allocation.Allocation.{Allocation}
use Rattle.ns_types.specs.declared.step.AdminCommand.{AdminCommand}
use Rattle.ns_types.specs.declared.step.Step.{Step}
use Rattle.ns_types.specs.Access.Sharing.{is_apart}
use Rattle.ns_types.specs.Isolation.{part_of, alone, Agree, struck, struck_answers, is_crowded_out, IsIsolated}
use Rattle.ns_types.specs.State.Names.{Name, Key}
use Rattle.ns_types.specs.State.Rows.{State, World, is_held, is_live, allocation_at}
use Rattle.ns_types.specs.Steps.{Answer, said, after, Run}
use Rattle.ns_audit.specs.Orderly.{IsSteady}

-- the allocation is at that key, and its client status is `pending` or `running`
abbrev pub IsHeldAt : World → Key → Allocation → Type 0
IsHeldAt w key a = (allocation_at w key ≡ Some a) × (is_held a.client ≡ true)

-- Whatever the state and the step: take an allocation that after the step is to stop, while its client status is still
-- `pending` or `running`. It was there before the step, with one of these client statuses and in the same pool.
abbrev pub HeldStep : Type 0
HeldStep = (s s' : State) (step : Step) (answer : Answer) (key : Key) (a : Allocation) → after step s ≡ said answer s' →
    IsHeldAt s'.world key a → is_live a ≡ false → (old : Allocation) × IsHeldAt s.world key old × (old.pool ≡ a.pool)

abbrev pub puts_namespace : Step → Bool
puts_namespace (Step.Admin secret (AdminCommand.PutNamespace name namespace)) = true
puts_namespace _ = false

-- In a state that has what isolation rests on, let a namespace have these pools and quotas to itself. After any step
-- but a put of a namespace it still has them to itself.
abbrev pub ApartStep : Type 0
ApartStep = (ns : Name) (pools quotas : List Name) (s s' : State) (step : Step) (answer : Answer) → IsSteady s →
    is_apart s.world ns pools quotas ≡ true → puts_namespace step ≡ false → after step s ≡ said answer s' →
    is_apart s'.world ns pools quotas ≡ true

-- A run such that the namespace has these pools and quotas to itself after each put of a namespace, and that no put of
-- its own is refused because its table is full on the whole server.
abbrev pub IsApartAfterPuts : Name → List Name → List Name → State → List Step → List Answer → State → Type 0
IsApartAfterPuts ns pools quotas s [] [] s' = s' ≡ s
IsApartAfterPuts ns pools quotas s (step ∷ steps) (answer ∷ answers) s' =
    (mid : State) × (after step s ≡ said answer mid)
    × (is_crowded_out (part_of ns pools quotas) step s answer ≡ false)
    × (puts_namespace step ≡ true → is_apart mid.world ns pools quotas ≡ true)
    × IsApartAfterPuts ns pools quotas mid steps answers s'
IsApartAfterPuts ns pools quotas s [] (answer ∷ answers) s' = ⊥
IsApartAfterPuts ns pools quotas s (step ∷ steps) [] s' = ⊥

-- If the namespace has these pools and quotas to itself at first, such a run is isolated: it has them to itself at
-- every state of the run.
abbrev pub StaysApart : Type 0
StaysApart = (ns : Name) (pools quotas : List Name) (s0 s1 : State) (steps : List Step) (answers : List Answer) →
    IsSteady s0 → is_apart s0.world ns pools quotas ≡ true → IsApartAfterPuts ns pools quotas s0 steps answers s1 →
    IsIsolated ns pools quotas s0 steps answers s1

-- Let the namespace have these pools and quotas to itself at first. Then the steps that are not its own can be struck
-- out of such a run. The rest is a run of the server that holds the namespace alone, with the same answers, and in the
-- end the namespace has the same.
abbrev pub StruckFromApart : Type 0
StruckFromApart = (ns : Name) (pools quotas : List Name) (s0 s1 : State) (steps : List Step) (answers : List Answer) →
    IsSteady s0 → is_apart s0.world ns pools quotas ≡ true → IsApartAfterPuts ns pools quotas s0 steps answers s1
    → let part = part_of ns pools quotas in
    (t1 : State) × Run (alone part s0) (struck part steps) (struck_answers part steps answers) t1 × Agree part s1 t1
