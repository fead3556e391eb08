-- What isolation promises to a namespace that has its pools and its quotas to itself. Its own steps, administrators'
-- requests about its record, its pools, its quotas and the access lists among them, go on as if it were alone on the
-- server, and no other step changes what it has.
use Rattle.std.specs.Prelude.{◌≡◌, true, false, List}
use Rattle.ns_types.specs.declared.step.Step.{Step}
use Rattle.ns_types.specs.Access.Sharing.{is_apart}
use Rattle.ns_types.specs.Isolation.{part_of, alone, Agree, is_own, struck, struck_answers, is_crowded_out, IsIsolated}
use Rattle.ns_types.specs.State.Names.{Name}
use Rattle.ns_types.specs.State.Rows.{State}
use Rattle.ns_types.specs.Steps.{Answer, said, after, opening, Run}
use Rattle.ns_types.specs.Validity.{IsValid}
use Rattle.ns_audit.specs.Laws.{IsFit}
use Rattle.ns_audit.specs.Orderly.{IsSteady}

-- A valid state has what isolation rests on.
abbrev pub ValidIsSteady : Type 0
ValidIsSteady = (s : State) → IsValid s → IsSteady s

-- If a state has what isolation rests on, each step leads to a state that has it too.
abbrev pub SteadyStep : Type 0
SteadyStep = (s s' : State) (step : Step) (answer : Answer) → IsSteady s → after step s ≡ said answer s' → IsSteady s'

-- So each state that the server reaches from its opening state has what isolation rests on.
abbrev pub ReachedIsSteady : Type 0
ReachedIsSteady = (secret : Name) (s : State) (steps : List Step) (answers : List Answer) →
    Run (opening secret) steps answers s → IsSteady s

-- In a state that has what isolation rests on, let a namespace have these pools and quotas to itself. Then the
-- namespace, with these pools and quotas, is a choice that is fit for isolation: no namespace reaches over its border.
abbrev pub ApartIsFit : Type 0
ApartIsFit = (ns : Name) (pools quotas : List Name) (s : State) → IsSteady s →
    is_apart s.world ns pools quotas ≡ true → IsFit (part_of ns pools quotas) s

-- In a state that has what isolation rests on, let a namespace have these pools and quotas to itself. Each step of its
-- own gets the same answer from the server that holds the namespace alone, and the states agree again. The exception is
-- a put of a new name that is refused because its table is full on the whole server.
abbrev pub OwnStep : Type 0
OwnStep = (ns : Name) (pools quotas : List Name) (s t s' : State) (step : Step) (answer : Answer) → IsSteady s →
    is_apart s.world ns pools quotas ≡ true → Agree (part_of ns pools quotas) s t →
    is_own (part_of ns pools quotas) step ≡ true → is_crowded_out (part_of ns pools quotas) step s answer ≡ false →
    after step s ≡ said answer s' → (t' : State) × (after step t ≡ said answer t') × Agree (part_of ns pools quotas) s' t'

-- In a state that has what isolation rests on, let a namespace have these pools and quotas to itself. A step that is
-- not its own, and after which it still has them to itself, changes nothing that the namespace has, and no access list.
abbrev pub OtherStep : Type 0
OtherStep = (ns : Name) (pools quotas : List Name) (s t s' : State) (step : Step) (answer : Answer) → IsSteady s →
    is_apart s.world ns pools quotas ≡ true → is_apart s'.world ns pools quotas ≡ true →
    Agree (part_of ns pools quotas) s t → is_own (part_of ns pools quotas) step ≡ false →
    after step s ≡ said answer s' → Agree (part_of ns pools quotas) s' t

-- Take an isolated run from a valid state: the namespace has these pools and quotas to itself at every state, and no
-- put of its own is refused because its table is full on the whole server. Strike out every step that is not the
-- namespace's own. The rest is a run of the server that holds the namespace alone, with the same answers. In the end
-- the namespace has the same, and the access lists are the same.
abbrev pub StruckRun : Type 0
StruckRun = (ns : Name) (pools quotas : List Name) (s0 s1 : State) (steps : List Step) (answers : List Answer) →
    IsValid s0 → IsIsolated ns pools quotas s0 steps answers s1
    → let part = part_of ns pools quotas in
    (t1 : State) × Run (alone part s0) (struck part steps) (struck_answers part steps answers) t1 × Agree part s1 t1

-- The promise of `StruckRun` holds for an isolated run from every state that has what isolation rests on, as each state
-- that the server reaches has.
abbrev pub StruckSteadyRun : Type 0
StruckSteadyRun = (ns : Name) (pools quotas : List Name) (s0 s1 : State) (steps : List Step) (answers : List Answer) →
    IsSteady s0 → IsIsolated ns pools quotas s0 steps answers s1
    → let part = part_of ns pools quotas in
    (t1 : State) × Run (alone part s0) (struck part steps) (struck_answers part steps answers) t1 × Agree part s1 t1
