-- Every state that the server reaches is valid.
use Rattle.std.specs.Prelude.{◌≡◌, List, IsTrue}
use Rattle.ns_types.specs.declared.name.NameKind.TheVariants as NameKind
use Rattle.ns_types.specs.declared.step.Step.{Step}
use Rattle.ns_types.specs.State.Lists.{Each}
use Rattle.ns_types.specs.State.Name.{is_name}
use Rattle.ns_types.specs.State.Names.{Name}
use Rattle.ns_types.specs.State.Rows.{State}
use Rattle.ns_types.specs.Steps.{Answer, said, after, opening, Run}
use Rattle.ns_types.specs.Validity.{IsValid}
use Rattle.ns_types.specs.Within.{IsGoodStep}

-- A step whose names, members and lists are within the limits leads from a valid state to a valid one, whatever its
-- answer.
abbrev pub ValidStep : Type 0
ValidStep = (s s' : State) (step : Step) (answer : Answer) → IsValid s → IsGoodStep step →
    after step s ≡ said answer s' → IsValid s'

-- The server's opening state is valid if its bootstrap secret is spelled as a secret must be.
abbrev pub OpeningValid : Type 0
OpeningValid = (secret : Name) → IsTrue (is_name NameKind.Secret secret) → IsValid (opening secret)

-- So each state that the server reaches from its opening state, with such a bootstrap secret and by steps within the
-- limits, is valid.
abbrev pub ReachedIsValid : Type 0
ReachedIsValid = (secret : Name) (s : State) (steps : List Step) (answers : List Answer) →
    IsTrue (is_name NameKind.Secret secret) → Each IsGoodStep steps
    → Run (opening secret) steps answers s → IsValid s
