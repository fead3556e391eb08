-- The error that a `?` hands on, and the faults that `clap` finds.
use Rattle.std.proofs.Common.{◌≡◌, ◌∙◌, ◌⊎◌, List, [], inl, inr, refl, subst, sym, true, Result, Ok, Err}
use Rattle.std.specs.Prelude.{IfErr, IfOk, IsErrAnd}
use Rattle.clap.specs.Words.{App, IsAmong, Kinds, Text, fault_of, is_simple_and_free}
use Rattle.clap.specs.declared.error.Error.{Error}
use Rattle.clap.specs.declared.error.kind.ErrorKind.{ErrorKind}
use Rattle.ns_command_line.specs.Words.{AreTaken, AskHelp, program_words}

-- the same error
pub err_is : {T : Type 0} (Holds : Error → Type 0) (r : Result T Error) (e : Error) → IsErrAnd r (λ y. y ≡ e) → Holds e → IfErr r Holds
err_is Holds (Ok x) e is h = tt
err_is Holds (Err y) e is h = subst Holds (sym is) h

-- no value comes with an error
pub none_is_ok : {T : Type 0} (Holds : T → Type 0) (r : Result T Error) (e : Error) → IsErrAnd r (λ y. y ≡ e) → IfOk r Holds
none_is_ok Holds (Ok x) e is = absurd is
none_is_ok Holds (Err y) e is = tt

pub any_ok : {T : Type 0} (Holds : Type 0) (r : Result T Error) → Holds → IfOk r (λ _. Holds)
any_ok Holds (Ok x) h = h
any_ok Holds (Err e) h = tt

-- want of memory, or one of these
abbrev IsOf : Kinds → ErrorKind → Type 0
IsOf kinds kind = (kind ≡ ErrorKind.OutOfMemory) ⊎ IsAmong kind kinds

-- what a command finds that has the words of the program: no fault, or one of them
pub no_fault : (app : App) (words : List Text) → app ≡ program_words → (is_simple_and_free app ≡ true → fault_of app words ≡ []) → AreTaken words
no_fault app words is found = subst (λ a. is_simple_and_free a ≡ true → fault_of a words ≡ []) is found refl

pub of_fault : (app : App) (words : List Text) (kind : ErrorKind) → app ≡ program_words →
    (is_simple_and_free app ≡ true → IsOf (fault_of app words) kind) → IsOf (fault_of program_words words) kind
of_fault app words kind is found = subst (λ a. is_simple_and_free a ≡ true → IsOf (fault_of a words) kind) is found refl

-- an error of words without a fault is want of memory
pub only_memory : (words : List Text) (kind : ErrorKind) → AreTaken words → IsOf (fault_of program_words words) kind → kind ≡ ErrorKind.OutOfMemory
only_memory words kind taken is = elim (subst (λ kinds. IsOf kinds kind) taken is) [ inl memory ↦ memory | inr among ↦ absurd among ]

pub only_help : (words : List Text) (kind : ErrorKind) → AskHelp words → IsOf (fault_of program_words words) kind →
    (kind ≡ ErrorKind.OutOfMemory) ⊎ (kind ≡ ErrorKind.DisplayHelp)
only_help words kind help is = elim (subst (λ kinds. IsOf kinds kind) help is) [
  | inl memory ↦ inl memory
  | inr among ↦ elim among [ inl asked ↦ inr asked | inr none ↦ absurd none ]
]

-- words that ask for help have a fault
pub help_is_a_fault : (words : List Text) → AskHelp words → AreTaken words → ⊥
help_is_a_fault words help taken = let e = sym help ∙ taken in cc
