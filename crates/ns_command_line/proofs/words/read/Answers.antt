use Rattle.std.proofs.Common.{◌≡◌, ◌∙◌, ap, inl, inr, refl, subst, sym}
use Rattle.clap.specs.Walk.{texts}
use Rattle.clap.specs.Words.{subcommand_of}
use Rattle.clap.specs.declared.error.kind.ErrorKind.{ErrorKind}
use Rattle.ns_pipe.specs.declared.asked.WordsRead.{WordsRead}
use Rattle.ns_command_line.specs.declared.wanted.Invocation.{Invocation}
use Rattle.ns_command_line.specs.Words.{IsWanted, IsWish, program_words}
use Rattle.ns_command_line.proofs.Errors.{help_is_a_fault, only_help}
use Rattle.ns_command_line.proofs.Wanting.{nothing_wanted}
use Rattle.ns_command_line.proofs.words.read.Goals as goal

value_is_no_wish : (kind : ErrorKind) → kind ≡ ErrorKind.ValueValidation → IsWish kind → ⊥
value_is_no_wish kind is wish = elim wish [ inl help ↦ let e = sym is ∙ help in cc | inr version ↦ let e = sym is ∙ version in cc ]

pub returns-in-Ok-clause-gives : goal.returns-in-Ok-clause-gives
returns-in-Ok-clause-gives c = λ secret driven printed e. record {
  taken = c.in-Ok.ensures.taken;
  gives = subst (IsWanted (subcommand_of program_words (texts c.args.words.now))) e c.in-Ok.ensures.gives;
}

pub returns-in-Ok-clause-gives_alone : goal.returns-in-Ok-clause-gives_alone
returns-in-Ok-clause-gives_alone c = λ replay e. record {
  taken = c.in-Ok.ensures.taken;
  gives = subst (IsWanted (subcommand_of program_words (texts c.args.words.now))) e c.in-Ok.ensures.gives;
}

pub returns-in-Ok-clause-gives_serve : goal.returns-in-Ok-clause-gives_serve
returns-in-Ok-clause-gives_serve c = λ service e. record {
  taken = c.in-Ok.ensures.taken;
  gives = subst (IsWanted (subcommand_of program_words (texts c.args.words.now))) e c.in-Ok.ensures.gives;
}

pub returns-in-Ok-clause-good : goal.returns-in-Ok-clause-good
returns-in-Ok-clause-good c = λ secret driven printed asks.
    inl (c.in-Ok.ensures.good (Invocation.Run (WordsRead.Pipe secret driven printed)) asks.taken asks.gives).0

pub returns-in-Ok-clause-good_alone : goal.returns-in-Ok-clause-good_alone
returns-in-Ok-clause-good_alone c = λ replay asks.
    inl (c.in-Ok.ensures.good (Invocation.Run (WordsRead.Alone replay)) asks.taken asks.gives).0

pub returns-in-Ok-clause-good_serve : goal.returns-in-Ok-clause-good_serve
returns-in-Ok-clause-good_serve c = λ service asks.
    inl (c.in-Ok.ensures.good (Invocation.Serve service) asks.taken asks.gives).0

pub returns-in-Ok-clause-bad : goal.returns-in-Ok-clause-bad
returns-in-Ok-clause-bad c = λ bad. elim bad [
  | inl refused ↦ absurd (refused.faulty c.in-Ok.ensures.taken)
  | inr misgiven ↦ absurd (nothing_wanted _ _ misgiven c.in-Ok.ensures.gives)
]

pub returns-in-Ok-clause-help : goal.returns-in-Ok-clause-help
returns-in-Ok-clause-help c = λ help. absurd (help_is_a_fault (texts c.args.words.now) help c.in-Ok.ensures.taken)

pub returns-in-Err-clause-gives : goal.returns-in-Err-clause-gives
returns-in-Err-clause-gives c = λ secret driven printed e.
    absurd (c.help_or_mistake.ensures.no_pipe secret driven printed cc)

pub returns-in-Err-clause-gives_alone : goal.returns-in-Err-clause-gives_alone
returns-in-Err-clause-gives_alone c = λ replay e. absurd (c.help_or_mistake.ensures.no_alone replay cc)

pub returns-in-Err-clause-good : goal.returns-in-Err-clause-good
returns-in-Err-clause-good c = λ secret driven printed asks.
    let kind = (c.in-Err.ensures.good (Invocation.Run (WordsRead.Pipe secret driven printed)) asks.taken asks.gives).1 in
    inr (ap Invocation.Run (c.help_or_mistake.ensures.memory kind))

pub returns-in-Err-clause-good_alone : goal.returns-in-Err-clause-good_alone
returns-in-Err-clause-good_alone c = λ replay asks.
    let kind = (c.in-Err.ensures.good (Invocation.Run (WordsRead.Alone replay)) asks.taken asks.gives).1 in
    inr (ap Invocation.Run (c.help_or_mistake.ensures.memory kind))

pub returns-in-Err-clause-good_serve : goal.returns-in-Err-clause-good_serve
returns-in-Err-clause-good_serve c = λ service asks.
    let kind = (c.in-Err.ensures.good (Invocation.Serve service) asks.taken asks.gives).1 in
    inr (ap Invocation.Run (c.help_or_mistake.ensures.memory kind))

pub returns-in-Err-clause-bad : goal.returns-in-Err-clause-bad
returns-in-Err-clause-bad c = λ bad. (
  c.help_or_mistake.result,
  refl,
  elim bad [
    | inl refused ↦ elim (c.in-Err.ensures.faulty refused.faulty) [
      | inl memory ↦ inr (c.help_or_mistake.ensures.memory memory)
      | inr among ↦ c.help_or_mistake.ensures.mistake (refused.no_wish _ among)
    ]
    | inr misgiven ↦ elim (c.in-Err.ensures.bad misgiven.taken) [
      | inl value ↦ c.help_or_mistake.ensures.mistake (value_is_no_wish _ value)
      | inr memory ↦ inr (c.help_or_mistake.ensures.memory memory)
    ]
  ],
)

pub returns-in-Err-clause-help : goal.returns-in-Err-clause-help
returns-in-Err-clause-help c = λ help. (
  c.help_or_mistake.result,
  refl,
  elim (only_help (texts c.args.words.now) _ help (c.in-Err.ensures.faulty (help_is_a_fault (texts c.args.words.now) help))) [
    | inl memory ↦ inr (c.help_or_mistake.ensures.memory memory)
    | inr is ↦ c.help_or_mistake.ensures.help (inl is)
  ],
)
