-- A command that takes arguments, or subcommands, one after the other.
use Rattle.std.proofs.Common.{◌≡◌, ◌∙◌, ◌||◌, ◌+◌, ◌<◌, ℕ, Bool, List, [], ◌∷◌, ap, ap₂, false, fold, length, map, refl, sym, take, true, Result, Ok, Err}
use Rattle.std.proofs.Math.ListN.{get_or}
use Rattle.std.proofs.lemmas.List.Sums.{fold_more}
use Rattle.std.proofs.lemmas.List.{get_or-map, length-map}
use Rattle.std.specs.Borrow.{Bor}
use Rattle.std.specs.Prelude.{IfOk}
use Rattle.clap.specs.Built.{AddsArg, AddsInTurn, AddsSubcommand}
use Rattle.clap.specs.Words.{App, Rule, app_of, rule_of, with_rule}
use Rattle.clap.specs.declared.builder.arg.Arg.{Arg}
use Rattle.clap.specs.declared.builder.command.Command.{Command}
use Rattle.clap.specs.declared.builder.command.Command.TheViews.{out-Command}
use Rattle.ns_command_line.specs.Serve.{option_rule}
use Rattle.ns_command_line.specs.Words.{with_app}

-- each of the first goes with the one that stands beside it
abbrev pub GoTogether : {X Y : Type 0} → (X → Y → Type 0) → List X → List Y → Type 0
GoTogether goes [] [] = Unit {0}
GoTogether goes [] (y ∷ ys) = ⊥
GoTogether goes (x ∷ xs) [] = ⊥
GoTogether goes (x ∷ xs) (y ∷ ys) = goes x y × GoTogether goes xs ys

module _ {X Y : Type 0} (adds : Command → X → Command → Type 0) (goes : X → Y → Type 0) where
  -- where each adds what stands beside it, all add it in turn
  added_in_turn : (with_one : App → Y → App) → ((x : X) (y : Y) (old new : Command) → adds old x new → goes x y → app_of new ≡ with_one (app_of old) y) →
      (xs : List X) (ys : List Y) (old new : Command) → AddsInTurn adds old xs new → GoTogether goes xs ys → app_of new ≡ fold with_one (app_of old) ys
  added_in_turn with_one each [] [] old new all together = ap app_of (sym all)
  added_in_turn with_one each [] (y ∷ ys) old new all together = absurd together
  added_in_turn with_one each (x ∷ xs) [] old new all together = absurd together
  added_in_turn with_one each (x ∷ xs) (y ∷ ys) old new all together = added_in_turn with_one each xs ys all.0 new all.2 together.1
      ∙ ap (λ app. fold with_one app ys) (each x y old all.0 all.1 together.0)

-- ---- arguments

-- the argument has the rule, and holds for its own command alone
abbrev pub HasRule : Arg → Rule → Type 0
HasRule arg rule = (rule_of arg ≡ rule) × (arg.global ≡ false)

pub args_added : (args : List Arg) (rules : List Rule) (old new : Command) → AddsInTurn AddsArg old args new → GoTogether HasRule args rules →
    app_of new ≡ fold with_rule (app_of old) rules
args_added = added_in_turn AddsArg HasRule with_rule
    (λ arg rule old new adds has. adds.shape has.1 ∙ ap (with_rule (app_of old)) has.0)

abbrev or_else : Bool → Bool → Bool
or_else a b = a || b

pub stays_local : (args : List Arg) (rules : List Rule) (old new : Command) → AddsInTurn AddsArg old args new → GoTogether HasRule args rules →
    (out-Command old).has_globals ≡ false → (out-Command new).has_globals ≡ false
stays_local [] [] old new adds have is = ap (λ c. (out-Command c).has_globals) (sym adds) ∙ is
stays_local [] (rule ∷ rules) old new adds have is = absurd have
stays_local (arg ∷ args) [] old new adds have is = absurd have
stays_local (arg ∷ args) (rule ∷ rules) old new adds have is =
    stays_local args rules adds.0 new adds.2 have.1 (adds.1.globals ∙ ap₂ or_else is have.0.1)

-- ---- options, by their words

abbrev OptionWords : Type 0
OptionWords = Bor (List ℕ) × Bor (List ℕ) × Bor (List ℕ)

abbrev rule_for : OptionWords → Rule
rule_for words = option_rule words.0.now

-- one more option
pub option_added : (start : App) (options : List OptionWords) (i : ℕ) (d : OptionWords) (old new : Command) (arg : Arg) → i < length options →
    app_of old ≡ fold with_rule start (take i (map rule_for options)) → AddsArg old arg new → rule_of arg ≡ rule_for (get_or options i d) →
    arg.global ≡ false → app_of new ≡ fold with_rule start (take (i + 1) (map rule_for options))
option_added start options i d old new arg lt so_far adds is local =
    let within : i < length (map rule_for options) = rw (length-map options rule_for) lt in
    let same = get_or-map rule_for options i d (rule_for d) lt in
    let more = fold_more with_rule start (map rule_for options) i (rule_for d) within in
    adds.shape local ∙ ap (with_rule (app_of old)) is ∙ ap (λ app. with_rule app (rule_for (get_or options i d))) so_far
    ∙ sym (more ∙ ap (with_rule (fold with_rule start (take i (map rule_for options)))) same)

or_false : (b : Bool) → (b || false) ≡ b
or_false true = refl
or_false false = refl

-- an argument for its own command alone changes nothing for others
pub stays_as_local : (start old new : Command) (arg : Arg) → (out-Command old).has_globals ≡ (out-Command start).has_globals →
    AddsArg old arg new → arg.global ≡ false → (out-Command new).has_globals ≡ (out-Command start).has_globals
stays_as_local start old new arg so_far adds local = adds.globals ∙ ap₂ or_else so_far local ∙ or_false _

-- ---- subcommands

-- the subcommand is that one, and has no argument that holds for others
abbrev pub IsApp : Command → App → Type 0
IsApp command app = (app_of command ≡ app) × ((out-Command command).has_globals ≡ false)

pub subcommand_added : (command : Command) (app : App) (old new : Command) → AddsSubcommand old command new → IsApp command app →
    app_of new ≡ with_app (app_of old) app
subcommand_added command app old new adds is = adds.shape is.1 ∙ ap (with_app (app_of old)) is.0

-- the same of a subcommand that was made if there was memory
pub both : {E : Type 0} (app : App) (made : Result Command E) → IfOk made (λ command. app_of command ≡ app) →
    IfOk made (λ command. (out-Command command).has_globals ≡ false) → IfOk made (λ command. IsApp command app)
both app (Ok command) is local = (is, local)
both app (Err e) is local = tt
