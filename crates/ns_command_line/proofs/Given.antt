-- What is given is found in the rows of the subcommand that the words name.
use Rattle.std.proofs.Common.{◌≡◌, ◌∙◌, ap, refl, List, Option, Some, None, option_and_then, option_map, Bool, true, false, if◌then◌else◌}
use Rattle.std.proofs.lemmas.Slice.Eq.{bytes_eq-Decides}
use Rattle.std.specs.Str.{bytes_eq}
use Rattle.clap.specs.Words.{Row, Text, subcommand_name_of, subcommand_rows_of}
use Rattle.clap.specs.declared.parser.matches.ArgMatches.{ArgMatches}
use Rattle.ns_command_line.specs.Given.{Named}

composed : {A B C : Type 0} (f : A → B) (g : B → C) (o : Option A) → option_map g (option_map f o) ≡ option_map (λ x. g (f x)) o
composed f g None = refl
composed f g (Some x) = refl

chosen : {A : Type 0} (b : Bool) (x : Option A) → b ≡ true → (if b then x else None) ≡ x
chosen true x e = refl
chosen false x e = cc

among : {A : Type 0} (value : List Row → Option A) (command : Text) (named : Named) (rows : List Row) →
    option_map (λ p. p.0) named ≡ Some command → option_map (λ p. p.1) named ≡ Some rows →
    option_and_then (λ p. if bytes_eq p.0 command then value p.1 else None) named ≡ value rows
among value command None rows f g = cc
among value command (Some p) rows f g =
    let is : p.0 ≡ command = cc in
    let same : p.1 ≡ rows = cc in
    chosen (bytes_eq p.0 command) (value p.1) ((bytes_eq-Decides p.0 command).1 is) ∙ ap value same

-- a value of the rows of that subcommand
pub of_named : {A : Type 0} (value : List Row → Option A) (command : Text) (matches : ArgMatches) (rows : List Row) →
    subcommand_name_of matches ≡ Some command → option_map (λ p. p.1) (subcommand_rows_of matches) ≡ Some rows →
    option_and_then (λ p. if bytes_eq p.0 command then value p.1 else None) (subcommand_rows_of matches) ≡ value rows
of_named value command matches rows is same =
    let name_is : option_map (λ (p : Text × List Row). p.0) (subcommand_rows_of matches) ≡ subcommand_name_of matches = composed _ _ _ in
    among value command (subcommand_rows_of matches) rows (name_is ∙ is) same
