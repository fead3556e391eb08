-- Reading the tokens of a text, one a turn.
use Rattle.std.proofs.Common.{◌≡◌, ℕ, suc, ◌+◌, ◌-◌, ◌<◌, ◌≤◌, List, [], ◌∷◌, length, true, false, eqb, Ok, Err, refl, sym, ◌∙◌, arith, true≢false}
use Rattle.std.proofs.lemmas.Bool.{eqb-true}
use Rattle.ns_policy.specs.declared.fault.RuleFault.{RuleFault}
use Rattle.ns_policy.specs.declared.fault.RuleFault.TheVariants.{Syntax, Value, Memory}
use Rattle.ns_policy.specs.declared.parser.State.{State}
use Rattle.ns_policy.specs.Lex.{RulesToken, skip}
use Rattle.ns_policy.specs.Rules.{Read, ◌>>=◌, Fails}
use Rattle.ns_policy.specs.Grammar.{next, step, read_on}

turn : (n i : ℕ) (s : State) (rest : List ℕ) → i < n → eqb (length rest) 0 ≡ false →
    read_on (n - i) s rest ≡ (next rest >>= λ t. step s t.0 >>= λ after. read_on (n - (i + 1)) after (skip false t.1))
unfolding read_on
turn n i s [] lt some = absurd (true≢false some)
turn n i s (x ∷ xs) lt some =
    let k : n - i ≡ suc (n - (i + 1)) = omega arith in
    rw k refl

pub goes_on : (n i : ℕ) (s after : State) (rest : List ℕ) (t : RulesToken × List ℕ) (total : Read State) → i < n →
    eqb (length rest) 0 ≡ false → next rest ≡ Ok t →
    step s t.0 ≡ Ok after
    → read_on (n - i) s rest ≡ total → read_on (n - (i + 1)) after (skip false t.1) ≡ total
goes_on n i s after rest t total lt some one two so_far =
    let step_is : read_on (n - i) s rest ≡ read_on (n - (i + 1)) after (skip false t.1) = turn n i s rest lt some ∙ rw (one, two) refl in
    sym step_is ∙ so_far

pub fails_at : (f : RuleFault) (n i : ℕ) (s : State) (rest : List ℕ) (total : Read State) → i < n → eqb (length rest) 0 ≡ false → Fails f (next rest) →
    read_on (n - i) s rest ≡ total → Fails f total
fails_at Memory n i s rest total lt some bad so_far = tt
fails_at Syntax n i s rest total lt some bad so_far = let e : read_on (n - i) s rest ≡ Err Syntax = turn n i s rest lt some ∙ rw bad refl in sym so_far ∙ e
fails_at Value n i s rest total lt some bad so_far = let e : read_on (n - i) s rest ≡ Err Value = turn n i s rest lt some ∙ rw bad refl in sym so_far ∙ e

pub fails_then : (f : RuleFault) (n i : ℕ) (s : State) (rest : List ℕ) (t : RulesToken × List ℕ) (total : Read State) → i < n → eqb (length rest) 0 ≡ false →
    next rest ≡ Ok t → Fails f (step s t.0)
    → read_on (n - i) s rest ≡ total → Fails f total
fails_then Memory n i s rest t total lt some one bad so_far = tt
fails_then Syntax n i s rest t total lt some one bad so_far = let e : read_on (n - i) s rest ≡ Err Syntax = turn n i s rest lt some ∙ rw (one, bad) refl in
    sym so_far ∙ e
fails_then Value n i s rest t total lt some one bad so_far = let e : read_on (n - i) s rest ≡ Err Value = turn n i s rest lt some ∙ rw (one, bad) refl in
    sym so_far ∙ e

pub ended : (k : ℕ) (s : State) (rest : List ℕ) (total : Read State) → eqb (length rest) 0 ≡ true → read_on k s rest ≡ total → total ≡ Ok s
unfolding read_on
ended k s [] total none so_far = sym so_far
ended k s (x ∷ xs) total none so_far = let zero_is : suc (length xs) ≡ 0 = eqb-true _ _ none in absurd (omega arith)

pub out_of_turns : (n i : ℕ) (s : State) (rest : List ℕ) (total : Read State) → n ≤ i → eqb (length rest) 0 ≡ false → read_on (n - i) s rest ≡ total →
    total ≡ Err Syntax
unfolding read_on
out_of_turns n i s [] total le some so_far = absurd (true≢false some)
out_of_turns n i s (x ∷ xs) total le some so_far =
    let k : n - i ≡ 0 = omega arith in
    let e : read_on (n - i) s (x ∷ xs) ≡ Err Syntax = rw k refl in
    sym so_far ∙ e
