-- Whether a text begins with the line that was written.
use Rattle.std.proofs.Common.{◌≡◌, ◌+◌, ◌∷◌, [], ◌++◌, length, drop, Bool, true, false, eqb, refl, sym, ap, ◌∙◌, arith, length-append}
use Rattle.std.specs.Bool.{then_some}
use Rattle.std.specs.List.{starts_with}
use Rattle.std.proofs.lemmas.Bool.{eqb-true, eq-eqb, false≢true}
use Rattle.std.proofs.lemmas.Slice.Eq.{starts_is}
use Rattle.ns_types.specs.State.Names.{Name}
use Rattle.ns_json.specs.Logs.{line_of}
use Rattle.ns_log.specs.Lines.{IsLineLen}

begins : (text line : Name) → (starts_with eqb text line ≡ true → text ≡ line ++ drop (length line) text)
    × ((rest : Name) → text ≡ line ++ rest → starts_with eqb text line ≡ true)
begins text line = starts_is (λ a b. (eqb-true a b, eq-eqb a b)) text line (starts_with eqb text line) refl

-- whether the text begins with the line that was written, and how long that is
pub line_len_is : (text written line : Name) (begun : Bool) → written ≡ line_of line → begun ≡ starts_with eqb text written →
    IsLineLen text line (then_some begun (length written))
line_len_is text written line true is begun =
    let whole : text ≡ written ++ drop (length written) text = (begins text written).0 (sym begun) in
    let long : length written ≡ length line + 1 = ap length is ∙ length-append line (10 ∷ []) in
    let both : length text ≡ length written + length (drop (length written) text) = ap length whole ∙ length-append written (drop (length written) text) in
    (whole ∙ ap (λ l. l ++ drop (length written) text) is, omega arith, omega arith)
line_len_is text written line false is begun = λ b.
    false≢true (begun ∙ (begins text written).1 b.0 (b.1 ∙ ap (λ l. l ++ b.0) (sym is)))
