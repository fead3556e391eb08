use Rattle.std.proofs.Common.{ℕ, List, ◌∙◌, ap, subst, sym}
use Rattle.std.specs.Prelude.{IsUtf8, Option, Some}
use Rattle.ns_request.proofs.Parts.{good_part, no_part, no_text}
use Rattle.ns_request.proofs.target.part_of.Goals as goal

pub returns-then-not-is_good : goal.returns-then-not-is_good
returns-then-not-is_good c =
    let decoded = c.percent_decode.ensures.bytes in
    no_part c.args.part c.args.segment.now c.as_str.result.now (sym c.is_good.ensures ∙ c.if-not-is_good.true)
    (c.as_str.ensures.value ∙ c.in-Ok.ensures.value ∙ decoded) (subst IsUtf8 decoded c.in-Ok.ensures.ok_only_if_utf8)

pub returns-in_ok-from_str-in-Ok : goal.returns-in_ok-from_str-in-Ok
returns-in_ok-from_str-in-Ok c =
    let decoded = c.percent_decode.ensures.bytes in
    ap (λ x. let o : Option (List ℕ) = Some x in o) (c.in_ok-from_str-in-Ok.ensures ∙ c.as_str-in-Ok.ensures.value ∙ sym c.as_str.ensures.value)
    ∙ good_part c.args.part c.args.segment.now c.as_str.result.now (sym c.is_good.ensures ∙ c.if-not-is_good.false)
    (c.as_str.ensures.value ∙ c.in-Ok.ensures.value ∙ decoded) (subst IsUtf8 decoded c.in-Ok.ensures.ok_only_if_utf8)

pub returns-in-Err-Utf8 : goal.returns-in-Err-Utf8
returns-in-Err-Utf8 c =
    no_text c.args.part c.args.segment.now (λ utf8.
    let memory = c.in-Err-Utf8.ensures.utf8 (subst IsUtf8 (sym c.percent_decode.ensures.bytes) utf8) in
    let bad : ⊥ = cc in bad)
