use Rattle.std.proofs.Common.{ℕ, List, ◌++◌, refl, ap, ◌∙◌}
use Rattle.std.specs.Prelude.{decimal}
use Rattle.ns_http.proofs.HeadTexts.{front_of_success, step}
use Rattle.ns_http.proofs.head_text.put_front.Goals as goal

pub returns-clause-value : goal.returns-clause-value
returns-clause-value c =
    let s1 = step c.args.head.now.bytes _ _ c.put_number.ensures.value c.put-2.ensures.value (ap decimal c.from.ensures) in
    let s2 = step c.args.head.now.bytes _ _ c.put-3.ensures.value s1 refl in
    let s3 = step c.args.head.now.bytes _ _ c.put-4.ensures.value s2 c.phrase.ensures.value in
    let s4 = step c.args.head.now.bytes _ _ c.put-5.ensures.value s3 refl in
    step c.args.head.now.bytes _ _ c.put-6.ensures.value s4 c.content_type.ensures.value

pub returns-then-status-eq200-clause-value : goal.returns-then-status-eq200-clause-value
returns-then-status-eq200-clause-value c =
    c.put.ensures.value ∙ ap (λ (l : List ℕ). c.args.head.now.bytes ++ l) (front_of_success c.args.status c.if-status-eq200.true)
