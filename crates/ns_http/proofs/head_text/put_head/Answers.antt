use Rattle.std.proofs.Common.{List, ℕ, ◌++◌, [], ap, refl, ◌∙◌}
use Rattle.ns_types.specs.Wire.Responses.{response_head}
use Rattle.ns_http.specs.Output.{response_front}
use Rattle.ns_http.proofs.HeadTexts.{step}
use Rattle.ns_http.proofs.head_text.put_head.Goals as goal

pub returns : goal.returns
unfolding response_head
returns c =
    let s0 = c.put_front.ensures.value ∙ ap (λ (l : List ℕ). l ++ response_front c.args.reply.now.status) c.requires in
    let s1 = step [] _ _ c.put_index.ensures.value s0 refl in
    let s2 = step [] _ _ c.put.ensures.value s1 refl in
    let s3 = step [] _ _ c.put_number.ensures.value s2 refl in
    let s4 = step [] _ _ c.put_close.ensures.value s3 refl in
    step [] _ _ c.put-2.ensures.value s4 refl
