use Rattle.std.proofs.Common.{ℕ, List, ◌∷◌, []}
use Rattle.std.proofs.lemmas.Result.{err_from_is_err_and}
use Rattle.json.specs.Token.{string}
use Rattle.ns_replies.proofs.Writing.{adds_item_at, adds_no_item_at}
use Rattle.ns_replies.proofs.answers.body.write_texts.Goals as goal

pub returns-in_err-write_text : goal.returns-in_err-write_text
returns-in_err-write_text c =
    let p = err_from_is_err_and c.from_residual.result c.from_residual.ensures.1 in
    rw (p.1, p.2) (adds_no_item_at (λ (text : List ℕ). string text ∷ []) _ _ _ _ c.args.texts.now c.loop-text.text-index c.text-item.result
    c.loop-text-test.true c.text-item.is c.loop-text.invariant c.in_err-write_text.ensures)

pub loop-text-preserved : goal.loop-text-preserved
loop-text-preserved c = adds_item_at (λ (text : List ℕ). string text ∷ []) _ _ _ c.args.texts.now c.loop-text.text-index c.text-item.result
    c.loop-text-test.true c.text-item.is c.loop-text.invariant c.in_ok-write_text.ensures
