use Rattle.std.proofs.Common.{ℕ, ◌∷◌, []}
use Rattle.std.proofs.lemmas.Result.{err_from_is_err_and}
use Rattle.json.specs.Token.{string}
use Rattle.ns_types.specs.declared.id.IdKind.TheVariants as IdKind
use Rattle.ns_types.specs.State.Id.{id_text}
use Rattle.ns_replies.proofs.Writing.{adds_item, adds_no_item}
use Rattle.ns_replies.proofs.answers.body.write_ids.Goals as goal

pub returns-in_err-write_id : goal.returns-in_err-write_id
returns-in_err-write_id c =
    let p = err_from_is_err_and c.from_residual.result c.from_residual.ensures.1 in
    rw (p.1, p.2) (adds_no_item (λ (n : ℕ). string (id_text IdKind.Allocation n) ∷ []) _ _ _ _ c.args.numbers.now c.loop-number.number-index 0
    c.loop-number-test.true c.loop-number.invariant c.in_err-write_id.ensures)

pub loop-number-preserved : goal.loop-number-preserved
loop-number-preserved c = adds_item (λ (n : ℕ). string (id_text IdKind.Allocation n) ∷ []) _ _ _ c.args.numbers.now c.loop-number.number-index 0
    c.loop-number-test.true c.loop-number.invariant c.in_ok-write_id.ensures
