use Rattle.std.proofs.Common.{sym, ◌∙◌}
use Rattle.std.proofs.lemmas.Result.{err_from_is_err_and}
use Rattle.ns_policy.proofs.Turns.{goes_on, fails_at, fails_then, ended, out_of_turns}
use Rattle.ns_policy.proofs.parser.read_tokens.Goals as goal

pub returns-then-is_empty : goal.returns-then-is_empty
returns-then-is_empty c = ended _ c.loop.state c.loop.rest.now _ (sym c.is_empty.ensures ∙ c.if-is_empty.true) c.loop.invariant

pub returns-in_err-token : goal.returns-in_err-token
returns-in_err-token c =
    let p = err_from_is_err_and c.from_residual.result c.from_residual.ensures.1 in
    rw (p.1, p.2) (fails_at _ c.args.turns c.loop.counter c.loop.state c.loop.rest.now _ c.loop-test.true (sym c.is_empty.ensures ∙ c.if-is_empty.false)
    c.in_err-token.ensures c.loop.invariant)

pub returns-in_err-state : goal.returns-in_err-state
returns-in_err-state c =
    let p = err_from_is_err_and c.from_residual-in_err-state.result c.from_residual-in_err-state.ensures.1 in
    rw (p.1, p.2) (fails_then _ c.args.turns c.loop.counter c.loop.state c.loop.rest.now _ _ c.loop-test.true (sym c.is_empty.ensures ∙ c.if-is_empty.false)
    c.in_ok-token.ensures c.in_err-state.ensures c.loop.invariant)

pub loop-preserved : goal.loop-preserved
loop-preserved c =
    rw c.skip_blanks-rest.ensures (goes_on c.args.turns c.loop.counter c.loop.state c.in_ok-state.state c.loop.rest.now _ _ c.loop-test.true
    (sym c.is_empty.ensures ∙ c.if-is_empty.false) c.in_ok-token.ensures c.in_ok-state.ensures c.loop.invariant)

pub returns-then-is_empty-2 : goal.returns-then-is_empty-2
returns-then-is_empty-2 c = ended _ c.loop.state c.loop.rest.now _ (sym c.is_empty-2.ensures ∙ c.if-is_empty-2.true) c.loop.invariant

pub returns-else-is_empty-2 : goal.returns-else-is_empty-2
returns-else-is_empty-2 c = out_of_turns c.args.turns c.loop.counter c.loop.state c.loop.rest.now _ c.loop-test.false
    (sym c.is_empty-2.ensures ∙ c.if-is_empty-2.false) c.loop.invariant
