use Rattle.std.proofs.Common.{ℕ, ◌+◌, ◌*◌, ◌++◌, List, length, arith}
use Rattle.std.specs.Prelude.{sum_by}
use Rattle.std.proofs.lemmas.Result.{err_from_is_err_and}
use Rattle.ns_json.proofs.Parts.{adds_more, room-append}
use Rattle.ns_replies.specs.Bodies.{id_tokens, text_bytes, text_tokens}
use Rattle.ns_replies.proofs.Writing.{applied_tokens, first_tokens, last_tokens, middle_tokens, room-first, room-ids, room-last, room-middle, room-texts}
use Rattle.ns_replies.proofs.Writing.{writes_last, writes_no_more, writes_none}
use Rattle.ns_replies.proofs.answers.body.write_applied.Goals as goal

pub returns-in_err-write_parts : goal.returns-in_err-write_parts
returns-in_err-write_parts c =
    let p = err_from_is_err_and c.from_residual.result c.from_residual.ensures.1 in
    let n : ℕ = 36 + length c.args.made.now * 39 + sum_by text_bytes c.args.dropped.now in
    rw (p.1, p.2) (writes_none n _ _ _ first_tokens _ (omega (arith, room-first)) c.in_err-write_parts.ensures)

pub returns-in_err-write_ids : goal.returns-in_err-write_ids
returns-in_err-write_ids c =
    let residual = c.from_residual-in_err-write_ids in
    let p = err_from_is_err_and residual.result residual.ensures.1 in
    let n : ℕ = 36 + length c.args.made.now * 39 + sum_by text_bytes c.args.dropped.now in
    rw (p.1, p.2) (writes_no_more n _ _ _ _ first_tokens (id_tokens c.args.made.now) _ (omega (arith, room-first, room-ids c.args.made.now))
    c.in_ok-write_parts.ensures c.in_err-write_ids.ensures)

pub returns-in_err-write_parts-2 : goal.returns-in_err-write_parts-2
returns-in_err-write_parts-2 c =
    let residual = c.from_residual-in_err-write_parts-2 in
    let p = err_from_is_err_and residual.result residual.ensures.1 in
    let made : List ℕ = c.args.made.now in
    let n : ℕ = 36 + length made * 39 + sum_by text_bytes c.args.dropped.now in
    let two = adds_more _ _ _ first_tokens (id_tokens made) c.in_ok-write_parts.ensures c.in_ok-write_ids.ensures in
    rw (p.1, p.2) (writes_no_more n _ _ _ _ (first_tokens ++ id_tokens made) middle_tokens _
    (omega (arith, room-append first_tokens (id_tokens made), room-first, room-ids made, room-middle)) two c.in_err-write_parts-2.ensures)

pub returns-in_err-write_texts : goal.returns-in_err-write_texts
returns-in_err-write_texts c =
    let residual = c.from_residual-in_err-write_texts in
    let p = err_from_is_err_and residual.result residual.ensures.1 in
    let made : List ℕ = c.args.made.now in
    let dropped : List (List ℕ) = c.args.dropped.now in
    let n : ℕ = 36 + length made * 39 + sum_by text_bytes dropped in
    let two = adds_more _ _ _ first_tokens (id_tokens made) c.in_ok-write_parts.ensures c.in_ok-write_ids.ensures in
    let three = adds_more _ _ _ (first_tokens ++ id_tokens made) middle_tokens two c.in_ok-write_parts-2.ensures in
    rw (p.1, p.2) (writes_no_more n _ _ _ _ ((first_tokens ++ id_tokens made) ++ middle_tokens) (text_tokens dropped) _
    (omega (
      arith,
      room-append (first_tokens ++ id_tokens made) middle_tokens,
      room-append first_tokens (id_tokens made),
      room-first,
      room-ids made,
      room-middle,
      room-texts dropped,
    )) three c.in_err-write_texts.ensures)

pub returns : goal.returns
returns c =
    let made : List ℕ = c.args.made.now in
    let dropped : List (List ℕ) = c.args.dropped.now in
    let n : ℕ = 36 + length made * 39 + sum_by text_bytes dropped in
    let two = adds_more _ _ _ first_tokens (id_tokens made) c.in_ok-write_parts.ensures c.in_ok-write_ids.ensures in
    let three = adds_more _ _ _ (first_tokens ++ id_tokens made) middle_tokens two c.in_ok-write_parts-2.ensures in
    let four = adds_more _ _ _ ((first_tokens ++ id_tokens made) ++ middle_tokens) (text_tokens dropped) three c.in_ok-write_texts.ensures in
    writes_last n _ _ _ (((first_tokens ++ id_tokens made) ++ middle_tokens) ++ text_tokens dropped) last_tokens _ (applied_tokens made dropped)
    (omega (
      arith,
      room-append ((first_tokens ++ id_tokens made) ++ middle_tokens) (text_tokens dropped),
      room-append (first_tokens ++ id_tokens made) middle_tokens,
      room-append first_tokens (id_tokens made),
      room-first,
      room-ids made,
      room-middle,
      room-texts dropped,
      room-last,
    )) four c.write_parts-3.ensures
