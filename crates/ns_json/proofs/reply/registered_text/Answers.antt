use Rattle.std.proofs.Common.{◌≡◌, ◌≤◌, true, true≢false, sym, ap, ◌∙◌, arith, length}
use Rattle.std.specs.Prelude.{is_ok}
use Rattle.json.specs.Tree.{room}
use Rattle.ns_json.specs.Part.{tokens_of}
use Rattle.ns_json.specs.Rendering.{registered_json}
use Rattle.ns_json.proofs.Replies.{registered_room, registered_short, has_room, text_of, utf8_of}
use Rattle.ns_json.proofs.reply.registered_text.Goals as goal

pub prove-unreachable-requires : goal.prove-unreachable-requires
prove-unreachable-requires c =
    let enough : room (tokens_of (registered_json c.args.evaluation c.args.index c.args.job_index)) ≤ 320 =
    registered_room c.args.evaluation c.args.index c.args.job_index (omega arith) (omega arith) in
    let ok = has_room c.write_registered-written.result c.new-out.result _ _ c.write_registered-written.ensures
    (omega (arith, ap length c.args.room.empty, c.args.room.bytes.ok.0, c.new-out.ensures.spare, enough, c.args.room.enough)) in
    true≢false (sym ok ∙ sym c.is_ok.ensures.value ∙ c.if-prove.true)

pub from_utf8_unchecked-requires : goal.from_utf8_unchecked-requires
from_utf8_unchecked-requires c = utf8_of c.write_registered-written.result c.new-out.result _ _ _ c.write_registered-written.ensures
    (c.new-out.ensures.before ∙ c.args.room.empty) c.into_inner.ensures.items c.into_inner.ensures.utf8

pub returns-clause-text : goal.returns-clause-text
returns-clause-text c =
    let ok : is_ok c.write_registered-written.result ≡ true = sym c.is_ok.ensures.value ∙ c.if-prove.false in
    text_of c.write_registered-written.result c.new-out.result _ (registered_json c.args.evaluation c.args.index c.args.job_index)
    _ c.write_registered-written.ensures ok c.new-out.ensures.tokens (c.new-out.ensures.before ∙ c.args.room.empty)
    (ap (λ v. v.items) c.from_utf8_unchecked.ensures.value ∙ c.into_inner.ensures.items)

pub returns-clause-short : goal.returns-clause-short
returns-clause-short c = rw (returns-clause-text c) (registered_short c.args.evaluation c.args.index c.args.job_index (omega arith) (omega arith))
