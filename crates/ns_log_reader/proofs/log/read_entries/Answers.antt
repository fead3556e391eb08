use Rattle.std.proofs.Common.{List, ◌+◌, length, sym, subst}
use Rattle.ns_json.specs.Replies.{Entry}
use Rattle.ns_log_reader.specs.Reading.{HasSoFar, IsNext, line_from}
use Rattle.ns_log_reader.proofs.Lasts.{rest_is}
use Rattle.ns_log_reader.proofs.Lines.{so_far_few, so_far_more, so_far_number}
use Rattle.ns_log_reader.proofs.log.read_entries.Goals as goal

pub loop-rest-preserved : goal.loop-rest-preserved
loop-rest-preserved c =
    let text = c.args.text.now in
    let secret = c.args.secret.now in
    let rest = c.loop-rest.rest.now in
    let entries = c.push_entry.new.entries in
    let next = subst (λ (es : List Entry). IsNext rest secret (length es) (line_from c.in-Ok.line.entry) c.in-Ok.line.len)
    c.as_slice.ensures c.in-Ok.ensures.ok in
    let more = so_far_more text secret rest c.loop-rest.entries entries c.loop-rest.number c.in-Ok.line.len (line_from c.in-Ok.line.entry)
    c.loop-rest.invariant.so_far next c.in-Ok-push_entry.ensures in
    let so_far = subst (λ r. HasSoFar text secret r entries (c.loop-rest.number + 1)) (sym (rest_is rest c.in-Ok.line.len)) more in
    record {
      so_far = so_far;
      number = so_far_number text secret _ entries (c.loop-rest.number + 1) so_far;
      few = so_far_few text secret _ entries (c.loop-rest.number + 1) so_far;
    }
