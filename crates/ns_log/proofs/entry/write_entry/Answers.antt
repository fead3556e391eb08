use Rattle.std.proofs.Common.{refl}
use Rattle.ns_json.specs.Logs.{entry_json}
use Rattle.ns_json.proofs.Parts.{follows_ok, follows_more, follows_last}
use Rattle.ns_log.proofs.entry.write_entry.Goals as goal

pub returns : goal.returns
unfolding entry_json
returns c =
    let head = follows_ok _ _ _ _ c.in_ok-write_parts.ensures in
    let step = follows_more _ _ _ _ _ head c.in_ok-write_step.ensures in
    follows_last _ _ _ _ _ _ _ (rw (c.as_str.ensures, c.number_part.ensures, c.from.ensures) refl) step c.write_parts-2.ensures
