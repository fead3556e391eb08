use Rattle.std.proofs.Common.{refl}
use Rattle.ns_json.proofs.Parts.{follows_ok, follows_more, follows_last}
use Rattle.ns_replies.specs.Tokens.{allocation_end}
use Rattle.ns_replies.proofs.work.write_allocation_end.Goals as goal

pub returns : goal.returns
unfolding allocation_end
returns c =
    let head = follows_ok _ _ _ _ c.in_ok-write_parts.ensures in
    let size = follows_more _ _ _ _ _ head c.in_ok-write_json.ensures in
    follows_last _ _ _ _ _ _ _ (rw (c.as_str.ensures, c.as_str-2.ensures, c.as_str-3.ensures, c.as_str-4.ensures, c.as_str-5.ensures) refl)
    size c.write_parts-2.ensures
