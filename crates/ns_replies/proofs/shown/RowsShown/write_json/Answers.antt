use Rattle.ns_json.proofs.Parts.{follows_ok, follows_more, follows_last}
use Rattle.ns_replies.proofs.Written.{array_tokens}
use Rattle.ns_replies.proofs.shown.RowsShown.write_json.Goals as goal

pub returns : goal.returns
returns g c =
    let head = follows_ok _ _ _ _ c.in_ok-write_parts.ensures in
    let items = follows_more _ _ _ _ _ head c.in_ok-write_each.ensures in
    follows_last _ _ _ _ _ _ _ (rw c.as_slice.ensures (array_tokens g.T.Shown.json c.args.self.now)) items c.write_parts-2.ensures
