use Rattle.ns_replies.proofs.Written.{text_written}
use Rattle.ns_replies.proofs.shown.text_of.Goals as goal

pub returns : goal.returns
returns g c = text_written c.new-out.result _ (g.T.Shown.json c.args.shown.now) _ c.in_ok-write_json.ensures c.new-out.ensures.tokens c.written_text.ensures
