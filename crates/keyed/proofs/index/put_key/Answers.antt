use Rattle.std.proofs.Common.{◌∙◌, ◌≤◌, ◌++◌, ◌∷◌, [], length, ap, arith}
use Rattle.std.specs.List.{insert}
use Rattle.std.specs.Map.{keys_of}
use Rattle.indexmap.specs.IndexMap.{move_index}
use Rattle.keyed.proofs.Known.{keys_of-moved}
use Rattle.keyed.proofs.index.put_key.Goals as goal

pub returns : goal.returns
returns g c =
    let es = c.args.keys.now.entries in
    let within : c.args.place ≤ length es = omega arith in
    ap keys_of c.move_index.ensures.entries ∙ ap (λ xs. keys_of (move_index xs c.len-last.result c.args.place)) c.if-not-add_key.ensures ∙
    ap (λ n. keys_of (move_index (es ++ (c.in-Some.copy, tt) ∷ []) n c.args.place)) c.len-last.ensures.len ∙
    keys_of-moved es c.args.place (c.in-Some.copy, tt) within ∙ ap (λ k. insert (keys_of es) c.args.place k) c.in-Some.ensures
