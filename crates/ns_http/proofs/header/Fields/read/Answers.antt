use Rattle.std.proofs.Common.{List, ℕ, take, map, sym, ap₂, ◌∙◌, ◌++◌, ◌∷◌, [], subst}
use Rattle.httparse.specs.Spans.{header_bytes}
use Rattle.ns_types.specs.Wire.Http.{Header}
use Rattle.ns_http.specs.Fields.{AreFieldsOf}
use Rattle.ns_http.proofs.FieldsLemmas.{next_field}
use Rattle.ns_http.proofs.header.Fields.read.Goals as goal

pub loop-header-preserved : goal.loop-header-preserved
loop-header-preserved c =
    let before = map (header_bytes c.args.buf.now) (take c.loop-header.header-index c.args.headers.now) in
    let with_field = λ (name value : List ℕ). let h : Header = (name, value) in before ++ h ∷ [] in
    subst (AreFieldsOf c.add.new.self)
    (ap₂ with_field c.of.ensures c.of-in-loop-header.ensures ∙ sym (next_field c.args.buf.now c.args.headers.now c.loop-header.header-index
    _ c.loop-header-test.true))
    (c.add.ensures before c.loop-header.invariant)
