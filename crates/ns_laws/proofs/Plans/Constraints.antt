-- A node that meets a job's constraints passes the tests on them.
use Rattle.std.specs.Prelude.{◌≡◌, Bool, true, false, ◌&&◌, Option, Some, None}
use Rattle.std.proofs.Common.{refl, ap, ◌∙◌}
use Rattle.std.specs.List.{list_all}
use Rattle.ns_types.specs.declared.job.Job.{Job}
use Rattle.ns_types.specs.declared.job.Operand.{Operand}
use Rattle.ns_types.specs.declared.job.Target.{Target}
use Rattle.ns_types.specs.declared.node.Node.{Node}
use Rattle.ns_types.specs.Placing.Constraint.{attribute_of, compares, holds, is_feasible, target_value}
use Rattle.ns_types.specs.State.Names.{Name}
use Rattle.ns_types.specs.State.Rows.{is_ready}
use Rattle.ns_types.proofs.Elements.{all_from_each}
use Rattle.ns_types.proofs.Lists.{each_map, not_both}
use Rattle.ns_types.proofs.Tests.{is_yes}
use Rattle.ns_laws.specs.Planning.{IsFit, Meets}
use Rattle.ns_laws.proofs.Plans.Planning.{same_text, text_same}

module _ (name : Name) (node : Node) where
  pub meets_holds : (operand : Operand) (target : Target) (text : Name) → Meets name node operand target text →
      compares operand (target_value target name node) text ≡ true
  meets_holds Operand.Equal Target.NodeClass text h = text_same node.offer.class text h
  meets_holds Operand.Equal Target.NodeName text h = text_same name text h
  meets_holds Operand.Equal (Target.Attribute key) text h = ap (λ o. compares Operand.Equal o text) h ∙ text_same text text refl
  meets_holds Operand.NotEqual target text h = by (compares Operand.NotEqual (target_value target name node) text) refl
    where
      value_of : (key : Name) → (attribute_of node key ≡ Some text → ⊥) → (o : Option Name) → attribute_of node key ≡ o →
          compares Operand.NotEqual o text ≡ false → ⊥
      value_of key h None is e = not_both refl e
      value_of key h (Some value) is e = h (is ∙ ap Some (same_text value text (is_yes _ e)))

      value_is : (target : Target) → Meets name node Operand.NotEqual target text → compares Operand.NotEqual (target_value target name node) text ≡ false → ⊥
      value_is Target.NodeClass h e = h (same_text node.offer.class text (is_yes _ e))
      value_is Target.NodeName h e = h (same_text name text (is_yes _ e))
      value_is (Target.Attribute key) h e = value_of key h (attribute_of node key) refl e

      by : (b : Bool) → compares Operand.NotEqual (target_value target name node) text ≡ b → b ≡ true
      by true e = refl
      by false e = absurd (value_is target h e)

  pub feasible_by : (j : Job) → IsFit j name node → is_feasible j.document.constraints name node ≡ true
  feasible_by j fit = λ i. (is_ready (fit.ready i) && fit.eligible i) && all i
    where
      all : list_all (holds name node) j.document.constraints ≡ true
      all = all_from_each (holds name node) j.document.constraints (each_map (λ c meets. meets_holds c.operand c.target c.value meets)
          j.document.constraints fit.constraints)
