-- Entries that are needed no more.
use Rattle.std.specs.Prelude.{List, [], ◌++◌, Option, Some, None}
use Rattle.std.specs.declared.vec.Vec.{Vec}
use Rattle.ns_types.specs.declared.reply.Rendered.{Rendered}
use Rattle.ns_types.specs.declared.step.Step.{Step}
use Rattle.ns_work_lock.specs.declared.spent.Spent.{Spent}

-- what is left of a list that may be absent
abbrev pub left : {X A : Type 0} → Option (Vec X A) → List X
left None = []
left (Some entries) = entries.items

-- all entries that are left; the one that is dropped next stands last
abbrev pub waiting : Spent → List (Step × Rendered)
waiting s = left s.last ++ left s.former
