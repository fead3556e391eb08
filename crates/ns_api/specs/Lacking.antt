-- What a server may lack besides memory.
use Rattle.std.specs.Prelude.{◌≡◌}
use Rattle.ns_types.specs.declared.refusal.Refusal.{Refusal}
use Rattle.ns_types.specs.declared.refusal.Refusal.TheVariants.{LogFull}
use Rattle.ns_work_log.specs.Logs.{History, IsFull}

abbrev pub LacksNothing : {S : Type 0} → S → Refusal → Type 0
LacksNothing s refusal = ⊥

-- a server with a log lacks a place in it if the log is full
abbrev pub LacksRoom : History → Refusal → Type 0
LacksRoom h refusal = (refusal ≡ LogFull) × IsFull h
