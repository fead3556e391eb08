use Rattle.std.proofs.Common.{refl}
use Rattle.ns_types.proofs.refusal.Member.field_text.Goals as goal

pub returns-in-ClientStatus : goal.returns-in-ClientStatus
returns-in-ClientStatus c = rw c.in-ClientStatus.is refl

pub returns-in-Constraints : goal.returns-in-Constraints
returns-in-Constraints c = rw c.in-Constraints.is refl

pub returns-in-Description : goal.returns-in-Description
returns-in-Description c = rw c.in-Description.is refl

pub returns-in-Eligibility : goal.returns-in-Eligibility
returns-in-Eligibility c = rw c.in-Eligibility.is refl

pub returns-in-EnforceIndex : goal.returns-in-EnforceIndex
returns-in-EnforceIndex c = rw c.in-EnforceIndex.is refl

pub returns-in-JobModifyIndex : goal.returns-in-JobModifyIndex
returns-in-JobModifyIndex c = rw c.in-JobModifyIndex.is refl

pub returns-in-NodePoolConfiguration : goal.returns-in-NodePoolConfiguration
returns-in-NodePoolConfiguration c = rw c.in-NodePoolConfiguration.is refl

pub returns-in-ParameterizedJob : goal.returns-in-ParameterizedJob
returns-in-ParameterizedJob c = rw c.in-ParameterizedJob.is refl

pub returns-in-RegionLimit : goal.returns-in-RegionLimit
returns-in-RegionLimit c = rw c.in-RegionLimit.is refl

pub returns-in-EphemeralDisk : goal.returns-in-EphemeralDisk
returns-in-EphemeralDisk c = rw c.in-EphemeralDisk.is refl
