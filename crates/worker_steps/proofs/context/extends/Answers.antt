use Rattle.worker_steps.proofs.ExtendingLaws.{extending_laws}
use Rattle.worker_steps.proofs.context.extends.Goals as goal

pub returns-then-eq-clause-laws : goal.returns-then-eq-clause-laws
returns-then-eq-clause-laws c = extending_laws

pub returns-else-eq-clause-laws : goal.returns-else-eq-clause-laws
returns-else-eq-clause-laws c = extending_laws
