use Rattle.stores.proofs.Growth.{store_laws}
use Rattle.stores.proofs.held_store.HeldStore.new.Goals as goal

pub returns-clause-laws : goal.returns-clause-laws
returns-clause-laws c = store_laws
