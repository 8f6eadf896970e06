-- The one value of the error for want of memory.
use Rattle.ecp_store.specs.declared.no_memory.NoMemory.{NoMemory}

abbrev pub no_memory : NoMemory
no_memory = record {}
