-- The numbers of a row list's refusals.
use Rattle.std.specs.Prelude.{ℕ}
use Rattle.skip_list.specs.declared.fault.ListFault.{ListFault}
use Rattle.skip_list.specs.declared.fault.ListFault.TheVariants.{BadMemory, NoKey, NoLevel}

abbrev pub list_number : ListFault → ℕ
list_number BadMemory = 6
list_number NoKey = 7
list_number NoLevel = 8
