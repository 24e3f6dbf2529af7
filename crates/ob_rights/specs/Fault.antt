-- The Win32 numbers of the refusals.
use Rattle.std.specs.Prelude.{ℕ}
use Rattle.ob_rights.specs.declared.fault.Fault.{Fault}
use Rattle.ob_rights.specs.declared.fault.Fault.TheVariants.{Parameter, Busy, NameLong, NamePath, Handle, Access, NotFound, NotOwner, Posts, Limit, Memory}

-- the system error code of a refusal
abbrev pub code_of : Fault → ℕ
code_of Parameter = 87
code_of Busy = 170
code_of NameLong = 206
code_of NamePath = 3
code_of Handle = 6
code_of Access = 5
code_of NotFound = 2
code_of NotOwner = 288
code_of Posts = 298
code_of Limit = 1450
code_of Memory = 8
