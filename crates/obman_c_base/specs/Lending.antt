-- What an owner ends as, once what it lent is given back.
use Rattle.std.specs.Borrow.{Fml, Lends, MutBor}
use Rattle.obman_c_base.specs.declared.owned.OwnedManager.{OwnedManager}
use Rattle.obman_c_base.specs.declared.owned.OwnedReader.{OwnedReader}
use Rattle.obman_c_base.specs.declared.owner.ManagerOwner.{ManagerOwner}
use Rattle.obman_c_base.specs.declared.reader_owner.ReaderOwner.{ReaderOwner}
use Rattle.obman_c_base.specs.contracts.owned.OwnedManager as manager
use Rattle.obman_c_base.specs.contracts.owned.OwnedReader as reader
use Rattle.obman_c_base.specs.contracts.owner.ManagerOwner as owner
use Rattle.obman_c_base.specs.contracts.reader_owner.ReaderOwner as reader_owner

abbrev pub with_manager : ManagerOwner → OwnedManager → ManagerOwner
with_manager o value = record { at = o.at; alloc = o.alloc; value = value }

abbrev pub LendsManager : MutBor ManagerOwner → MutBor OwnedManager → Fml
LendsManager s r = Lends owner.the_row manager.the_row s r (with_manager s.now)

abbrev pub with_reader : ReaderOwner → OwnedReader → ReaderOwner
with_reader o value = record { at = o.at; alloc = o.alloc; value = value }

abbrev pub LendsReader : MutBor ReaderOwner → MutBor OwnedReader → Fml
LendsReader s r = Lends reader_owner.the_row reader.the_row s r (with_reader s.now)
