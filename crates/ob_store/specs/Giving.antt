-- A further reader of a keeper's pins, over what is said of every keeper.
use Rattle.std.specs.Prelude.{◌+◌, []}
use Rattle.pin_words.specs.declared.view.ReaderView.{ReaderView}
use Rattle.pin_words.specs.Keepers.{KeeperState}

-- one reader more was given
abbrev pub with_next : KeeperState → KeeperState
with_next k = record k { next = k.next + 1 }

-- the reader of the next number, which holds nothing
abbrev pub given_by : KeeperState → ReaderView
given_by k = record { shape = k.shape; number = k.next; held = []; notes = []; looks = [] }
