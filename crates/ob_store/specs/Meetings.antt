-- What a reader that meets the keeper knows, over what is said of every keeper.
use Rattle.std.specs.Prelude.{◌≡◌, ℕ, Option, Some}
use Rattle.pin_core.specs.declared.id.Id.{Id}
use Rattle.pin_words.specs.declared.view.KeeperView.{KeeperView}
use Rattle.pin_words.specs.declared.view.ReaderView.{ReaderView}
use Rattle.pin_words.specs.Keepers.{KeeperState}
use Rattle.pin_words.specs.Plays.{Show}
use Rattle.pin_words.specs.Tries.{Met}
use Rattle.ob_store.specs.Objects.{Object}

-- the view of a keeper over words
pub record IsViewOf (v : KeeperView) (k : KeeperState) : Type 0 where
  pub shape : v.shape ≡ k.shape
  pub slots : v.slots ≡ k.slots
  pub published : v.published ≡ k.published
  pub next : v.next ≡ k.next
  pub looks : v.looks ≡ k.looks

-- one look at the slot s by a reader that meets the keeper
abbrev pub IsMet : KeeperState → ReaderView → ℕ → ReaderView → Type 0
IsMet k r s r' = (v : KeeperView) × IsViewOf v k × Met v r s r'

-- the Id is of the object, and where the reader has a note for it, that is the object's descriptor
pub record IsFound (id : Id) (r : ReaderView) (x : Option Object) : Type 0 where
  pub object : Object
  pub is : x ≡ Some object
  pub named : object.id ≡ id
  pub shown : Show id object.descr r.notes
