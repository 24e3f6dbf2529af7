use Rattle.ob_store.proofs.HeaderLaws.{header_of}
use Rattle.ob_store.proofs.object_headers.ObjectHeaders.blocks.Goals as goal

pub get-requires : goal.get-requires
get-requires c = header_of _ _ _ c.args.slot c.self.view_is c.requires
