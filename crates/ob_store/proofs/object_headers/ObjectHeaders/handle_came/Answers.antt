use Rattle.std.proofs.Common.{refl}
use Rattle.ob_store.proofs.HeaderLaws.{header_of, places_handle_came}
use Rattle.ob_store.proofs.NotedLaws.{noted_counts}
use Rattle.ob_store.proofs.object_headers.ObjectHeaders.handle_came.Goals as goal

pub get_mut-requires : goal.get_mut-requires
get_mut-requires c = header_of _ _ _ c.args.slot c.self.view_is c.requires.object

pub returns : goal.returns
returns c = rw (← c.self.view_is) (places_handle_came _ _ _ c.get_mut.ensures.value _ _)

pub invariant_of-self : goal.invariant_of-self
invariant_of-self c = noted_counts _ _ _ _ _ _ _ c.self.invariant _ _ _ c.get_mut.ensures.value refl
