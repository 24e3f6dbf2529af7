use Rattle.ob_store.proofs.Cited.{◌≡◌, ◌<◌, Option, Some, None, sym, IfSome, Id, find_name, parts_of, state_of}
use Rattle.ob_name.specs.Refs.{name_at}
use Rattle.ob_store.specs.State.{handles_of}
use Rattle.ob_store.proofs.ListingLaws.{listing_found, placed_agreed}
use Rattle.ob_store.proofs.store.Store.find.Goals as goal

pub returns-clause-handled : goal.returns-clause-handled
returns-clause-handled g c =
    rw (← c.self.view_is) (by c.find.result c.find.ensures)
  where
    by : (r : Option Id) → r ≡ find_name (name_at c.args.name.now) c.self.inside.parts.names.rows
        → IfSome r (λ id. 0 < handles_of (state_of (parts_of c.self.inside.parts)) id)
    by None is = tt
    by (Some id) is = (listing_found _ _ _ _ c.self.invariant.sound.listing (placed_agreed _ c.kept.ensures.agreed) (name_at c.args.name.now) id
        (sym is)).has
