use Rattle.ob_store.proofs.Cited.{tags_in}
use Rattle.ob_store.proofs.HeaderLaws.{least_same, least_is}
use Rattle.ob_store.proofs.object_headers.ObjectHeaders.least_vacant.Goals as goal

pub returns : goal.returns
returns c =
    let i = c.self.inside in
    let value = rw (least_same i.arena (tags_in i.labels.items i.names.items)) at c.least_vacant.ensures in
    rw (← c.self.view_is) (record { value = value; vacant = least_is _ _ value })
