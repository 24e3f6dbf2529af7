use Rattle.std.proofs.Common.{refl}
use Rattle.obman_c.specs.Reading.{opens}
use Rattle.obman_c.proofs.readers.om_reader_new.Goals as goal

-- the reader of the box is at the place
pub returns-in-Ok-clause-opens : goal.returns-in-Ok-clause-opens
returns-in-Ok-clause-opens c =
    let made = rw c.lend.ensures.value at c.in-Some.ensures in
    opens c.in-Some.reader refl (rw c.in-Ok.ensures.ok at c.of.ensures) made.reader.0 made.reader.1 made.given
