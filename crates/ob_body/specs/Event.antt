-- An event, and what calls make of it.
use Rattle.std.specs.Prelude.{true, false, ◌&&◌}
use Rattle.ob_body.specs.declared.event.Event.{Event}

abbrev pub after_set : Event → Event
after_set e = record e { set = true }

abbrev pub after_reset : Event → Event
after_reset e = record e { set = false }

-- a satisfied wait resets an event that isn't reset by hand
abbrev pub after_acquire : Event → Event
after_acquire e = record e { set = e.set && e.manual }
