-- What is printed for an answer.
use Rattle.std.specs.Prelude.{ℕ, Bool, true, false, List, [], ◌∷◌, ◌++◌, Option, Some, None, Result, Ok, Err, codes, decimal, length}
use Rattle.std.specs.Fmt.{digits}
use Rattle.std.specs.List.{flat_map}
use Rattle.pin_core.specs.declared.id.Id.{Id}
use Rattle.pin_core.specs.declared.descr.Descr.{Descr}
use Rattle.pin_words.specs.declared.fault.PinFault.{PinFault}
use Rattle.pin_words.specs.declared.fault.PinFault.TheVariants.{NoSuchSlot, Unborn, Stale, Busy, PinsFull, HeldFull}
use Rattle.pin_words.specs.declared.pin_keeper.Reclaim.{Reclaim}
use Rattle.pin_words.specs.declared.pin_keeper.Reclaim.TheVariants.{Freed, Retired, Held}
use Rattle.ob_rights.specs.Fault.{code_of}
use Rattle.ob_rights.specs.declared.kind.Kind.{Kind}
use Rattle.ob_rights.specs.declared.kind.Kind.TheVariants.{Event, Mutex, Semaphore, Timer, Host}
use Rattle.ob_name.specs.Names.{Namespace, ObjectName, Global, Session}
use Rattle.ob_name.specs.Listing.{Rows}
use Rattle.ob_name.specs.Refs.{row_at}
use Rattle.ob_manager.specs.declared.card.Card.{Card}
use Rattle.ob_manager.specs.declared.reply.Reply.{Reply}
use Rattle.ob_manager.specs.declared.reply.Reply.TheVariants.{Spawned, Started, Made, Exists, Opened, Duplicated, Closed, Done, Flags, Previous, Code, Pending, Signaled, Expired, Ticked, Ended, Exited, Reaped, CountsAre, Refused}
use Rattle.ob_script.specs.declared.answer.Answer.{Answer}
use Rattle.ob_script.specs.declared.answer.Answer.TheVariants.{Replied, BadLine, NameCount, Named, Pinned, Unpinned, Shown, NoWait, Lane, Journaled}

abbrev pub line_end : List ℕ
line_end = 10 ∷ []

abbrev pub printed_id : Id → List ℕ
printed_id id = codes "s" ++ decimal id.slot ++ codes "." ++ decimal id.generation

-- a new handle: whether the object is new, had the name already, was opened by its name, or had a handle already
abbrev pub printed_handle : ℕ → List ℕ → Id → List ℕ
printed_handle handle how id = codes "h" ++ decimal handle ++ how ++ printed_id id

-- what became of a slot
abbrev pub printed_reclaim : Reclaim → List ℕ
printed_reclaim Freed = codes " freed"
printed_reclaim Retired = codes " retired"
printed_reclaim (Held pins) = codes " held " ++ decimal pins

-- what a reply says
abbrev pub printed_reply : Reply → List ℕ
printed_reply (Spawned process thread) = codes "p" ++ decimal process ++ codes " t" ++ decimal thread
printed_reply (Started thread) = codes "t" ++ decimal thread
printed_reply (Made handle id) = printed_handle handle (codes " new ") id
printed_reply (Exists handle id) = printed_handle handle (codes " exists ") id
printed_reply (Opened handle id) = printed_handle handle (codes " opened ") id
printed_reply (Duplicated handle id) = printed_handle handle (codes " dup ") id
printed_reply Closed = codes "closed"
printed_reply Done = codes "done"
printed_reply (Flags bits) = codes "flags " ++ decimal bits
printed_reply (Previous count) = codes "previous " ++ decimal count
printed_reply (Code code) = codes "code " ++ decimal code
printed_reply (Pending number) = codes "pending w" ++ decimal number
printed_reply (Signaled number) = codes "signaled w" ++ decimal number
printed_reply (Expired number) = codes "expired w" ++ decimal number
printed_reply (Ticked now) = codes "now " ++ decimal now
printed_reply (Ended thread) = codes "ended t" ++ decimal thread
printed_reply (Exited process) = codes "exited p" ++ decimal process
printed_reply (Reaped id outcome) = printed_id id ++ printed_reclaim outcome
printed_reply (CountsAre handles waits hold) = codes "handles " ++ decimal handles ++ codes " waits " ++ decimal waits
    ++ codes " hold " ++ decimal hold
printed_reply (Refused fault) = codes "error " ++ decimal (code_of fault)

-- a reply, as one line
abbrev pub printed : Reply → List ℕ
printed reply = printed_reply reply ++ line_end

-- the names of objects: how many there are, and a line for each
abbrev pub printed_space : Namespace → List ℕ
printed_space Global = codes "global "
printed_space (Session session) = codes "session " ++ decimal session ++ codes " "

abbrev pub printed_row : ObjectName × Id → List ℕ
printed_row row = printed_space row.0.space ++ printed_id row.1 ++ codes " " ++ row.0.base ++ line_end

abbrev pub printed_count : ℕ → List ℕ
printed_count count = codes "dir " ++ decimal count ++ line_end

abbrev pub printed_names : Rows → List ℕ
printed_names rows = printed_count (length rows) ++ flat_map printed_row rows

-- a line outside the grammar, by its number
abbrev pub bad_line : ℕ → List ℕ
bad_line number = codes "bad line " ++ decimal number ++ line_end

-- what an object is: how an event or a timer is reset, and a semaphore's maximum
abbrev pub printed_reset : Bool → List ℕ
printed_reset true = codes "event manual"
printed_reset false = codes "event auto"

abbrev pub printed_timer : Bool → List ℕ
printed_timer true = codes "timer manual"
printed_timer false = codes "timer auto"

abbrev pub printed_kind : Kind → Bool → ℕ → List ℕ
printed_kind Event manual max = printed_reset manual
printed_kind Mutex manual max = codes "mutex"
printed_kind Semaphore manual max = codes "semaphore " ++ decimal max
printed_kind Timer manual max = printed_timer manual
printed_kind (Host object_type) manual max = printed_reset manual

abbrev pub printed_descr : Descr → List ℕ
printed_descr descr = printed_kind descr.kind descr.manual descr.max

-- why a pin is refused
abbrev pub printed_fault : PinFault → List ℕ
printed_fault NoSuchSlot = codes "no slot"
printed_fault Unborn = codes "unborn"
printed_fault Stale = codes "stale"
printed_fault (Busy seen) = codes "busy"
printed_fault PinsFull = codes "pins full"
printed_fault HeldFull = codes "held full"

-- a pin, an unpin, and a card, whose grant is in hexadecimal
abbrev pub printed_pin : Id → Result Descr PinFault → List ℕ
printed_pin id (Ok descr) = codes "pinned " ++ printed_id id ++ codes " " ++ printed_descr descr
printed_pin id (Err fault) = printed_fault fault

abbrev pub not_held : List ℕ
not_held = codes "not held"

abbrev pub printed_unpin : Id → Bool → List ℕ
printed_unpin id true = codes "unpinned " ++ printed_id id
printed_unpin id false = not_held

abbrev pub printed_card : Option Card → List ℕ
printed_card (Some card) = codes "card " ++ printed_id card.id ++ codes " " ++ printed_descr card.descr
    ++ codes " grant 0x" ++ digits 16 false card.grant.0
printed_card None = not_held

-- a line of the output
abbrev pub printed_answer : Answer → List ℕ
printed_answer (Replied reply) = printed reply
printed_answer (BadLine number) = bad_line number
printed_answer (NameCount count) = printed_count count
printed_answer (Named name id) = printed_row (row_at (name, id))
printed_answer (Pinned id result) = printed_pin id result ++ line_end
printed_answer (Unpinned id done) = printed_unpin id done ++ line_end
printed_answer (Shown card) = printed_card card ++ line_end
printed_answer NoWait = codes "none" ++ line_end
printed_answer (Lane number) = codes "lane " ++ decimal number ++ line_end
printed_answer (Journaled count) = codes "closed " ++ decimal count ++ line_end
