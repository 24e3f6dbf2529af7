-- A slot's descriptor word: the kind in bits 0 and 1, the flag of manual reset in bit 2, the maximum in bits 3 to 33.
use Rattle.std.specs.Prelude.{ℕ, ◌+◌, ◌*◌, ◌/◌, ◌%◌, ◌==◌, ◌≤◌, ◌&&◌, nat_lt, not, Bool, true, false, if◌then◌else◌, Option, Some, None, IsTrue}
use Rattle.ob_rights.specs.declared.kind.Kind.{Kind}
use Rattle.ob_rights.specs.declared.kind.Kind.TheVariants.{Event, Mutex, Semaphore, Timer, Host}
use Rattle.pin_core.specs.declared.descr.Descr.{Descr}

-- bits 0 and 1 have no code left for a host's object, which the descriptor of an event stands for
abbrev pub kind_code : Kind → ℕ
kind_code Event = 0
kind_code Mutex = 1
kind_code Semaphore = 2
kind_code Timer = 3
kind_code (Host t) = t + 4

abbrev pub kind_of : ℕ → Option Kind
kind_of n = if n == 0 then Some Event else (if n == 1 then Some Mutex else
    (if n == 2 then Some Semaphore else (if n == 3 then Some Timer else None)))

abbrev pub flag : Bool → ℕ
flag true = 4
flag false = 0

-- the flag is an event's or a timer's, and a maximum other than 0 a semaphore's, which has one
abbrev pub fits : Kind → Bool → ℕ → Bool
fits Event manual m = m == 0
fits Mutex manual m = not manual && (m == 0)
fits Semaphore manual m = not manual && nat_lt 0 m
fits Timer manual m = m == 0
fits (Host t) manual m = false

-- a descriptor that a word can have
abbrev pub IsGiven : Descr → Type 0
IsGiven d = (d.max ≤ 2147483647) × IsTrue (fits d.kind d.manual d.max)

abbrev pub encoded : Descr → ℕ
encoded d = kind_code d.kind + flag d.manual + 8 * d.max

abbrev pub descr_of : Option Kind → Bool → ℕ → Option Descr
descr_of None manual m = None
descr_of (Some k) manual m = if fits k manual m then Some (record { kind = k; manual = manual; max = m }) else None

abbrev pub decoded : ℕ → Option Descr
decoded n = if nat_lt 2147483647 (n / 8) then None else descr_of (kind_of (n % 4)) (n / 4 % 2 == 1) (n / 8)

abbrev pub same_descr : Descr → Descr → Bool
same_descr a b = (kind_code a.kind == kind_code b.kind) && ((flag a.manual == flag b.manual) && (a.max == b.max))
