-- Checks in the order in which a call makes them.
use Rattle.std.specs.Prelude.{ℕ, Bool, false, List, [], ◌∷◌, Option, Some, None, Result, Ok, Err, if◌then◌else◌, is_none}
use Rattle.machine_state.specs.declared.kinds.Place.{Place}
use Rattle.guest_files.specs.declared.errno.Errno.{Errno}

-- a check: whether it fails, and the error that it answers then
abbrev pub Check : Type 0
Check = Bool × Errno

-- the error of the first check that fails
abbrev pub first_failing : List Check → Option Errno
first_failing [] = None
first_failing (check ∷ checks) = if check.0 then Some check.1 else first_failing checks

-- what a call answers: the error, and where there is none, the value
abbrev pub answer_of : {T : Type 0} → Option Errno → T → Result T Errno
answer_of None value = Ok value
answer_of (Some errno) value = Err errno

-- whether a descriptor is open for reading, and for writing
abbrev pub does_read : Option Place → Bool
does_read None = false
does_read (Some place) = place.reads

abbrev pub does_write : Option Place → Bool
does_write None = false
does_write (Some place) = place.writes

-- whether it is still the stream of its number
abbrev pub is_stream : Option Place → Bool
is_stream None = false
is_stream (Some place) = is_none place.file

-- the file that it is of
abbrev pub file_number : Option Place → Option ℕ
file_number None = None
file_number (Some place) = place.file
