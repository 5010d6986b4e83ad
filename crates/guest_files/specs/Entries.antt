-- What an entry of the code is.
use Rattle.std.specs.Prelude.{string_bytes}
use Rattle.machine_state.specs.World.{GuestFile}
use Rattle.guest_files.specs.declared.entries.Entry.{Entry}

-- the file that an entry stands for
abbrev pub guest_file : Entry → GuestFile
guest_file entry =
    record { name = string_bytes entry.name; content = entry.bytes.items; exists = entry.exists; writable = entry.writable }
