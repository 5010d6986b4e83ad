-- The regions of small programs, computed.
use Rattle.std.proofs.Common.{◌≡◌, ℕ, true, false, List, [], ◌∷◌, map, refl}
use Rattle.std.specs.Prelude.{codes}
use Rattle.std.specs.List.{fold}
use Rattle.machine_state.specs.declared.kinds.Region.{Region}
use Rattle.elf_image.specs.declared.kinds.Segment.{Segment}
use Rattle.start_stack.specs.Stack.{stack_pointer, stack_size}
use Rattle.program_load.specs.Load.{with_segment, with_stack, file_byte}

abbrev segment : (addr file_len mem_len perms : ℕ) → Segment
segment addr file_len mem_len perms = record { addr = addr; file_at = 0; file_len = file_len; mem_len = mem_len; perms = record { 0 = perms } }

abbrev file_pages : (first count perms : ℕ) → Region
file_pages first count perms = record { first = first; count = count; perms = record { 0 = perms }; file = true }

abbrev stack_region : Region
stack_region = record { first = 0x7FFFFFEFF; count = 256; perms = record { 0 = 3 }; file = false }

abbrev regions_of : List Segment → List Region
regions_of segments = with_stack (fold with_segment [] segments)

-- `hello` has one page
hello : regions_of (segment 0x400000 159 159 5 ∷ []) ≡ file_pages 0x400 1 5 ∷ stack_region ∷ []
hello = refl

-- a segment has each page on which it has a byte, from the file or not
over_pages : regions_of (segment 0x10234 0x10 0x10AC 4 ∷ segment 0x20FFF 1 1 1 ∷ segment 0x21000 0 0x1001 2 ∷ []) ≡ file_pages 0x10 2 4 ∷ file_pages 0x20 1 1 ∷ file_pages 0x21 2 2 ∷ stack_region ∷ []
over_pages = refl

-- segments that touch are one region where their permissions are equal
touching : regions_of (segment 0x400000 0x1000 0x1000 5 ∷ segment 0x401000 1 1 5 ∷ segment 0x402000 1 1 3 ∷ segment 0x404000 1 1 3 ∷ [])
    ≡ file_pages 0x400 2 5 ∷ file_pages 0x402 1 3 ∷ file_pages 0x404 1 3 ∷ stack_region ∷ []
touching = refl

-- a byte is the file's, or 0
abbrev two : List Segment
two = record (segment 0x10002 3 9 4) { file_at = 2 } ∷ segment 0x20000 2 2 4 ∷ []

bytes_of : map (file_byte (10 ∷ 11 ∷ 12 ∷ 13 ∷ 14 ∷ 15 ∷ []) two) (0x10001 ∷ 0x10002 ∷ 0x10004 ∷ 0x10005 ∷ 0x1FFFF ∷ 0x20000 ∷ 0x20001 ∷ 0x20002 ∷ [])
    ≡ 0 ∷ 12 ∷ 14 ∷ 0 ∷ 0 ∷ 10 ∷ 11 ∷ 0 ∷ []
unfolding file_byte
bytes_of = refl

-- `hello` without further arguments and without environment starts with 400 bytes on its stack
pointer : stack_pointer (codes "hello" ∷ []) [] ≡ 0x7FFFFFFFEE70
unfolding stack_size
pointer = refl
