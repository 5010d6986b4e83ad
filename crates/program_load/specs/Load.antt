-- The load: the first world of a program.
use Rattle.std.specs.Prelude.{ℕ, ◌≡◌, ◌+◌, ◌-◌, ◌/◌, ◌&&◌, Bool, true, false, if◌then◌else◌, List, [], ◌∷◌, nat_lt, nat_le, slice_index, slice_set, replicate, fold}
use Rattle.gpr_flags.specs.Registers.{RSP}
use Rattle.gpr_flags.specs.Flags.{no_flags}
use Rattle.machine_state.specs.Memory.{page_size, Memory, written}
use Rattle.machine_state.specs.Regions.{nature_at, perms_of}
use Rattle.machine_state.specs.State.{State, initial_extended}
use Rattle.machine_state.specs.World.{World, GuestFile, default_action, no_alternate, first_descriptors}
use Rattle.machine_state.specs.declared.kinds.Region.{Region}
use Rattle.region_map.specs.declared.kinds.Change.TheVariants.{Map}
use Rattle.region_map.specs.Ranges.{changed_regions}
use Rattle.elf_image.specs.declared.kinds.Segment.{Segment}
use Rattle.elf_image.specs.declared.kinds.Image.{Image}
use Rattle.elf_image.specs.Segments.{first_page, end_page, stack_pages}
use Rattle.start_stack.specs.Stack.{stack, stack_top, stack_pointer, random_after}

-- what a program is started from: its file and what was read of it, its arguments and environment, and the seed of the random stream
pub record Program : Type 0 where
  pub bytes : List ℕ
  pub image : Image
  pub args : List (List ℕ)
  pub env : List (List ℕ)
  pub seed : ℕ

-- ---- the pages
-- the regions once the pages of a segment are mapped: they are of a file, with the segment's permissions (ELF-64, segment permissions)
abbrev pub with_segment : List Region → Segment → List Region
with_segment regions segment = changed_regions (Map segment.perms true) (first_page segment) (end_page segment) regions

-- the stack's pages lie below the one where the stack ends (their number and place are this program's own)
abbrev pub stack_end : ℕ
stack_end = stack_top / page_size

abbrev pub stack_first : ℕ
stack_first = stack_end - stack_pages

-- the regions once the stack's pages are mapped: they are of no file, readable and writable
abbrev pub with_stack : List Region → List Region
with_stack regions = changed_regions (Map (record { 0 = 3 }) false) stack_first stack_end regions

-- the first regions: the pages of the segments, one segment after the other, and those of the stack
unfoldable pub first_regions : Image → List Region
first_regions image = with_stack (fold with_segment [] image.segments.items)

-- ---- the bytes
-- whether a segment has the byte at an address from the file (ELF-64, p_filesz)
abbrev pub has_byte : Segment → ℕ → Bool
has_byte segment addr = nat_le segment.addr addr && nat_lt addr (segment.addr + segment.file_len)

-- the byte that some segments have at an address from the file, and 0 where none has one (ELF-64, p_memsz; that the other bytes of
-- the segments' pages are 0 too is this program's own)
unfoldable pub file_byte : List ℕ → List Segment → ℕ → ℕ
file_byte bytes [] addr = 0
file_byte bytes (segment ∷ rest) addr =
    if has_byte segment addr then slice_index bytes (segment.file_at + (addr - segment.addr)) else file_byte bytes rest addr

-- the first memory: the segments' bytes, and the start stack, from its stack pointer up
unfoldable pub first_memory : Program → Memory
first_memory program = record {
  perms = λ page. perms_of (nature_at (first_regions program.image) page);
  byte = written (file_byte program.bytes program.image.segments.items) (stack_pointer program.args program.env)
      (stack program.image program.args program.env program.seed);
}

-- ---- the state and the world
-- all registers are 0 but rsp, which is the stack pointer, and rip, which is the entry (System V ABI, AMD64, 3.4.1; that the
-- others are 0 is this program's own)
unfoldable pub first_state : Program → State
first_state program = record {
  gprs = slice_set (replicate 16 0) RSP (stack_pointer program.args program.env);
  flags = no_flags;
  rip = program.image.entry;
  extended = initial_extended;
  fs = 0;
  gs = 0;
  steps = 0;
  memory = first_memory program;
}

-- the first world of a program that may map so many pages, and whose files, each with at most so many bytes, are these; from the
-- input that is left, and what stood on output and error output. The heap starts behind the segments, and is empty
unfoldable pub first_world : Program → (pages cap : ℕ) → (files : List GuestFile) → (left out err : List ℕ) → World
first_world program pages cap files left out err = record {
  state = first_state program;
  pages = pages;
  cap = cap;
  regions = first_regions program.image;
  heap_start = program.image.heap;
  break_at = program.image.heap;
  actions = λ signal. default_action;
  blocked = 0;
  alternate = no_alternate;
  descriptors = first_descriptors;
  files = files;
  left = left;
  out = out;
  err = err;
  random = random_after program.seed;
}

-- a file, the image that was read of it and a start stack are those of a program
pub record ArePartsOf (program : Program) (bytes : List ℕ) (image : Image) (start : List ℕ) : Type 0 where
  pub bytes_are : bytes ≡ program.bytes
  pub image_is : image ≡ program.image
  pub stack_is : start ≡ stack program.image program.args program.env program.seed
