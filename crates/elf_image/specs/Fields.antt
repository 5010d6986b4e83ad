-- The fields of an ELF file, by their names in the standard, and the values of theirs that count.
use Rattle.std.specs.Prelude.{ℕ, ◌+◌, ◌*◌, List, [], ◌∷◌, take, drop, slice_index}
use Rattle.byteorder.specs.Endian.{little_number}

-- the number in so many bytes from a place on, the lowest first; bytes that a file lacks count as 0 (ELF-64, data representation)
unfoldable pub field : (bytes : List ℕ) (place size : ℕ) → ℕ
field bytes place size = little_number size (drop place bytes)

-- the identification at the file's start (ELF-64, ELF identification)
abbrev pub ei_mag : List ℕ → List ℕ
ei_mag bytes = take 4 bytes

abbrev pub ei_class : List ℕ → ℕ
ei_class bytes = slice_index bytes 4

abbrev pub ei_data : List ℕ → ℕ
ei_data bytes = slice_index bytes 5

abbrev pub ei_version : List ℕ → ℕ
ei_version bytes = slice_index bytes 6

-- the file header (ELF-64, ELF header): the kind of file, the machine, the version, the entry, and where the program headers
-- stand, how long each is and how many they are
abbrev pub e_type : List ℕ → ℕ
e_type bytes = field bytes 16 2

abbrev pub e_machine : List ℕ → ℕ
e_machine bytes = field bytes 18 2

abbrev pub e_version : List ℕ → ℕ
e_version bytes = field bytes 20 4

abbrev pub e_entry : List ℕ → ℕ
e_entry bytes = field bytes 24 8

abbrev pub e_phoff : List ℕ → ℕ
e_phoff bytes = field bytes 32 8

abbrev pub e_phentsize : List ℕ → ℕ
e_phentsize bytes = field bytes 54 2

abbrev pub e_phnum : List ℕ → ℕ
e_phnum bytes = field bytes 56 2

-- the program header at a place (ELF-64, program header): the kind of segment, its permissions, and its place and size in the
-- file and in memory
abbrev pub p_type : List ℕ → ℕ → ℕ
p_type bytes header = field bytes header 4

abbrev pub p_flags : List ℕ → ℕ → ℕ
p_flags bytes header = field bytes (header + 4) 4

abbrev pub p_offset : List ℕ → ℕ → ℕ
p_offset bytes header = field bytes (header + 8) 8

abbrev pub p_vaddr : List ℕ → ℕ → ℕ
p_vaddr bytes header = field bytes (header + 16) 8

abbrev pub p_filesz : List ℕ → ℕ → ℕ
p_filesz bytes header = field bytes (header + 32) 8

abbrev pub p_memsz : List ℕ → ℕ → ℕ
p_memsz bytes header = field bytes (header + 40) 8

-- how long the file header and a program header are (ELF-64, ELF header and program header)
abbrev pub file_header_size : ℕ
file_header_size = 64

abbrev pub header_size : ℕ
header_size = 56

-- where the program header with a number from 0 stands
abbrev pub header_place : List ℕ → ℕ → ℕ
header_place bytes number = e_phoff bytes + header_size * number

-- the magic number, and the values of the identification: 64 bits, little-endian, version 1 (ELF-64, ELF identification)
abbrev pub magic : List ℕ
magic = 0x7F ∷ 0x45 ∷ 0x4C ∷ 0x46 ∷ []

abbrev pub elfclass64 : ℕ
elfclass64 = 2

abbrev pub elfdata2lsb : ℕ
elfdata2lsb = 1

abbrev pub ev_current : ℕ
ev_current = 1

-- an executable, and one that can stand at any address (ELF-64, e_type); x86-64 (System V ABI, AMD64, 4.1)
abbrev pub et_exec : ℕ
et_exec = 2

abbrev pub et_dyn : ℕ
et_dyn = 3

abbrev pub em_x86_64 : ℕ
em_x86_64 = 62

-- a segment that is loaded, and the path of an interpreter (ELF-64, p_type)
abbrev pub pt_load : ℕ
pt_load = 1

abbrev pub pt_interp : ℕ
pt_interp = 3
