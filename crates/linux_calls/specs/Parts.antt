-- The parts of a world that the calls on files and on regions work on.
use Rattle.std.specs.Prelude.{ℕ, ◌/◌, Bool, ◌||◌, if◌then◌else◌, nat_lt, List, length}
use Rattle.machine_state.specs.Memory.{page_size}
use Rattle.machine_state.specs.Regions.{nature_at, perms_of, page_sum, most_regions}
use Rattle.machine_state.specs.World.{World}
use Rattle.machine_state.specs.declared.kinds.Region.{Region}
use Rattle.guest_files.specs.Files.{FilesValue}
use Rattle.region_map.specs.Ranges.{is_in, changed_regions}
use Rattle.region_map.specs.declared.kinds.Change.{Change}
use Rattle.region_map.specs.declared.kinds.Change.TheVariants.{Map, Unmap, Protect}

-- the files and the descriptors of a world
abbrev pub files_of : World → FilesValue
files_of w = record { files = w.files; places = w.descriptors; cap = w.cap }

abbrev pub with_files : World → FilesValue → World
with_files w value = record w { files = value.files; descriptors = value.places }

-- whether regions are more than there may be, or have more pages than may be mapped
abbrev pub passes_limits : (pages : ℕ) → List Region → Bool
passes_limits pages regions = nat_lt most_regions (length regions) || nat_lt pages (page_sum regions)

-- the bytes of memory where those of the pages from one on and below another are 0
abbrev pub cleared : (from to : ℕ) → (ℕ → ℕ) → ℕ → ℕ
cleared from to byte addr = if is_in from to (addr / page_size) then 0 else byte addr

-- the bytes of memory after a change of such pages: those that are mapped or unmapped are 0
abbrev pub bytes_after : Change → (from to : ℕ) → (ℕ → ℕ) → ℕ → ℕ
bytes_after (Map perms file) from to byte = cleared from to byte
bytes_after Unmap from to byte = cleared from to byte
bytes_after (Protect perms) from to byte = byte

-- the world after such a change: the permissions of its memory are those of its regions
abbrev pub with_change : Change → (from to : ℕ) → World → World
with_change change from to w =
    let regions = changed_regions change from to w.regions in
    record w {
      regions = regions;
      state = record w.state {
        memory = record {
          perms = λ page. perms_of (nature_at regions page);
          byte = bytes_after change from to w.state.memory.byte;
        };
      };
    }
