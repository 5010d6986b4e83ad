-- Paths that are opened.
use Rattle.std.proofs.Common.{◌≡◌, ℕ, refl}
use Rattle.machine_state.specs.Memory.{Swap}
use Rattle.machine_state.specs.World.{World}
use Rattle.guest_pages.specs.Pages.{memory_of}
use Rattle.guest_transfers.specs.Paths.{Path, path_at}
use Rattle.linux_calls.specs.FileCalls.{open_path, open_path_at}
use Rattle.linux_calls.specs.View.{View, with_parts}

-- what comes of a path that is read
pub opened_path : (v : View) (fd addr flags : ℕ) (path : Path) → ((swap : Swap) → path_at (memory_of v.pages swap) addr ≡ path) → (swap : Swap) (base : World)
    → open_path_at fd addr flags (with_parts swap v base) ≡ open_path fd path flags (with_parts swap v base)
unfolding open_path_at
opened_path v fd addr flags path is swap base = rw (is swap) refl
