-- A byte of a guest's memory, told to one who looks at it from outside.
use Rattle.std.specs.Prelude.{◌≡◌, ◌≤◌, ◌+◌, ℕ, Option, Some, None, is_some, is_none, Result, Ok, Err, is_err, IfOk, OnOk}
use Rattle.host_edge.specs.declared.outside.HostCall.{HostCall}
use Rattle.machine_state.specs.declared.kinds.Kind.TheVariants.{Read}
use Rattle.machine_state.specs.declared.kinds.Miss.{Miss}
use Rattle.machine_state.specs.Memory.{Memory, Swap, miss_at}
use Rattle.guest_pages.specs.Table.{blocked, perms_in}
use Rattle.guest_pages.specs.Pages.{PagesValue, byte_of, memory_of, table_of}
use Rattle.guest_run.specs.declared.guest.Guest.{Guest}
use Rattle.guest_run.specs.Step.{paging_calls}
use Rattle.guest_run.specs.Tally.{IsCounted}
use Rattle.guest_run.specs.Guests.{Around}
use Rattle.guest_run.specs.Following.{IsGuest, Leads, failed_in}

-- the byte at an address, where it can be read
abbrev pub unless_missed : Option Miss → (byte : ℕ) → Option ℕ
unless_missed None byte = Some byte
unless_missed (Some miss) byte = None

abbrev pub byte_in : Memory → (addr : ℕ) → Option ℕ
byte_in memory addr = unless_missed (miss_at memory.perms Read addr) (memory.byte addr)

-- the byte at an address was read, or something keeps it from being read now
abbrev pub IsRead : PagesValue → (addr : ℕ) → Result ℕ Miss → Type 0
IsRead pages addr (Ok byte) = (blocked (table_of pages) Read addr 1 ≡ None) × ((swap : Swap) → byte ≡ byte_of pages swap addr)
IsRead pages addr (Err miss) = blocked (table_of pages) Read addr 1 ≡ Some miss

-- a guest's byte was told: it is that of each world that the guest stands for, and the guest stands for it still. It stands in a frame,
-- whatever the swap holds, and there is one exactly where the permissions say so. Or a call on the swap failed, and so has the guest.
-- Nothing changed but which pages are in frames
pub record Tells (addr : ℕ) (old new : Guest) (before after : Around) (result : Result (Option ℕ) HostCall) : Type 0 where
  pub follows : Leads old new before after (λ Stands Told files from.
      IfOk result (λ byte. byte ≡ byte_in from.state.memory addr) × OnOk result (Stands from))
  pub shown : IfOk result (λ byte. (swap : Swap) → byte ≡ byte_in (memory_of new.machine.pages swap) addr)
  pub readable : IfOk result (λ byte. is_some byte ≡ is_none (miss_at (perms_in (table_of old.machine.pages)) Read addr))
  pub keeps : new ≡ record old { machine = record old.machine { pages = new.machine.pages }; pager = new.pager; failed = is_err result }
  pub guest : OnOk result (IsGuest old before → IsGuest new after)
  pub opened : after.opened ≡ before.opened
  pub cause : IsCounted paging_calls (failed_in result) before.tally after.tally
  pub loads : new.pager.loads ≤ old.pager.loads + 1
