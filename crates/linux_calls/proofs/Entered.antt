-- Lemmas on a call that goes on once the page that it waited for is entered.
use Rattle.std.proofs.Common.{◌≡◌}
use Rattle.guest_pages.specs.Table.{perms_in}
use Rattle.guest_pages.specs.Pages.{PagesValue, table_of, mapped_count}
use Rattle.page_fixture.proofs.Entries.{perms_some}
use Rattle.linux_calls.specs.declared.kinds.Stage.{Stage}
use Rattle.linux_calls.specs.declared.kinds.Stage.TheVariants.{Start, Listing, Moving, Copying}
use Rattle.linux_calls.specs.View.{View, FitParts}
use Rattle.linux_calls.specs.Waiting.{CanGoOnBy}

module _ (v : View) (pages : PagesValue) (perms : perms_in (table_of pages) ≡ perms_in (table_of v.pages)) where
  pub entered_goes_on : (stage : Stage) → CanGoOnBy stage v → CanGoOnBy stage (record v { pages = pages })
  entered_goes_on Start can = tt
  entered_goes_on Listing can = can
  entered_goes_on (Moving done) can = rw perms can
  entered_goes_on (Copying at done) can = record {
    low = can.low;
    mapped = λ addr above below. perms_some v.pages pages _ perms (can.mapped addr above below);
    within = can.within;
    file = can.file;
    offset = can.offset;
  }

  pub entered_fits : mapped_count pages ≡ mapped_count v.pages → FitParts v → FitParts (record v { pages = pages })
  entered_fits count fit = record { perms = rw perms fit.perms; count = rw count fit.count }
