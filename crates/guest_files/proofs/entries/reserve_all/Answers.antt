-- Each entry stands for the file that it stood for.
use Rattle.std.proofs.Common.{◌≡◌, ◌≢◌, ℕ, ◌<◌, ◌∙◌, arith, below_more, drop, length, get_or, map, set}
use Rattle.std.proofs.Math.Seq.{map-set_same}
use Rattle.std.proofs.lemmas.Grind.{common_steps}
use Rattle.std.proofs.lemmas.List.{get_or-map, get_or-set_other, get_or-set_same, get_or_default, take_at}
use Rattle.std.specs.List.{All}
use Rattle.machine_state.specs.World.{no_file}
use Rattle.guest_files.specs.Entries.{guest_file}
use Rattle.guest_files.specs.Files.{IsFit}
use Rattle.guest_files.specs.Kept.{HasRoom}
use Rattle.guest_files.proofs.Keeping.{entry_holds}
use Rattle.guest_files.proofs.entries.reserve_all.Goals as goal

pub reserve-requires : goal.reserve-requires
reserve-requires c =
    let fit = IsFit c.args.cap in
    let all : All fit (map guest_file c.loop-entry.entry-items) = rw c.loop-entry.invariant.files c.requires in
    let most = (entry_holds fit c.loop-entry.entry-items c.loop-entry.entry-index c.entry-item.result all (omega arith)).most in
    grind (arith, common_steps, most)

pub returns-in_err-reserve-clause-files : goal.returns-in_err-reserve-clause-files
returns-in_err-reserve-clause-files c =
    let before = c.loop-entry.entry-items in
    let after = set before c.loop-entry.entry-index c.reserve.new.entry in
    let same : map guest_file after ≡ map guest_file c.args.entries.now.items =
    map-set_same guest_file before c.loop-entry.entry-index c.reserve.new.entry c.entry-item.result c.reserve.ensures.file
    ∙ c.loop-entry.invariant.files in
    let len : length after ≡ c.args.entries.now.len = grind (arith, common_steps) in
    rw (take_at after (drop (length after) c.args.entries.now.items) c.args.entries.now.len len) same

pub loop-entry-preserved : goal.loop-entry-preserved
loop-entry-preserved c =
    let before = c.loop-entry.entry-items in
    let at = c.loop-entry.entry-index in
    let within : at < length before = omega arith in
    record {
      files = map-set_same guest_file before at c.reserve.new.entry c.entry-item.result c.reserve.ensures.file
          ∙ c.loop-entry.invariant.files;
      room = λ k d below.
          let Room : ℕ → Type 0 = λ i. HasRoom c.args.cap (get_or (set before at c.reserve.new.entry) i d) in
          let lower : (i : ℕ) → i < at → Room i =
          λ i h. let ne : i ≢ at = omega arith in
          rw (get_or-set_other before at i c.reserve.new.entry d ne) (c.loop-entry.invariant.room i d h) in
          let here : Room at = rw (get_or-set_same before at c.reserve.new.entry d within) c.in_ok-reserve.ensures.room in
          below_more Room at lower here k below;
      bytes = below_more _ _ c.loop-entry.invariant.bytes (rw (← c.loop-entry.invariant.files)
          (rw (get_or-map guest_file before at c.entry-item.result no_file within) c.reserve.ensures.bytes));
    }

pub returns-clause-bytes : goal.returns-clause-bytes
returns-clause-bytes c =
    let files = map guest_file c.args.entries.now.items in
    λ k d within.
    let before : k < c.loop-entry.entry-index = grind (arith, common_steps, within) in
    rw (get_or_default files k d no_file within) (c.loop-entry.invariant.bytes k before)
