use Rattle.std.proofs.Common.{◌≡◌, ◌*◌, ◌/◌, arith, refl}
use Rattle.machine_state.specs.Memory.{page_size}
use Rattle.linux_calls.specs.Mapping.{filled_from, mapped_at}
use Rattle.linux_calls.specs.View.{view_of}
use Rattle.linux_calls.proofs.CopyLemmas.{mapped_then, mapped_refused, part_then}
use Rattle.std.proofs.Common.{◌+◌, rules}
use Rattle.region_map.specs.Calls.{pages_up}
use Rattle.linux_calls.specs.Call.{rsi}
use Rattle.linux_calls.specs.Mapping.{mmap_change}
use Rattle.linux_calls.proofs.SwapLemmas.{swap_changed, swap_then}
use Rattle.linux_calls.proofs.WaitLemmas.{mapping_waits}
use Rattle.linux_calls.proofs.copying.map_at.Goals as goal

pub returns-in-Ok-clause-does : goal.returns-in-Ok-clause-does
returns-in-Ok-clause-does c =
    let page : c.args.page * 4096 / 4096 ≡ c.args.page = omega arith in
    let count = rw c.rsi.ensures at c.pages_up-count.ensures.value in
    let perms = rw c.rdx.ensures at c.asked_perms-perms.ensures.value in
    let anonymous = rw c.get.ensures at c.is_anonymous-file.ensures in
    part_then (view_of c.args.w.now) c.args.page c.map.new.pages c.map.new.self (mapped_at c.args.page) (filled_from (c.args.page * page_size)) (view_of c.fill.new.w) c.fill.result
    (mapped_then (view_of c.args.w.now) c.args.page c.map.new.pages c.map.new.self
    (λ pass. let e = (rw (page, count, perms, anonymous) at c.in-Ok.ensures.full).1 pass in cc)
    (rw (page, count, perms, anonymous) at c.in-Ok.ensures.ok) c.in-Ok.ensures.fit c.in-Ok.ensures.heap.0 c.in-Ok.ensures.heap.1)
    c.fill.ensures.does

pub returns-in-Err-clause-does : goal.returns-in-Err-clause-does
returns-in-Err-clause-does c =
    let page : c.args.page * 4096 / 4096 ≡ c.args.page = omega arith in
    let count = rw c.rsi.ensures at c.pages_up-count.ensures.value in
    let perms = rw c.rdx.ensures at c.asked_perms-perms.ensures.value in
    let anonymous = rw c.get.ensures at c.is_anonymous-file.ensures in
    mapped_refused (view_of c.args.w.now) c.args.page c.map.new.pages c.map.new.self
    ((rw (page, count, perms, anonymous) at c.in-Err.ensures.full).0 refl) c.in-Err.ensures.err.0 c.in-Err.ensures.err.1

pub returns-in-Ok-clause-kept : goal.returns-in-Ok-clause-kept
returns-in-Ok-clause-kept c =
    let page : c.args.page * 4096 / 4096 ≡ c.args.page = omega arith in
    let count = rw c.rsi.ensures at c.pages_up-count.ensures.value in
    let perms = rw c.rdx.ensures at c.asked_perms-perms.ensures.value in
    let anonymous = rw c.get.ensures at c.is_anonymous-file.ensures in
    let v = view_of c.args.w.now in
    record {
      parts = search rules;
      pages = search rules;
      swap = swap_then v.pages c.map.new.pages (view_of c.fill.new.w).pages
          (swap_changed (mmap_change v.gprs) c.args.page (c.args.page + pages_up (rsi v.gprs)) v.regions.regions c.map.new.self.regions v.pages c.map.new.pages
          (rw (page, count, perms, anonymous) at c.in-Ok.ensures.ok))
          c.fill.ensures.kept.swap;
    }

pub returns-in-Ok-clause-waits : goal.returns-in-Ok-clause-waits
returns-in-Ok-clause-waits c =
    mapping_waits (view_of c.args.w.now) c.map.new.pages c.map.new.self c.args.page (view_of c.fill.new.w) c.fill.result c.requires.begins c.requires.is c.requires.high c.fill.ensures.waits
