use Rattle.linux_calls.specs.declared.kinds.Call.TheVariants.{Open, Fstat, Uname, ArchPrctl, ClockGettime, Openat}
use Rattle.linux_calls.specs.View.{view_of}
use Rattle.linux_calls.proofs.CallLemmas.{part_of_does, first_needs}
use Rattle.std.proofs.Common.{arith}
use Rattle.linux_calls.specs.Table.{act}
use Rattle.linux_calls.proofs.WaitLemmas.{begins_waiting}
use Rattle.linux_calls.proofs.answering.slow.Goals as goal

pub returns-in-Fstat-clause-does : goal.returns-in-Fstat-clause-does
returns-in-Fstat-clause-does c =
    rw c.in-Fstat.is (part_of_does Fstat (view_of c.args.w.now) (view_of c.fstat.new.w) c.fstat.result c.requires.begins (rw c.in-Fstat.is at c.requires.is) c.fstat.ensures.does)

pub returns-in-Fstat-clause-needs : goal.returns-in-Fstat-clause-needs
returns-in-Fstat-clause-needs c =
    first_needs Fstat (view_of c.args.w.now) (view_of c.fstat.new.w) c.fstat.result c.requires.begins (rw c.in-Fstat.is at c.requires.is) c.fstat.ensures.does c.fstat.ensures.needs

pub returns-in-Uname-clause-does : goal.returns-in-Uname-clause-does
returns-in-Uname-clause-does c =
    rw c.in-Uname.is (part_of_does Uname (view_of c.args.w.now) (view_of c.uname.new.w) c.uname.result c.requires.begins (rw c.in-Uname.is at c.requires.is) c.uname.ensures.does)

pub returns-in-Uname-clause-needs : goal.returns-in-Uname-clause-needs
returns-in-Uname-clause-needs c =
    first_needs Uname (view_of c.args.w.now) (view_of c.uname.new.w) c.uname.result c.requires.begins (rw c.in-Uname.is at c.requires.is) c.uname.ensures.does c.uname.ensures.needs

pub returns-in-ArchPrctl-clause-does : goal.returns-in-ArchPrctl-clause-does
returns-in-ArchPrctl-clause-does c =
    rw c.in-ArchPrctl.is (part_of_does ArchPrctl (view_of c.args.w.now) (view_of c.arch_prctl.new.w) c.arch_prctl.result c.requires.begins (rw c.in-ArchPrctl.is at c.requires.is) c.arch_prctl.ensures.does)

pub returns-in-ArchPrctl-clause-needs : goal.returns-in-ArchPrctl-clause-needs
returns-in-ArchPrctl-clause-needs c =
    first_needs ArchPrctl (view_of c.args.w.now) (view_of c.arch_prctl.new.w) c.arch_prctl.result c.requires.begins (rw c.in-ArchPrctl.is at c.requires.is) c.arch_prctl.ensures.does c.arch_prctl.ensures.needs

pub returns-in-ClockGettime-clause-does : goal.returns-in-ClockGettime-clause-does
returns-in-ClockGettime-clause-does c =
    rw c.in-ClockGettime.is (part_of_does ClockGettime (view_of c.args.w.now) (view_of c.clock_gettime.new.w) c.clock_gettime.result c.requires.begins (rw c.in-ClockGettime.is at c.requires.is) c.clock_gettime.ensures.does)

pub returns-in-ClockGettime-clause-needs : goal.returns-in-ClockGettime-clause-needs
returns-in-ClockGettime-clause-needs c =
    first_needs ClockGettime (view_of c.args.w.now) (view_of c.clock_gettime.new.w) c.clock_gettime.result c.requires.begins (rw c.in-ClockGettime.is at c.requires.is) c.clock_gettime.ensures.does c.clock_gettime.ensures.needs

pub returns-in-Open-clause-does : goal.returns-in-Open-clause-does
returns-in-Open-clause-does c =
    rw c.in-Open.is (part_of_does Open (view_of c.args.w.now) (view_of c.open.new.w) c.open.result c.requires.begins (rw c.in-Open.is at c.requires.is) c.open.ensures.does)

pub returns-in-Open-clause-needs : goal.returns-in-Open-clause-needs
returns-in-Open-clause-needs c =
    first_needs Open (view_of c.args.w.now) (view_of c.open.new.w) c.open.result c.requires.begins (rw c.in-Open.is at c.requires.is) c.open.ensures.does c.open.ensures.needs

pub returns-in-Openat-clause-does : goal.returns-in-Openat-clause-does
returns-in-Openat-clause-does c =
    rw c.in-Openat.is (part_of_does Openat (view_of c.args.w.now) (view_of c.openat.new.w) c.openat.result c.requires.begins (rw c.in-Openat.is at c.requires.is) c.openat.ensures.does)

pub returns-in-Openat-clause-needs : goal.returns-in-Openat-clause-needs
returns-in-Openat-clause-needs c =
    first_needs Openat (view_of c.args.w.now) (view_of c.openat.new.w) c.openat.result c.requires.begins (rw c.in-Openat.is at c.requires.is) c.openat.ensures.does c.openat.ensures.needs

pub returns-in-Fstat-clause-waits : goal.returns-in-Fstat-clause-waits
returns-in-Fstat-clause-waits c =
    begins_waiting Fstat (act Fstat) (view_of c.args.w.now) (view_of c.fstat.new.w) c.fstat.result c.requires.begins (rw c.in-Fstat.is at c.requires.is) (omega arith) c.fstat.ensures.does

pub returns-in-Uname-clause-waits : goal.returns-in-Uname-clause-waits
returns-in-Uname-clause-waits c =
    begins_waiting Uname (act Uname) (view_of c.args.w.now) (view_of c.uname.new.w) c.uname.result c.requires.begins (rw c.in-Uname.is at c.requires.is) (omega arith) c.uname.ensures.does

pub returns-in-ArchPrctl-clause-waits : goal.returns-in-ArchPrctl-clause-waits
returns-in-ArchPrctl-clause-waits c =
    begins_waiting ArchPrctl (act ArchPrctl) (view_of c.args.w.now) (view_of c.arch_prctl.new.w) c.arch_prctl.result c.requires.begins (rw c.in-ArchPrctl.is at c.requires.is) (omega arith) c.arch_prctl.ensures.does

pub returns-in-ClockGettime-clause-waits : goal.returns-in-ClockGettime-clause-waits
returns-in-ClockGettime-clause-waits c =
    begins_waiting ClockGettime (act ClockGettime) (view_of c.args.w.now) (view_of c.clock_gettime.new.w) c.clock_gettime.result c.requires.begins (rw c.in-ClockGettime.is at c.requires.is) (omega arith) c.clock_gettime.ensures.does

pub returns-in-Open-clause-waits : goal.returns-in-Open-clause-waits
returns-in-Open-clause-waits c =
    begins_waiting Open (act Open) (view_of c.args.w.now) (view_of c.open.new.w) c.open.result c.requires.begins (rw c.in-Open.is at c.requires.is) (omega arith) c.open.ensures.does

pub returns-in-Openat-clause-waits : goal.returns-in-Openat-clause-waits
returns-in-Openat-clause-waits c =
    begins_waiting Openat (act Openat) (view_of c.args.w.now) (view_of c.openat.new.w) c.openat.result c.requires.begins (rw c.in-Openat.is at c.requires.is) (omega arith) c.openat.ensures.does
