use Rattle.std.proofs.lemmas.Result.{on_ok_weaker}
use Rattle.guest_pages.proofs.Aways.{ready_away}
use Rattle.swap_pager.proofs.Pagings.{swap_open}
use Rattle.program_load.proofs.FillLemmas.{brought_ready, bytes_kept, refused_by, refused_away}
use Rattle.program_load.proofs.load.Loaded.bring.Goals as goal

pub away_slot-requires : goal.away_slot-requires
away_slot-requires g c =
    refused_away _ c.args.addr c.args.len c.ready.result c.in-Err.miss c.requires.allowed c.ready.ensures.answer c.in-Err.is

pub bring-requires-clause-away : goal.bring-requires-clause-away
bring-requires-clause-away g c =
    ready_away c.args.self.now.pages _ c.args.addr c.args.len c.away_slot.result c.ready.result c.ready.ensures.answer (rw c.away_slot.ensures at c.in-Err.is)

pub bring-requires-clause-open : goal.bring-requires-clause-open
bring-requires-clause-open g c =
    swap_open c.args.self.now.pages _ _ c.away_slot.result c.requires.can c.limit.ensures.counts (bring-requires-clause-away g c)

pub returns-in-Err-clause-ready : goal.returns-in-Err-clause-ready
returns-in-Err-clause-ready g c =
    on_ok_weaker c.bring.result
    (brought_ready c.args.self.now.pages c.bring.new.pages c.args.addr c.args.len c.away_slot.result c.requires.some c.requires.one_page c.requires.allowed
    (refused_by c.ready.result _ _ c.ready.ensures.answer (rw c.away_slot.ensures at c.in-Err.is)))
    c.bring.ensures.brought

pub returns-in-Err-clause-bytes : goal.returns-in-Err-clause-bytes
returns-in-Err-clause-bytes g c = on_ok_weaker c.bring.result (bytes_kept _ _ _ _) c.bring.ensures.memory
