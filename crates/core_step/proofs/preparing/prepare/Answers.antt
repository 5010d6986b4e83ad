use Rattle.row_table.specs.declared.kinds.Fields.{Fields}
use Rattle.x_decode.proofs.Classes.{Registers, decoded-registers, decoded-row}
use Rattle.core_step.specs.Fits.{RegistersFit}
use Rattle.core_step.proofs.Performed.{row-performed}
use Rattle.core_step.proofs.preparing.prepare.Goals as goal

-- the registers of an instruction's fields
fits-from : (f : Fields) → Registers f → RegistersFit f
fits-from f registers = record { r = registers.r; x = registers.x; b = registers.b }

pub row-row-requires : goal.row-row-requires
row-row-requires c = decoded-row c.args.d.now.fields c.args.d.now c.requires.spells

pub plan_form-requires-clause-registers : goal.plan_form-requires-clause-registers
plan_form-requires-clause-registers c = fits-from c.args.d.now.fields (decoded-registers c.args.d.now.fields c.args.d.now c.requires.spells)

pub plan_form-requires-clause-performed : goal.plan_form-requires-clause-performed
plan_form-requires-clause-performed c = row-performed c.args.d.now.row c.row-row.result c.row-row.ensures

pub alignment_form-requires : goal.alignment_form-requires
alignment_form-requires c = fits-from c.args.d.now.fields (decoded-registers c.args.d.now.fields c.args.d.now c.requires.spells)

pub returns-clause-prepared : goal.returns-clause-prepared
returns-clause-prepared c = record {
  spells = c.requires.spells;
  some = c.requires.some;
  most = c.requires.most;
  row = c.row-row.result;
  row_is = c.row-row.ensures;
  plan = c.plan_form.ensures.is;
  alignment = c.alignment_form.ensures.is;
  plan_fits = c.plan_form.ensures.fits;
  alignment_fits = c.alignment_form.ensures.fits;
}
