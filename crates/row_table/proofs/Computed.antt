-- What the checker computes over the whole table. All else follows from these by lemmas.
use Rattle.std.proofs.Common.{◌≡◌, true, refl, sym, subst, length}
use Rattle.row_table.specs.Legacy.{legacy, one_byte, two_byte, three_byte}
use Rattle.row_table.specs.Vex.{vex_rows, vex_0f, vex_0f38, vex_0f3a}
use Rattle.row_table.specs.Evex.{evex_rows, evex_0f, evex_0f38, evex_0f3a}
use Rattle.row_table.specs.Letters.{layout_of, letters}
use Rattle.row_table.specs.Rows.{rows, table, starts}
use Rattle.row_table.proofs.Index.{index_fits, indexed, passes_by, ranged, rises, at_most}
use Rattle.row_table.proofs.Pairs.{ordered, passes_near, near, together}
use Rattle.row_table.proofs.Tupled.{tupled}

-- the rows of the definition are those of the code
pub rows-table : rows ≡ table
unfolding rows legacy one_byte two_byte three_byte vex_rows vex_0f vex_0f38 vex_0f3a evex_rows evex_0f evex_0f38 evex_0f3a table
rows-table = refl

table-indexed : index_fits starts table ≡ true
unfolding index_fits indexed passes_by starts table
table-indexed = refl

table-ranged : ranged table ≡ true
unfolding ranged table
table-ranged = refl

pub starts-rise : rises 0 starts ≡ true
unfolding rises starts
starts-rise = refl

table-within : at_most (length table) starts ≡ true
unfolding at_most starts table
table-within = refl

pub starts-length : length starts ≡ 3073
unfolding starts
starts-length = refl

table-ordered : ordered 0 table ≡ true
unfolding ordered table
table-ordered = refl

table-together : near together table ≡ true
unfolding near passes_near layout_of letters table
table-together = refl

table-tupled : tupled table ≡ true
unfolding tupled layout_of letters table
table-tupled = refl

-- ---- the same of the rows of the definition
pub rows-indexed : index_fits starts rows ≡ true
rows-indexed = subst (λ t. index_fits starts t ≡ true) (sym rows-table) table-indexed

pub rows-ranged : ranged rows ≡ true
rows-ranged = subst (λ t. ranged t ≡ true) (sym rows-table) table-ranged

pub starts-within : at_most (length rows) starts ≡ true
starts-within = subst (λ t. at_most (length t) starts ≡ true) (sym rows-table) table-within

pub rows-ordered : ordered 0 rows ≡ true
rows-ordered = subst (λ t. ordered 0 t ≡ true) (sym rows-table) table-ordered

pub rows-together : near together rows ≡ true
rows-together = subst (λ t. near together t ≡ true) (sym rows-table) table-together

pub rows-tupled : tupled rows ≡ true
rows-tupled = subst (λ t. tupled t ≡ true) (sym rows-table) table-tupled
