-- What a view for writing becomes, once the loan of a part of it is over: its matrix holds what was last written.
use Rattle.std.specs.Prelude.{ℕ, List, []}
use Rattle.std.specs.Borrow.{Lends, MutBor, Fml, RattleType, Array}
use mir.Syntax.{named}
use Rattle.p3_matrix.specs.Writes.{with_values, with_row}
use Rattle.p3_matrix.specs.declared.views.RowMajorMatrixViewMut.{RowMajorMatrixViewMut}
use Rattle.p3_matrix.specs.contracts.views.RowMajorMatrixViewMut.{the_row}

-- the view of its matrix with ws written over the entries
abbrev pub view_with_values : {T : Type 0} → RowMajorMatrixViewMut T → List T → RowMajorMatrixViewMut T
view_with_values v ws = record v { matrix = record v.matrix { now = with_values v.matrix.now ws } }

-- the view of its matrix with ws written over the entries from row i on
abbrev pub view_with_row : {T : Type 0} → RowMajorMatrixViewMut T → ℕ → List T → RowMajorMatrixViewMut T
view_with_row v i ws = record v { matrix = record v.matrix { now = with_row v.matrix.now i ws } }

-- the matrix of the view ends with its entries as they are left
abbrev pub LendsViewValues : (T : RattleType) → MutBor (RowMajorMatrixViewMut T.Denot) → MutBor (List T.Denot) → Fml
LendsViewValues T v lent = Lends (the_row (record { mir = named 1; lft = [] }) T) (Array T 0) v lent (view_with_values v.now)

-- the matrix of the view ends with row i as it is left
abbrev pub LendsViewRow : (T : RattleType) → MutBor (RowMajorMatrixViewMut T.Denot) → ℕ → MutBor (List T.Denot) → Fml
LendsViewRow T v i lent = Lends (the_row (record { mir = named 1; lft = [] }) T) (Array T 0) v lent (view_with_row v.now i)
