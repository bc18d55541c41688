-- What a lender of entries becomes, once the loan is over: it holds what was last written through it.
use Rattle.std.specs.Prelude.{ℕ, List}
use Rattle.std.specs.Borrow.{Lends, MutBor, Fml, RattleType, Array}
use Rattle.p3_matrix.specs.RowMajor.{RowMajor}
use Rattle.p3_matrix.specs.Writes.{with_values, with_row}
use Rattle.p3_matrix.specs.contracts.dense.RowMajorMatrix.{the_row}

-- the matrix ends with its entries as they are left
abbrev pub LendsValues : (T : RattleType) → MutBor (RowMajor T.Denot) → MutBor (List T.Denot) → Fml
LendsValues T m lent = Lends (the_row T) (Array T 0) m lent (with_values m.now)

-- the matrix ends with row i as it is left
abbrev pub LendsRow : (T : RattleType) → MutBor (RowMajor T.Denot) → ℕ → MutBor (List T.Denot) → Fml
LendsRow T m i lent = Lends (the_row T) (Array T 0) m lent (with_row m.now i)
