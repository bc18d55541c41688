-- What a slice becomes, once the loan of its two parts is over.
use Rattle.std.specs.Prelude.{List, ◌++◌}
use Rattle.std.specs.Borrow.{LendsBoth, MutBor, Fml, RattleType, Array}

-- the slice ends as both parts are left, one after the other
abbrev pub LendsParts : (T : RattleType) → MutBor (List T.Denot) → MutBor (List T.Denot) × MutBor (List T.Denot) → Fml
LendsParts T xs lent = LendsBoth (Array T 0) (Array T 0) (Array T 0) xs lent ◌++◌
