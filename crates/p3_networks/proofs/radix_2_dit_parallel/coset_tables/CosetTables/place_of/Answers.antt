use Rattle.std.proofs.Common.{rules, sym, subst, ◌<◌, length}
use Rattle.p3_networks.proofs.radix_2_dit_parallel.coset_tables.CosetTables.place_of.Goals as goal

pub unreachable-requires : goal.unreachable-requires
unreachable-requires g c =
    let i = c.requires.0 in let at = c.requires.1 in
    c.find.ensures.none (search rules) i (subst (λ xs. i < length xs) (sym c.as_slice.ensures) at.0) at
