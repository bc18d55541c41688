use Rattle.std.proofs.Common.{◌≡◌, ◌≤◌, length, map, take}
use Rattle.std.specs.Prelude.{vec_capacity}
use Rattle.examples.proofs.extension_folding.embed.Given as goal

-- the first entries are there, with room for the others
abbrev pub invariant-loop-value : goal.invariant-loop-value
invariant-loop-value g l =
    record {
      items : l.embedded.items ≡ map g.E.ExtensionField.embedded (take l.value-index l.fn.values.values);
      room : length l.fn.values.values ≤ vec_capacity l.embedded;
    }
